use Rattle.std.proofs.Common.{ℕ, ◌+◌, ◌*◌, ◌/◌, sym, ap, ◌∙◌, arith}
use Rattle.lists.proofs.Fill.{fill_step, fill_at, fill_all}
use Rattle.fewest.specs.Best.{miss}
use Rattle.best_message.specs.Steps.{digit_cost}
use Rattle.best_message.proofs.Spread.{miss_bound}
use Rattle.best_message.proofs.digit_costs.Goals as goal

pub overflow_mul-costs : goal.overflow_mul-costs
overflow_mul-costs c =
    let e = c.missed.ensures in
    omega (arith, miss_bound (c.loop-place.place / 32) c.parity_of-sent.result)

pub loop-place-preserved : goal.loop-place-preserved
unfolding digit_cost
loop-place-preserved c =
    let loop = c.loop-place in
    let taps = c.args.taps in
    let here = c.from.ensures in
    let value =
    ap (λ (n : ℕ). 2 * n) (c.missed.ensures ∙ ap (miss (loop.place / 32)) c.parity_of-sent.ensures)
    ∙ ap (digit_cost taps) (sym here) in
    fill_at 96 (digit_cost taps)
    (fill_step 96 (digit_cost taps) loop.invariant c.from.result _ here (omega arith) value) (loop.place + 1)
    (ap (λ (n : ℕ). n + 1) here)

pub returns : goal.returns
returns c = fill_all 96 (digit_cost c.args.taps) c.loop-place.invariant (omega arith)
