-- Four values more.
use Rattle.std.proofs.Common.{◌≡◌, ℕ, ◌+◌, ◌*◌, ◌<◌, ◌∙◌, get_or, subst, arith}
use Rattle.field.specs.Field.{power}
use Rattle.field.specs.Roots.{poly}
use Rattle.lists.proofs.Fill.{fill_at}
use Rattle.reed_solomon.specs.Rows.{total}
use Rattle.reed_solomon.specs.Search.{Terms}
use Rattle.reed_solomon.proofs.Searching.{terms_value, fill_four}
use Rattle.reed_solomon.proofs.roots.values.Goals as goal

pub loop-turn-preserved : goal.loop-turn-preserved
loop-turn-preserved c =
    let at = c.loop-turn in
    let l = c.args.l.now in
    let table = c.term_table-table.result in
    let q = 4 * at.turn in
    let next : q + 4 ≡ 4 * (at.turn + 1) = omega arith in
    let term : (j : ℕ) → j < 4 → total 9 (λ k. get_or table (get_or at.e k 0 + k * j) 0) ≡ poly l (power 2 (q + j)) =
    λ j h. terms_value l at.e table q j c.told-l c.fits-l c.term_table-table.ensures h at.invariant.1 in (
      fill_at 204 _ (fill_four _ at.v q _ _ _ _ (omega arith) at.invariant.0 (c.value.ensures ∙ term 0 (omega arith))
          (c.value-in-loop-turn.ensures ∙ term 1 (omega arith)) (c.value-in-loop-turn-2.ensures ∙ term 2 (omega arith))
          (c.value-in-loop-turn-3.ensures ∙ term 3 (omega arith))) (4 * (at.turn + 1)) next,
      subst (λ (m : ℕ). Terms l m c.step-e.result) next (c.step-e.ensures l q at.invariant.1),
    )
