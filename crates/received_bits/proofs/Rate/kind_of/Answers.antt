use Rattle.std.proofs.Common.{arith}
use native.Mathlib.Nat.{mod-lt}
use Rattle.settings.proofs.Patterns.{pattern_length_bounds}
use Rattle.puncturing.proofs.Tables.{rate_small, legal_of}
use Rattle.received_bits.proofs.Blocks.{kind_first, kind_other}
use Rattle.received_bits.proofs.Rate.kind_of.Goals as goal

pub returns-then-place-eq0 : goal.returns-then-place-eq0
returns-then-place-eq0 c =
    kind_first (legal_of _ c.args.self.legal) _ _ c.pattern_length.ensures c.if-place-eq0.true

pub bounds-from : goal.bounds-from
bounds-from c = let small = rate_small (legal_of _ c.args.self.legal) in omega (arith, c.from.ensures)

pub overflow_shr-result : goal.overflow_shr-result
overflow_shr-result c =
    let bounds = pattern_length_bounds (legal_of _ c.args.self.legal) in
    let less = mod-lt c.args.n {m = c.pattern_length.result} (omega (arith, c.pattern_length.ensures, bounds.0)) in
    omega (arith, c.pattern_length.ensures, bounds.1)

pub returns : goal.returns
returns c =
    rw c.from.ensures
    (kind_other (legal_of _ c.args.self.legal) _ _ c.pattern_length.ensures c.if-place-eq0.false)
