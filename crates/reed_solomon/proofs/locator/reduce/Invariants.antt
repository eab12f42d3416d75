-- The entries before this one are reduced.
use Rattle.std.proofs.Common.{get_or}
use Rattle.field.specs.Field.{◌⊕◌, ◌⊗◌, power}
use Rattle.reed_solomon.proofs.Fills.{Filled}
use Rattle.reed_solomon.proofs.locator.reduce.Given as goal

abbrev pub invariant-loop-k : goal.invariant-loop-k
invariant-loop-k l =
    Filled (λ n. get_or l.initial.row n 0 ⊕ power 2 l.l.value ⊗ get_or l.pivot n 0) (λ n. get_or l.initial.row n 0) l.k
    l.row
