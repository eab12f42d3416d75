-- The entries before this one are scaled.
use Rattle.std.proofs.Common.{get_or}
use Rattle.field.specs.Field.{◌⊗◌, power}
use Rattle.reed_solomon.proofs.Fills.{Filled}
use Rattle.reed_solomon.proofs.locator.scaled.Given as goal

abbrev pub invariant-loop-entry : goal.invariant-loop-entry
invariant-loop-entry l =
    Filled (λ n. power 2 l.l.value ⊗ get_or l.fn.row n 0) (λ n. get_or l.fn.row n 0) l.entry-index l.entry-items
