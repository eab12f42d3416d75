-- The syndromes before this one are changed, and l is the exponent of this one.
use Rattle.std.proofs.Common.{◌≡◌, ◌*◌, get_or}
use Rattle.field.specs.Field.{◌⊕◌, ◌⊗◌, power}
use Rattle.reed_solomon.proofs.Fills.{Filled}
use Rattle.reed_solomon.proofs.syndromes.change.Given as goal

abbrev pub invariant-loop-entry : goal.invariant-loop-entry
invariant-loop-entry l =
    (power 2 l.l.value ≡ power 2 (l.q.value * l.entry-index))
    × Filled (λ n. get_or l.initial.s n 0 ⊕ power 2 (l.q.value * n) ⊗ l.e)
    (λ n. get_or l.initial.s n 0) l.entry-index l.s
