-- The entries before k are stored.
use Rattle.std.proofs.Common.{get_or}
use Rattle.field.specs.Field.{◌⊕◌, ◌⊗◌, power}
use Rattle.lists.proofs.Fill.{Fill}
use Rattle.reed_solomon.proofs.syndromes.turned.Given as goal

abbrev pub invariant-loop-k : goal.invariant-loop-k
invariant-loop-k l = Fill 16 (λ i. l.f ⊕ power 2 i ⊗ get_or l.s i 0) l.k l.n
