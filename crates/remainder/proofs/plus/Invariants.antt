-- The sums before k are stored.
use Rattle.std.proofs.Common.{get_or}
use Rattle.field.specs.Field.{◌⊕◌}
use Rattle.lists.proofs.Fill.{Fill}
use Rattle.remainder.proofs.plus.Given as goal

abbrev pub invariant-loop-k : goal.invariant-loop-k
invariant-loop-k l = Fill 16 (λ n. get_or l.bytes n 0 ⊕ get_or l.other n 0) l.k l.result
