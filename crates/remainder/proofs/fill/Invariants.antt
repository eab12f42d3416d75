-- The first k powers are stored.
use Rattle.std.proofs.Common.{get_or}
use Rattle.remainder.specs.Steps.{Put}
use Rattle.remainder.proofs.fill.Given as goal

abbrev pub invariant-loop-k : goal.invariant-loop-k
invariant-loop-k l = Put 256 l.k (λ n. get_or l.powers n 0) l.initial.table l.table
