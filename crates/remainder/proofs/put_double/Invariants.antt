-- The first k bytes are stored.
use Rattle.std.proofs.Common.{◌+◌, get_or}
use Rattle.field.specs.Field.{double}
use Rattle.remainder.specs.Steps.{Put}
use Rattle.remainder.proofs.put_double.Given as goal

abbrev pub invariant-loop-k : goal.invariant-loop-k
invariant-loop-k l = Put l.to l.k (λ n. double (get_or l.initial.table (l.from + n) 0)) l.initial.table l.table
