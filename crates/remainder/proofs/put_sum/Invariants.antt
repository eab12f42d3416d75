-- The first k bytes are stored.
use Rattle.std.proofs.Common.{◌+◌, get_or}
use Rattle.field.specs.Field.{◌⊕◌}
use Rattle.remainder.specs.Steps.{Put}
use Rattle.remainder.proofs.put_sum.Given as goal

abbrev pub invariant-loop-k : goal.invariant-loop-k
invariant-loop-k l =
    Put l.to l.k (λ n. get_or l.initial.table (l.one + n) 0 ⊕ get_or l.initial.table (l.other + n) 0)
    l.initial.table l.table
