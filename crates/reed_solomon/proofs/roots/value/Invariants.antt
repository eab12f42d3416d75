-- The terms before k are summed.
use Rattle.std.proofs.Common.{◌≡◌, ◌+◌, ◌*◌, get_or}
use Rattle.reed_solomon.specs.Rows.{total}
use Rattle.reed_solomon.proofs.roots.value.Given as goal

abbrev pub invariant-loop-k : goal.invariant-loop-k
invariant-loop-k l = l.v ≡ total l.k (λ i. get_or l.table (get_or l.e i 0 + i * l.j) 0)
