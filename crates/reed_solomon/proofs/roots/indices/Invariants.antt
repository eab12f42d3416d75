-- The indices before k are stored.
use Rattle.std.proofs.Common.{◌≡◌, length, get_or}
use Rattle.reed_solomon.specs.Search.{Term}
use Rattle.reed_solomon.proofs.Fills.{FilledBy}
use Rattle.reed_solomon.proofs.roots.indices.Given as goal

abbrev pub invariant-loop-k : goal.invariant-loop-k
invariant-loop-k l = (length l.e ≡ 9) × FilledBy (λ n v. Term v (get_or l.l n 0)) l.k l.e
