-- The indices before k have stepped.
use Rattle.std.proofs.Common.{◌≡◌, ℕ, ◌*◌, length, get_or}
use Rattle.field.specs.Field.{◌⊗◌, power}
use Rattle.reed_solomon.specs.Search.{Term}
use Rattle.reed_solomon.proofs.Fills.{FilledBy}
use Rattle.reed_solomon.proofs.roots.step.Given as goal

abbrev pub invariant-loop-k : goal.invariant-loop-k
invariant-loop-k l =
    (length l.n ≡ 9) × FilledBy (λ i v. (t : ℕ) → Term (get_or l.e i 0) t → Term v (t ⊗ power 2 (4 * i))) l.k l.n
