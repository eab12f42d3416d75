-- The basis holds i pivots.
use Rattle.std.proofs.Common.{◌≡◌, length, get_or}
use Rattle.reed_solomon.specs.Rows.{Basis, held}
use Rattle.reed_solomon.proofs.locator.locator.Given as goal

abbrev pub invariant-loop-i : goal.invariant-loop-i
invariant-loop-i l =
    (length l.basis ≡ 8) × Basis (λ n. get_or l.s n 0) l.i l.basis × (held l.basis ≡ l.i)
