-- The basis is as it was, and row is still monic, with no image before c.
use Rattle.std.proofs.Common.{◌≡◌, length}
use Rattle.reed_solomon.proofs.Inserting.{Reduced}
use Rattle.reed_solomon.proofs.locator.insert.Given as goal

abbrev pub invariant-loop-c : goal.invariant-loop-c
invariant-loop-c l =
    (length l.basis ≡ 8) × (length l.row ≡ 17) × (l.basis ≡ l.initial.basis) × Reduced l.initial.row l.basis l.c l.row
