-- The bytes below i have no line feed among them and are held.
use mathlib.Core.Path.{◌≡◌}
use Prim.Native.Nat.{ℕ, ◌<◌}
use lib.ListN.{get_or}
use Rattle.text_lines.proofs.Places.{Held}
use Rattle.text_lines.proofs.gather.Given as goal

abbrev pub invariant-loop-i : goal.invariant-loop-i
invariant-loop-i l =
    ((k : ℕ) → k < l.i → get_or l.text k 0 ≡ 10 → ⊥)
    × Held l.initial.line l.fn.held l.text l.i l.count l.line
