-- The two cases of the code of `twice`, as laws of numbers.
use mathlib.Core.Path.{◌≡◌, ap₂}
use Prim.Native.Nat.{ℕ, ◌*◌, ◌-◌, ◌/◌, ◌%◌, ◌<◌, ◌≤◌}
use native.Mathlib.Omega.{arith}
use lib.Bits.{bit_xor}
use Rattle.field.specs.Field.{◌⊕◌, double}
use Rattle.field.proofs.Sum.{⊕-zero}

pub double_low : (a : ℕ) → a < 128 → a * 2 ≡ double a
double_low a h =
    unfold double in let p : a % 128 ≡ a = omega arith in
    let q : a / 128 % 2 * 29 ≡ 0 = omega arith in
    simp (p, q, ⊕-zero)

pub double_high : (a : ℕ) → 128 ≤ a → a < 256 → bit_xor ((a - 128) * 2) 29 ≡ double a
unfolding double ◌⊕◌
double_high a h k = ap₂ bit_xor {x = (a - 128) * 2} {y = a % 128 * 2} (omega arith) (omega arith)
