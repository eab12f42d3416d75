-- The smaller of two numbers, as `min` gives it.
--     least_is     it is neither larger than the one nor than the other, and one of them
use mathlib.Core.Path.{◌≡◌}
use mathlib.Core.Logic.{◌⊎◌, inl, inr}
use Prim.Native.Nat.{ℕ, ◌≤◌, min}
use native.Mathlib.Decide.{dec_lt}
use native.Mathlib.Omega.{arith}

pub least_is : {one other least : ℕ} → least ≡ min one other
    → (least ≤ one) × (least ≤ other) × ((least ≡ one) ⊎ (least ≡ other))
least_is {one} {other} {least} is = elim (dec_lt one other) [
  | yes less ↦ (omega arith, omega arith, inl (omega arith))
  | no more ↦ (omega arith, omega arith, inr (omega arith))
]
