-- A test that antt computes at each number below a bound, and what it says of each of them.
--     both                      of two tests
--     both_left, both_right     so each of them
--     every f n                 the test passes at every number below n
--     at                        so it passes at each
use mathlib.Core.Path.{subst⁻¹}
use mathlib.Core.Bool.{Bool, true, false}
use Prim.Native.Nat.{ℕ, zero, suc, ◌<◌}
use native.Mathlib.Nat.{not-suc-le-zero}
use native.Mathlib.Omega.{arith}
use native.Mathlib.Decide.{ℕ_discrete}
use lib.Dec.{T}

abbrev pub both : Bool → Bool → Bool
both true b = b
both false b = false

pub both_left : (a b : Bool) → T (both a b) → T a
both_left true b t = tt
both_left false b t = t

pub both_right : (a b : Bool) → T (both a b) → T b
both_right true b t = t
both_right false b t = absurd t

abbrev pub every : (ℕ → Bool) → ℕ → Bool
every f zero = true
every f (suc n) = both (f n) (every f n)

pub at : (f : ℕ → Bool) (n : ℕ) → T (every f n) → (k : ℕ) → k < n → T (f k)
at f zero t k h = absurd (not-suc-le-zero h)
at f (suc n) t k h = elim (ℕ_discrete k n) [
  | yes e ↦ subst⁻¹ (λ (m : ℕ). T (f m)) e (both_left (f n) (every f n) t)
  | no ne ↦ at f n (both_right (f n) (every f n) t) k (omega arith)
]
