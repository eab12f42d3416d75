-- The smaller of two numbers is one alone: any two results that the contract of `least` allows are equal.
use mathlib.Core.Path.{◌≡◌}
use mathlib.Core.Logic.{◌⊎◌, inl, inr}
use Prim.Native.Nat.{ℕ, ◌≤◌}
use native.Mathlib.Omega.{arith}

pub least_unique : (one other r s : ℕ) → (r ≤ one) × (r ≤ other) × ((r ≡ one) ⊎ (r ≡ other))
    → (s ≤ one) × (s ≤ other) × ((s ≡ one) ⊎ (s ≡ other)) → r ≡ s
least_unique one other r s f g = by f.2 g.2
  where
    by : (r ≡ one) ⊎ (r ≡ other) → (s ≡ one) ⊎ (s ≡ other) → r ≡ s
    by (inl e) (inl e₁) = omega arith
    by (inl e) (inr e₁) = omega (arith, f.1, g.0)
    by (inr e) (inl e₁) = omega (arith, f.0, g.1)
    by (inr e) (inr e₁) = omega arith
