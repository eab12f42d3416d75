-- Exponents of 2 modulo 255, as the code adds and negates them.
use mathlib.Core.Path.{◌≡◌, sym, ap, ◌∙◌}
use Prim.Native.Nat.{ℕ, ◌+◌, ◌-◌, ◌≤◌}
use native.Mathlib.Omega.{arith}
use Rattle.field.specs.Field.{◌⊗◌, power}
use Rattle.field.proofs.Product.{⊗-one, power_lt, power_add, power_255}

-- 255 less is the same power
pub power_less : (n : ℕ) → 255 ≤ n → power 2 (n - 255) ≡ power 2 n
power_less n h =
    let e : n - 255 + 255 ≡ n = omega arith in
    sym (⊗-one (power 2 (n - 255)) (power_lt 2 (n - 255))) ∙ ap (λ (x : ℕ). power 2 (n - 255) ⊗ x) (sym power_255)
    ∙ sym (power_add 2 (n - 255) 255) ∙ ap (power 2) e

pub power_wrapped : (l m : ℕ) → 255 ≤ l + m → power 2 (l + m - 255) ≡ power 2 l ⊗ power 2 m
power_wrapped l m h = power_less (l + m) h ∙ power_add 2 l m

pub power_negated : (l : ℕ) → l ≤ 255 → power 2 l ⊗ power 2 (255 - l) ≡ 1
power_negated l h =
    let e : l + (255 - l) ≡ 255 = omega arith in
    sym (power_add 2 l (255 - l)) ∙ ap (power 2) e ∙ power_255
