-- The laws of `total`.
use mathlib.Core.Path.{◌≡◌, refl, sym, ap, ap₂, ◌∙◌}
use mathlib.Core.Logic.{◌≢◌}
use mathlib.Core.List.{List, [], ◌∷◌}
use Prim.Native.Nat.{ℕ, zero, suc, ◌+◌, ◌<◌}
use native.Mathlib.Nat.{zero-add}
use native.Mathlib.Decide.{ℕ_discrete}
use native.Mathlib.Omega.{arith}
use lib.ListN.{length, get_or}
use Rattle.field.specs.Field.{◌⊕◌, ◌⊗◌}
use Rattle.field.proofs.Sum.{⊕-assoc, ⊕-left-comm, ⊕-zero, zero-⊕}
use Rattle.field.proofs.Product.{⊗-⊕, ⊗-zero}
use Rattle.reed_solomon.specs.Poly.{applied}
use Rattle.reed_solomon.specs.Rows.{total}

pub total_ext : (n : ℕ) (f g : ℕ → ℕ) → ((k : ℕ) → k < n → f k ≡ g k) → total n f ≡ total n g
unfolding total
total_ext zero f g h = refl
total_ext (suc n) f g h = ap₂ (λ (s t : ℕ). s ⊕ t) (h n (omega arith)) (total_ext n f g (λ k b. h k (omega arith)))

pub total-⊕ : (n : ℕ) (f g : ℕ → ℕ) → total n (λ k. f k ⊕ g k) ≡ total n f ⊕ total n g
unfolding total
total-⊕ zero f g = sym (⊕-zero 0)
total-⊕ (suc n) f g = ap (λ (t : ℕ). (f n ⊕ g n) ⊕ t) (total-⊕ n f g) ∙ step (f n) (g n) (total n f) (total n g)
  where
    step : (a b c d : ℕ) → (a ⊕ b) ⊕ (c ⊕ d) ≡ (a ⊕ c) ⊕ (b ⊕ d)
    step a b c d = simp (⊕-assoc, ⊕-left-comm)

pub total-⊗ : (n c : ℕ) (f : ℕ → ℕ) → total n (λ k. c ⊗ f k) ≡ c ⊗ total n f
unfolding total
total-⊗ zero c f = sym (⊗-zero c)
total-⊗ (suc n) c f = ap (λ (t : ℕ). c ⊗ f n ⊕ t) (total-⊗ n c f) ∙ sym (⊗-⊕ c (f n) (total n f))

total_null : (n : ℕ) (f : ℕ → ℕ) → ((k : ℕ) → k < n → f k ≡ 0) → total n f ≡ 0
unfolding total
total_null zero f h = refl
total_null (suc n) f h = ap₂ (λ (s t : ℕ). s ⊕ t) (h n (omega arith)) (total_null n f (λ k b. h k (omega arith)))
    ∙ ⊕-zero 0

-- only the term at i counts
pub total_single : (n i : ℕ) (f : ℕ → ℕ) → i < n → ((k : ℕ) → k < n → k ≢ i → f k ≡ 0) → total n f ≡ f i
unfolding total
total_single zero i f b h = absurd (omega arith)
total_single (suc n) i f b h = elim (ℕ_discrete n i) [
  | yes e ↦
      ap₂ (λ (s t : ℕ). s ⊕ t) (ap f e) (total_null n f (λ k p. h k (omega arith) (λ q. absurd (omega arith))))
      ∙ ⊕-zero (f i)
  | no e ↦ ap₂ (λ (s t : ℕ). s ⊕ t) (h n (omega arith) e)
      (total_single n i f (omega arith) (λ k p. h k (omega arith))) ∙ zero-⊕ (f i)
]

pub total_first : (n : ℕ) (f : ℕ → ℕ) → total (suc n) f ≡ f 0 ⊕ total n (λ k. f (suc k))
unfolding total
total_first zero f = refl
total_first (suc n) f = ap (λ (t : ℕ). f (suc n) ⊕ t) (total_first n f)
    ∙ ⊕-left-comm (f (suc n)) (f 0) (total n (λ k. f (suc k)))

-- a polynomial applied to a sequence is such a total
pub total_applied : (l : List ℕ) (s : ℕ → ℕ) (j : ℕ) → total (length l) (λ k. get_or l k 0 ⊗ s (k + j)) ≡ applied l s j
unfolding applied total
total_applied [] s j = refl
total_applied (a ∷ l) s j =
    total_first (length l) (λ k. get_or (a ∷ l) k 0 ⊗ s (k + j))
    ∙ ap₂ (λ (x y : ℕ). x ⊕ y) (ap (λ (n : ℕ). a ⊗ s n) (zero-add j))
    (total_ext (length l) (λ k. get_or l k 0 ⊗ s (suc k + j)) (λ k. get_or l k 0 ⊗ s (k + suc j))
    (λ k b. ap (λ (n : ℕ). get_or l k 0 ⊗ s n) (omega arith)) ∙ total_applied l s (suc j))
