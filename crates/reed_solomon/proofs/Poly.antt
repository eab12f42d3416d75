-- The key lemma: a polynomial l that takes the syndromes of at most n errors to 0, at n places in a row, is 0 at the
-- locators of the errors.
use mathlib.Core.Path.{◌≡◌, sym, ap, ap₂, ◌∙◌}
use mathlib.Core.List.{List, [], ◌∷◌}
use Prim.Native.Nat.{ℕ, suc, ◌+◌, ◌≤◌, ◌<◌}
use native.Mathlib.Omega.{arith}
use lib.ListN.{length}
use Rattle.field.specs.Field.{◌⊕◌, ◌⊗◌, power}
use Rattle.field.proofs.Product.{⊕-⊗, zero-⊗, ⊗-assoc, ⊗-left-comm}
use Rattle.field.specs.Roots.{poly}
use Rattle.field.proofs.RootBound.{Distinct}
use Rattle.nearest.proofs.Weights.{weight}
use Rattle.reed_solomon.specs.Poly.{applied}
use Rattle.nearest.proofs.Sums.{sum_of, Zeros, sum_of_ext, sum_of-⊕, sum_of-⊗, sum_of_null}
use Rattle.nearest.proofs.Vandermonde.{vandermonde}

-- what one more coefficient does to a term
expand : (a x p j : ℕ) → (a ⊕ x ⊗ p) ⊗ power x j ≡ a ⊗ power x j ⊕ p ⊗ power x (suc j)
expand a x p j = unfold power in simp (⊕-⊗, ⊗-assoc, ⊗-left-comm)

module _ (xs e : List ℕ) (m : ℕ) (s : ℕ → ℕ) (h : (j : ℕ) → j < m → s j ≡ sum_of (λ x. power x j) xs e) where
  pub applied_sum_of : (l : List ℕ) (j : ℕ) → j + length l ≤ m → applied l s j ≡ sum_of (λ x. poly l x ⊗ power x j) xs e
  unfolding applied poly
  applied_sum_of [] j k = sym (sum_of_ext (λ x. zero-⊗ (power x j)) xs e ∙ sum_of_null xs e)
  applied_sum_of (a ∷ l) j k =
      ap₂ (λ (u v : ℕ). a ⊗ u ⊕ v) (h j (omega arith)) (applied_sum_of l (suc j) (omega arith))
      ∙ ap (λ (u : ℕ). u ⊕ sum_of (λ x. poly l x ⊗ power x (suc j)) xs e) (sym (sum_of-⊗ a (λ x. power x j) xs e))
      ∙ sym (sum_of-⊕ (λ x. a ⊗ power x j) (λ x. poly l x ⊗ power x (suc j)) xs e)
      ∙ sym (sum_of_ext (λ x. expand a x (poly l x) j) xs e)

  pub locates : (l : List ℕ) (n : ℕ) → Distinct xs → weight e ≤ n → n + length l ≤ suc m
      → ((j : ℕ) → j < n → applied l s j ≡ 0) → Zeros (poly l) xs e
  locates l n d w k z = vandermonde xs e n (poly l) d w (λ j b. sym (applied_sum_of l j (omega arith)) ∙ z j b)
