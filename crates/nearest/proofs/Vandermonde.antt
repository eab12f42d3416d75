-- The Vandermonde lemma: where at most n of the weights y are not 0, the points x are distinct, and the sums of y ⊗ g
-- x ⊗ x ^ j are 0 for the n exponents j below n, each y ⊗ g x is 0. By induction on the points: the first point with
-- a weight is taken out of the sums by a further factor (t ⊕ x) in g.
use mathlib.Core.Path.{◌≡◌, sym, ap, ap₂, ◌∙◌}
use mathlib.Core.List.{List, [], ◌∷◌}
use Prim.Native.Nat.{ℕ, zero, suc, ◌≤◌, ◌<◌}
use native.Mathlib.Nat.{not-suc-le-zero, le_of_suc-le-suc}
use native.Mathlib.Omega.{arith}
use Rattle.field.specs.Field.{◌⊕◌, ◌⊗◌, power}
use Rattle.field.proofs.Sum.{⊕-zero, zero-⊕, ⊕-self}
use Rattle.field.proofs.Product.{⊗-⊕, ⊕-⊗, ⊗-zero, zero-⊗, one-⊗, ⊗-comm, ⊗-assoc, ⊗-left-comm, ⊗-lt}
use Rattle.field.proofs.Logarithms.{⊗-cancel}
use Rattle.field.proofs.RootBound.{Apart, Distinct}
use Rattle.nearest.proofs.Weights.{weight}
use Rattle.nearest.proofs.Sums.{sum_of, Zeros, sum_of_ext, sum_of-⊕, sum_of-⊗, sum_of_zeros, sum_of_skip}

-- the factor t ⊕ x can be left out again at points apart from x
leave_out : (g : ℕ → ℕ) (x : ℕ) (xs ys : List ℕ) → Apart x xs → Zeros (λ t. g t ⊗ (t ⊕ x)) xs ys → Zeros g xs ys
leave_out g x [] ys a z = tt
leave_out g x (t ∷ xs) [] a z = tt
leave_out g x (t ∷ xs) (y ∷ ys) a z = (
  ⊗-cancel (t ⊕ x) (y ⊗ g t) a.0 (⊗-lt y (g t)) a.1
      (⊗-comm (t ⊕ x) (y ⊗ g t) ∙ ⊗-assoc y (g t) (t ⊕ x) ∙ z.0),
  leave_out g x xs ys a.2 z.1,
)

-- what the further factor does to a term
pub expand : (x t a j : ℕ) → (a ⊗ (t ⊕ x)) ⊗ power t j ≡ a ⊗ power t (suc j) ⊕ x ⊗ (a ⊗ power t j)
expand x t a j = unfold power in simp (⊗-⊕, ⊕-⊗, ⊗-assoc, ⊗-left-comm, ⊗-comm)

take_out : (g : ℕ → ℕ) (x y j : ℕ) (xs ys : List ℕ) → sum_of (λ t. g t ⊗ power t j) (x ∷ xs) (y ∷ ys) ≡ 0
    → sum_of (λ t. g t ⊗ power t (suc j)) (x ∷ xs) (y ∷ ys) ≡ 0
    → sum_of (λ t. (g t ⊗ (t ⊕ x)) ⊗ power t j) xs ys ≡ 0
take_out g x y j xs ys p q =
    sym (sum_of_skip (λ t. (g t ⊗ (t ⊕ x)) ⊗ power t j) x y xs ys (simp (⊕-self, ⊗-zero, zero-⊗)))
    ∙ sum_of_ext (λ t. expand x t (g t) j) (x ∷ xs) (y ∷ ys)
    ∙ sum_of-⊕ (λ t. g t ⊗ power t (suc j)) (λ t. x ⊗ (g t ⊗ power t j)) (x ∷ xs) (y ∷ ys)
    ∙ ap₂ (λ (s t : ℕ). s ⊕ t) q (sum_of-⊗ x (λ t. g t ⊗ power t j) (x ∷ xs) (y ∷ ys) ∙ ap (λ (s : ℕ). x ⊗ s) p
    ∙ ⊗-zero x) ∙ ⊕-zero 0

-- where all terms but the first are 0, and the sum, so is the first
first : (g : ℕ → ℕ) (x y : ℕ) (xs ys : List ℕ) → Zeros g xs ys → sum_of (λ t. g t ⊗ power t 0) (x ∷ xs) (y ∷ ys) ≡ 0
    → y ⊗ g x ≡ 0
first g x y xs ys z e =
    unfold sum_of power in sym (one-⊗ (y ⊗ g x) (⊗-lt y (g x)))
    ∙ ap (λ (s : ℕ). 1 ⊗ s) (sym (⊕-zero (y ⊗ g x)) ∙ ap (λ (s : ℕ). y ⊗ g x ⊕ s) (sym (sum_of_zeros g xs ys z)))
    ∙ sym (sum_of-⊗ 1 g (x ∷ xs) (y ∷ ys)) ∙ sum_of_ext (λ t. ⊗-comm 1 (g t)) (x ∷ xs) (y ∷ ys) ∙ e

pub vandermonde : (xs ys : List ℕ) (n : ℕ) (g : ℕ → ℕ) → Distinct xs → weight ys ≤ n
    → ((j : ℕ) → j < n → sum_of (λ x. g x ⊗ power x j) xs ys ≡ 0) → Zeros g xs ys
unfolding weight sum_of
vandermonde [] ys n g d w h = tt
vandermonde (x ∷ xs) [] n g d w h = tt
vandermonde (x ∷ xs) (zero ∷ ys) n g d w h =
    (zero-⊗ (g x), vandermonde xs ys n g d.1 w (λ j k. simp (zero-⊗, zero-⊕) at (h j k)))
vandermonde (x ∷ xs) (suc y ∷ ys) zero g d w h = absurd (not-suc-le-zero w)
vandermonde (x ∷ xs) (suc y ∷ ys) (suc n) g d w h =
    let out : Zeros (λ t. g t ⊗ (t ⊕ x)) xs ys =
    vandermonde xs ys n (λ t. g t ⊗ (t ⊕ x)) d.1 (le_of_suc-le-suc w)
    (λ j k. take_out g x (suc y) j xs ys (h j (omega arith)) (h (suc j) (omega arith))) in
    let rest : Zeros g xs ys = leave_out g x xs ys d.0 out in
    (first g x (suc y) xs ys rest (h 0 (omega arith)), rest)
