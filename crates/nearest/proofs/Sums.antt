-- Sums of y ⊗ g x over a list of points x with weights y.
use mathlib.Core.Path.{◌≡◌, refl, sym, ap, ap₂, ◌∙◌}
use mathlib.Core.List.{List, [], ◌∷◌}
use mathlib.Core.Logic.{◌≢◌}
use Prim.Native.Nat.{ℕ, zero, suc, ◌<◌}
use native.Mathlib.Nat.{not-suc-le-zero}
use native.Mathlib.Omega.{arith}
use lib.ListN.{length, get_or}
use Rattle.field.specs.Field.{◌⊕◌, ◌⊗◌}
use Rattle.field.proofs.Sum.{⊕-assoc, ⊕-left-comm, ⊕-zero, zero-⊕}
use Rattle.field.proofs.Product.{⊗-⊕, ⊗-zero, ⊗-left-comm}

-- the sum of y ⊗ g x over the points x, with the weights y
unfoldable pub sum_of : (ℕ → ℕ) → List ℕ → List ℕ → ℕ
sum_of g [] ys = 0
sum_of g (x ∷ xs) [] = 0
sum_of g (x ∷ xs) (y ∷ ys) = y ⊗ g x ⊕ sum_of g xs ys

-- every term of the sum is 0
abbrev pub Zeros : (ℕ → ℕ) → List ℕ → List ℕ → Type 0
Zeros g [] ys = Unit {0}
Zeros g (x ∷ xs) [] = Unit {0}
Zeros g (x ∷ xs) (y ∷ ys) = (y ⊗ g x ≡ 0) × Zeros g xs ys

pub sum_of_ext : {f g : ℕ → ℕ} → ((x : ℕ) → f x ≡ g x) → (xs ys : List ℕ) → sum_of f xs ys ≡ sum_of g xs ys
unfolding sum_of
sum_of_ext h [] ys = refl
sum_of_ext h (x ∷ xs) [] = refl
sum_of_ext h (x ∷ xs) (y ∷ ys) = ap₂ (λ (s t : ℕ). y ⊗ s ⊕ t) (h x) (sum_of_ext h xs ys)

pub sum_of-⊕ : (f g : ℕ → ℕ) (xs ys : List ℕ) → sum_of (λ x. f x ⊕ g x) xs ys ≡ sum_of f xs ys ⊕ sum_of g xs ys
unfolding sum_of
sum_of-⊕ f g [] ys = sym (⊕-zero 0)
sum_of-⊕ f g (x ∷ xs) [] = sym (⊕-zero 0)
sum_of-⊕ f g (x ∷ xs) (y ∷ ys) = simp (sum_of-⊕ f g xs ys, ⊗-⊕, ⊕-assoc, ⊕-left-comm)

pub sum_of-⊗ : (c : ℕ) (g : ℕ → ℕ) (xs ys : List ℕ) → sum_of (λ x. c ⊗ g x) xs ys ≡ c ⊗ sum_of g xs ys
unfolding sum_of
sum_of-⊗ c g [] ys = sym (⊗-zero c)
sum_of-⊗ c g (x ∷ xs) [] = sym (⊗-zero c)
sum_of-⊗ c g (x ∷ xs) (y ∷ ys) =
    ap₂ (λ (s t : ℕ). s ⊕ t) (⊗-left-comm y c (g x)) (sum_of-⊗ c g xs ys) ∙ sym (⊗-⊕ c (y ⊗ g x) (sum_of g xs ys))

pub sum_of_zeros : (g : ℕ → ℕ) (xs ys : List ℕ) → Zeros g xs ys → sum_of g xs ys ≡ 0
unfolding sum_of
sum_of_zeros g [] ys z = refl
sum_of_zeros g (x ∷ xs) [] z = refl
sum_of_zeros g (x ∷ xs) (y ∷ ys) z = ap₂ (λ (s t : ℕ). s ⊕ t) z.0 (sum_of_zeros g xs ys z.1) ∙ ⊕-zero 0

-- a point at which g is 0 adds nothing
pub sum_of_skip : (g : ℕ → ℕ) (x y : ℕ) (xs ys : List ℕ) → g x ≡ 0 → sum_of g (x ∷ xs) (y ∷ ys) ≡ sum_of g xs ys
sum_of_skip g x y xs ys e = unfold sum_of in ap (λ (s : ℕ). y ⊗ s ⊕ sum_of g xs ys) e ∙ simp (⊗-zero, zero-⊕)

pub sum_of_null : (xs ys : List ℕ) → sum_of (λ x. 0) xs ys ≡ 0
unfolding sum_of
sum_of_null [] ys = refl
sum_of_null (x ∷ xs) [] = refl
sum_of_null (x ∷ xs) (y ∷ ys) = ap₂ (λ (s t : ℕ). s ⊕ t) (⊗-zero y) (sum_of_null xs ys) ∙ ⊕-zero 0

sum_of_none : (g : ℕ → ℕ) (xs ys : List ℕ) → length ys ≡ length xs
    → ((n : ℕ) → n < length xs → get_or ys n 0 ⊗ g (get_or xs n 0) ≡ 0) → sum_of g xs ys ≡ 0
unfolding sum_of
sum_of_none g [] ys l z = refl
sum_of_none g (x ∷ xs) [] l z = refl
sum_of_none g (x ∷ xs) (y ∷ ys) l z = ap₂ (λ (s t : ℕ). s ⊕ t) (z 0 (omega arith))
    (sum_of_none g xs ys (omega arith) (λ n k. z (suc n) (omega arith))) ∙ ⊕-zero 0

-- only the term at p counts
pub sum_of_single : (g : ℕ → ℕ) (xs ys : List ℕ) (p : ℕ) → p < length xs → length ys ≡ length xs
    → ((n : ℕ) → n < length xs → n ≢ p → get_or ys n 0 ⊗ g (get_or xs n 0) ≡ 0)
    → sum_of g xs ys ≡ get_or ys p 0 ⊗ g (get_or xs p 0)
unfolding sum_of
sum_of_single g [] ys p h l z = absurd (not-suc-le-zero h)
sum_of_single g (x ∷ xs) [] p h l z = absurd (omega arith)
sum_of_single g (x ∷ xs) (y ∷ ys) zero h l z =
    ap (λ (t : ℕ). y ⊗ g x ⊕ t) (sum_of_none g xs ys (omega arith)
    (λ n k. z (suc n) (omega arith) (λ e. absurd (omega arith)))) ∙ ⊕-zero (y ⊗ g x)
sum_of_single g (x ∷ xs) (y ∷ ys) (suc p) h l z =
    ap₂ (λ (s t : ℕ). s ⊕ t) (z 0 (omega arith) (λ e. absurd (omega arith)))
    (sum_of_single g xs ys p (omega arith) (omega arith) (λ n k ne. z (suc n) (omega arith) (λ e. ne (omega arith))))
    ∙ zero-⊕ (get_or ys p 0 ⊗ g (get_or xs p 0))
