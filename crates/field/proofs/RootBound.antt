-- A polynomial with as many distinct roots as coefficients is 0.
use mathlib.Core.Path.{◌≡◌, refl, sym, ap, ap₂, ◌∙◌}
use mathlib.Core.Logic.{◌≢◌}
use mathlib.Core.List.{List, [], ◌∷◌}
use Prim.Native.Nat.{ℕ, zero, suc, ◌≤◌, ◌<◌}
use native.Mathlib.Nat.{not-suc-le-zero, le_refl}
use native.Mathlib.Omega.{arith}
use lib.ListN.{length, get_or}
use Rattle.field.specs.Field.{◌⊕◌, ◌⊗◌, power, Bytes}
use Rattle.field.proofs.Sum.{⊕-zero, ⊕-self, ⊕-lt, ⊕-laws, eq-of-⊕}
use Rattle.field.proofs.Product.{⊗-⊕, ⊕-⊗, ⊗-zero, ⊗-left-comm, ⊗-lt, power_lt}
use Rattle.field.proofs.Logarithms.{⊗-cancel}
use Rattle.field.proofs.Tables.{power_distinct}
use Rattle.field.specs.Roots.{poly, locators}

-- x is a byte, and none of xs, which are bytes too
abbrev pub Apart : ℕ → List ℕ → Type 0
Apart x [] = Unit {0}
Apart x (y ∷ ys) = (y ⊕ x < 256) × (y ⊕ x ≢ 0) × Apart x ys

abbrev pub Distinct : List ℕ → Type 0
Distinct [] = Unit {0}
Distinct (x ∷ xs) = Apart x xs × Distinct xs

-- the polynomial is 0 at each of xs
abbrev pub RootsOf : List ℕ → List ℕ → Type 0
RootsOf l [] = Unit {0}
RootsOf l (x ∷ xs) = (poly l x ≡ 0) × RootsOf l xs

abbrev pub AllZero : List ℕ → Type 0
AllZero [] = Unit {0}
AllZero (a ∷ l) = (a ≡ 0) × AllZero l

-- a ∷ l, divided by x ⊕ r
quotient : List ℕ → ℕ → List ℕ
quotient [] r = []
quotient (b ∷ l) r = poly (b ∷ l) r ∷ quotient l r

-- one step of the division: u and v are the values of l at x and r, and q that of the quotient
step : (a x r u v q : ℕ) → u ⊕ v ≡ (x ⊕ r) ⊗ q → (a ⊕ x ⊗ u) ⊕ (a ⊕ r ⊗ v) ≡ (x ⊕ r) ⊗ (v ⊕ x ⊗ q)
step a x r u v q ih =
    let e : (a ⊕ x ⊗ u) ⊕ (a ⊕ r ⊗ v) ≡ (x ⊕ r) ⊗ v ⊕ x ⊗ (u ⊕ v) = simp (⊗-⊕, ⊕-⊗, ⊕-laws) in
    e ∙ ap (λ (s : ℕ). (x ⊕ r) ⊗ v ⊕ s) (ap (λ (s : ℕ). x ⊗ s) ih ∙ ⊗-left-comm x (x ⊕ r) q)
    ∙ sym (⊗-⊕ (x ⊕ r) v (x ⊗ q))

divided : (a : ℕ) (l : List ℕ) (r x : ℕ) → poly (a ∷ l) x ⊕ poly (a ∷ l) r ≡ (x ⊕ r) ⊗ poly (quotient l r) x
unfolding poly quotient
divided a [] r x = simp (⊗-zero, ⊕-self)
divided a (b ∷ l) r x = step a x r (poly (b ∷ l) x) (poly (b ∷ l) r) (poly (quotient l r) x) (divided b l r x)

length_quotient : (l : List ℕ) (r : ℕ) → length (quotient l r) ≡ length l
unfolding quotient
length_quotient [] r = refl
length_quotient (b ∷ l) r = ap suc (length_quotient l r)

pub poly_lt : (l : List ℕ) (x : ℕ) → Bytes l → poly l x < 256
unfolding poly
poly_lt [] x h = omega arith
poly_lt (a ∷ l) x h = ⊕-lt a (x ⊗ poly l x) h.0 (⊗-lt x (poly l x))

bytes_quotient : (l : List ℕ) (r : ℕ) → Bytes l → Bytes (quotient l r)
unfolding quotient
bytes_quotient [] r h = tt
bytes_quotient (b ∷ l) r h = (poly_lt (b ∷ l) r h, bytes_quotient l r h.1)

-- a further root of a ∷ l is one of the quotient
fewer : (a : ℕ) (l : List ℕ) (r : ℕ) (xs : List ℕ) → Bytes l → poly (a ∷ l) r ≡ 0 → Apart r xs → RootsOf (a ∷ l) xs
    → RootsOf (quotient l r) xs
fewer a l r [] h e d z = tt
fewer a l r (x ∷ xs) h e d z = (
  ⊗-cancel (x ⊕ r) (poly (quotient l r) x) d.0 (poly_lt (quotient l r) x (bytes_quotient l r h)) d.1
      (sym (divided a l r x) ∙ ap₂ ◌⊕◌ z.0 e ∙ ⊕-zero 0),
  fewer a l r xs h e d.2 z.1,
)

poly_zero : (l : List ℕ) (x : ℕ) → AllZero l → poly l x ≡ 0
unfolding poly
poly_zero [] x z = refl
poly_zero (a ∷ l) x z = ap₂ ◌⊕◌ z.0 (ap (λ (s : ℕ). x ⊗ s) (poly_zero l x z.1) ∙ ⊗-zero x) ∙ ⊕-zero 0

-- where the others are 0, and the value somewhere, so is the lowest coefficient
lowest : (b : ℕ) (l : List ℕ) (r : ℕ) → AllZero l → poly (b ∷ l) r ≡ 0 → b ≡ 0
unfolding poly
lowest b l r z e = sym (⊕-zero b) ∙ ap (λ (s : ℕ). b ⊕ s) (sym (ap (λ (s : ℕ). r ⊗ s) (poly_zero l r z) ∙ ⊗-zero r)) ∙ e

-- where the quotient is 0, so is each coefficient but the lowest
back : (l : List ℕ) (r : ℕ) → AllZero (quotient l r) → AllZero l
unfolding quotient
back [] r z = tt
back (b ∷ l) r z = let t : AllZero l = back l r z.1 in (lowest b l r t z.0, t)

pub only_zero : (xs l : List ℕ) → Bytes l → length l ≤ length xs → Distinct xs → RootsOf l xs → AllZero l
only_zero [] [] h n d z = tt
only_zero [] (a ∷ l) h n d z = absurd (not-suc-le-zero n)
only_zero (r ∷ xs) [] h n d z = tt
only_zero (r ∷ xs) (a ∷ l) h n d z =
    let t : AllZero l = back l r
    (only_zero xs (quotient l r) (bytes_quotient l r h.1) (omega (arith, length_quotient l r)) d.1
    (fewer a l r xs h.1 z.0 d.0 z.1)) in
    (lowest a l r t z.0, t)

pub zero_at : (l : List ℕ) (n : ℕ) → AllZero l → get_or l n 0 ≡ 0
zero_at [] n z = refl
zero_at (a ∷ l) zero z = z.0
zero_at (a ∷ l) (suc n) z = zero_at l n z.1

-- ---- the powers of 2 are distinct

apart : (n m : ℕ) → m ≤ n → n < 255 → Apart (power 2 n) (locators m)
unfolding locators
apart n zero p q = tt
apart n (suc m) p q = (
  ⊕-lt (power 2 m) (power 2 n) (power_lt 2 m) (power_lt 2 n),
  (λ e. absurd (omega (arith, power_distinct m n (omega arith) q (eq-of-⊕ (power 2 m) (power 2 n) e)))),
  apart n m (omega arith) q,
)

pub distinct : (n : ℕ) → n ≤ 255 → Distinct (locators n)
unfolding locators
distinct zero p = tt
distinct (suc n) p = (apart n n (le_refl n) p, distinct n (omega arith))
