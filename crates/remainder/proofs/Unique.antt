-- Only one list of sixteen bytes has given values at the sixteen roots.
use mathlib.Core.Path.{◌≡◌, refl, sym, ap, ap₂, ◌∙◌}
use mathlib.Core.Bool.{true}
use mathlib.Core.List.{List, [], ◌∷◌, ◌++◌}
use Prim.Native.Nat.{ℕ, zero, suc, ◌<◌}
use native.Mathlib.Nat.{le_refl}
use native.Mathlib.Decide.{ℕ_discrete}
use native.Mathlib.Omega.{arith}
use lib.ListN.{length, get_or, replicate, length-replicate}
use lib.Seq.{ext_get_or}
use Rattle.field.specs.Field.{◌⊕◌, ◌⊗◌, power, value, Bytes}
use Rattle.field.proofs.Sum.{⊕-self, ⊕-comm, ⊕-lt, eq-of-⊕}
use Rattle.field.proofs.Product.{⊗-comm}
use Rattle.lists.specs.Tab.{tab}
use Rattle.field.specs.Roots.{poly, locators}
use Rattle.remainder.specs.Remainder.{AtRoots, Remainder, Parity, all_zero}
use Rattle.field.proofs.Values.{value_append, value_snoc, value_zeros, value_elements, value-tab-⊕}
use Rattle.field.proofs.RootBound.{RootsOf, AllZero, only_zero, distinct}
use Rattle.remainder.proofs.Zeros.{zeros_at, all_zero_at}

-- ---- a rule for the coefficients, the highest first, as a list with the lowest first

backwards : ℕ → (ℕ → ℕ) → List ℕ
backwards zero f = []
backwards (suc n) f = f n ∷ backwards n f

tab_snoc : (n : ℕ) (f : ℕ → ℕ) → tab (suc n) f ≡ tab n f ++ (f n ∷ [])
unfolding tab
tab_snoc zero f = refl
tab_snoc (suc n) f = ap (λ (c : List ℕ). f 0 ∷ c) (tab_snoc n (λ k. f (suc k)))

poly_backwards : (n : ℕ) (f : ℕ → ℕ) (x : ℕ) → ((k : ℕ) → f k < 256) → poly (backwards n f) x ≡ value (tab n f) x
unfolding backwards poly value tab
poly_backwards zero f x h = refl
poly_backwards (suc n) f x h =
    ap (λ (v : ℕ). f n ⊕ x ⊗ v) (poly_backwards n f x h)
    ∙ ap (λ (v : ℕ). f n ⊕ v) (⊗-comm x (value (tab n f) x)) ∙ ⊕-comm (f n) (value (tab n f) x ⊗ x)
    ∙ sym (ap (λ (c : List ℕ). value c x) (tab_snoc n f) ∙ value_snoc (tab n f) (f n) x (h n))

length_backwards : (n : ℕ) (f : ℕ → ℕ) → length (backwards n f) ≡ n
unfolding backwards
length_backwards zero f = refl
length_backwards (suc n) f = ap suc (length_backwards n f)

bytes_backwards : (n : ℕ) (f : ℕ → ℕ) → ((k : ℕ) → f k < 256) → Bytes (backwards n f)
unfolding backwards
bytes_backwards zero f h = tt
bytes_backwards (suc n) f h = (h n, bytes_backwards n f h)

zero_backwards : (n : ℕ) (f : ℕ → ℕ) → AllZero (backwards n f) → (k : ℕ) → k < n → f k ≡ 0
unfolding backwards
zero_backwards zero f z k h = absurd (omega arith)
zero_backwards (suc n) f z k h = elim (ℕ_discrete k n) [
  | yes e ↦ ap f e ∙ z.0
  | no e ↦ zero_backwards n f z.1 k (omega arith)
]

length_locators : (n : ℕ) → length (locators n) ≡ n
unfolding locators
length_locators zero = refl
length_locators (suc n) = ap suc (length_locators n)

roots_of : (l : List ℕ) (n : ℕ) → ((m : ℕ) → m < n → poly l (power 2 m) ≡ 0) → RootsOf l (locators n)
unfolding locators
roots_of l zero h = tt
roots_of l (suc n) h = (h n (le_refl (suc n)), roots_of l n (λ m lt. h m (omega arith)))

-- ---- the theorems

-- Any two lists of sixteen bytes that have the same values at the roots are equal.
pub at_roots_unique : (wanted : ℕ → ℕ) (a b : List ℕ) → AtRoots wanted a → AtRoots wanted b → a ≡ b
at_roots_unique wanted a b p q =
    ext_get_or 0 a b (p.long ∙ sym q.long) (λ k h. eq-of-⊕ (get_or a k 0) (get_or b k 0)
    (zero_backwards 16 sum (only_zero (locators 16) (backwards 16 sum) (bytes_backwards 16 sum small)
    (omega (arith, length_backwards 16 sum, length_locators 16)) (distinct 16 (omega arith)) (roots_of
    (backwards 16 sum) 16 vanish)) k (omega (arith, p.long))))
  where
    sum : ℕ → ℕ
    sum k = get_or a k 0 ⊕ get_or b k 0

    small : (k : ℕ) → sum k < 256
    small k = ⊕-lt (get_or a k 0) (get_or b k 0) (p.bytes k) (q.bytes k)

    vanish : (m : ℕ) → m < 16 → poly (backwards 16 sum) (power 2 m) ≡ 0
    vanish m h =
        let x = power 2 m in
        poly_backwards 16 sum x small ∙ value-tab-⊕ 16 (λ k. get_or a k 0) (λ k. get_or b k 0) x
        ∙ ap₂ (λ (u v : ℕ). u ⊕ v) (value_elements 16 a x p.long ∙ p.agree m h) (value_elements 16 b x
        q.long ∙ q.agree m h) ∙ ⊕-self (wanted x)

-- A word whose remainder is all 0 is 0 at each root.
pub zero_remainder : (word result : List ℕ) → Remainder word result → all_zero result ≡ true
    → (m : ℕ) → m < 16 → value word (power 2 m) ≡ 0
zero_remainder word result r z m h =
    sym (r.agree m h) ∙ ap (λ (c : List ℕ). value c (power 2 m))
    (ext_get_or 0 result (replicate 16 0) (r.long ∙ sym (length-replicate {A = ℕ} 16 0))
    (λ k lt. all_zero_at result z k ∙ sym (zeros_at 16 k))) ∙ value_zeros 16 (power 2 m)

-- A message with its parity behind it is 0 at each root.
pub parity_roots : (message result : List ℕ) → Parity message result
    → (m : ℕ) → m < 16 → value (message ++ result) (power 2 m) ≡ 0
parity_roots message result p m h =
    let x = power 2 m in
    value_append message result x
    ∙ ap₂ (λ (n v : ℕ). value message x ⊗ power x n ⊕ v) p.long (p.agree m h)
    ∙ ⊕-self (value message x ⊗ power x 16)
