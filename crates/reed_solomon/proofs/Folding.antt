-- How `error_at` comes to the error at the place a of the list: t holds the syndromes of the errors, each times g of
-- its locator, where g is 0 at the places of the list before b other than a, and 2 ^ d is g at a.
use mathlib.Core.Path.{◌≡◌, refl, sym, ap, ap₂, ◌∙◌}
use mathlib.Core.Logic.{◌≢◌}
use mathlib.Core.List.{List}
use Prim.Native.Nat.{ℕ, zero, suc, ◌+◌, ◌-◌, ◌≤◌, ◌<◌}
use native.Mathlib.Nat.{not-suc-le-zero}
use native.Mathlib.Numerals.{add-one}
use native.Mathlib.Decide.{ℕ_discrete, dec_lt}
use native.Mathlib.Omega.{arith}
use lib.ListN.{length, get_or}
use Rattle.field.specs.Field.{◌⊕◌, ◌⊗◌, power}
use Rattle.field.proofs.Sum.{⊕-self, eq-of-⊕}
use Rattle.field.proofs.Product.{zero-⊗, ⊗-zero, one-⊗, ⊗-one, ⊗-assoc, ⊗-comm, power_lt}
use Rattle.field.proofs.Tables.{power_distinct}
use Rattle.field.specs.Roots.{locators}
use Rattle.nearest.proofs.Sums.{sum_of, sum_of_ext, sum_of-⊕, sum_of-⊗, sum_of_single}
use Rattle.reed_solomon.specs.Decode.{Places, Explains, ErrorAt}
use Rattle.nearest.proofs.Vandermonde.{expand}

pub record Folded (s at : List ℕ) (a b d left : ℕ) (t : List ℕ) : Type 0 where
  pub g : ℕ → ℕ
  pub zeros : (m : ℕ) → m < b → m ≢ a → g (power 2 (get_or at m 0)) ≡ 0
  pub here : power 2 d ≡ g (power 2 (get_or at a 0))
  pub moments : (xs e : List ℕ) → ((j : ℕ) → j < 16 → get_or s j 0 ≡ sum_of (λ x. power x j) xs e)
      → (j : ℕ) → j < left → get_or t j 0 ≡ sum_of (λ x. g x ⊗ power x j) xs e

pub folded_none : (s at : List ℕ) (a left : ℕ) → left ≤ 16 → Folded s at a 0 0 left s
folded_none s at a left few = unfold power in record {
  g = λ x. 1;
  zeros = λ m h. absurd (not-suc-le-zero h);
  here = refl;
  moments = λ xs e h j b. h j (omega arith) ∙ sym (sum_of_ext (λ x. one-⊗ (power x j) (power_lt x j)) xs e);
}

module _ (s at : List ℕ) (a b d left : ℕ) (t : List ℕ) (f : Folded s at a b d left t) where
  -- the place itself is passed over
  pub folded_skip : b ≡ a → Folded s at a (b + 1) d left t
  folded_skip same = record {
    g = f.g;
    zeros = λ m h ne. f.zeros m (omega arith) ne;
    here = f.here;
    moments = f.moments;
  }

  -- another place is folded away
  pub folded_one : (t' : List ℕ) (x y d' rest : ℕ) → b ≢ a → rest + 1 ≡ left
      → x ≡ power 2 (get_or at a 0) → y ≡ power 2 (get_or at b 0) → power 2 d' ≡ power 2 d ⊗ (x ⊕ y)
      → ((j : ℕ) → j < rest → get_or t' j 0 ≡ get_or t (j + 1) 0 ⊕ y ⊗ get_or t j 0)
      → Folded s at a (b + 1) d' rest t'
  folded_one t' x y d' rest ne less ex ey ed et = record {
    g = λ u. f.g u ⊗ (u ⊕ y);
    zeros = λ m h k. elim (ℕ_discrete m b) [
      | yes e ↦ ap (λ (z : ℕ). f.g (power 2 (get_or at m 0)) ⊗ z)
          (ap₂ (λ (u v : ℕ). power 2 (get_or at u 0) ⊕ v) e ey ∙ ⊕-self (power 2 (get_or at b 0)))
          ∙ ⊗-zero (f.g (power 2 (get_or at m 0)))
      | no e ↦ ap (λ (z : ℕ). z ⊗ (power 2 (get_or at m 0) ⊕ y)) (f.zeros m (omega arith) k)
          ∙ zero-⊗ (power 2 (get_or at m 0) ⊕ y)
    ];
    here = ed ∙ ap₂ (λ (u v : ℕ). u ⊗ (v ⊕ y)) f.here ex;
    moments = λ xs e h j k.
        et j k ∙ ap₂ (λ (u v : ℕ). u ⊕ y ⊗ v)
        (ap (λ (n : ℕ). get_or t n 0) (add-one j) ∙ f.moments xs e h (suc j) (omega arith))
        (f.moments xs e h j (omega arith)) ∙ ap (λ (v : ℕ). sum_of (λ u. f.g u ⊗ power u (suc j)) xs e ⊕ v)
        (sym (sum_of-⊗ y (λ u. f.g u ⊗ power u j) xs e))
        ∙ sym (sum_of-⊕ (λ u. f.g u ⊗ power u (suc j)) (λ u. y ⊗ (f.g u ⊗ power u j)) xs e)
        ∙ sym (sum_of_ext (λ u. expand y u (f.g u) j) xs e);
  }

-- `left` counts down at every place but a
pub left_one : (left less a b n : ℕ) → less ≡ left - 1 → b ≢ a → a < n → b < n → left + b + (b - (a + 1)) ≡ n + (b - a)
    → less + (b + 1) + (b + 1 - (a + 1)) ≡ n + (b + 1 - a)
left_one left less a b n e ne ha hb h = omega arith

-- two places of the list have locators that differ
pub places_apart : (at : List ℕ) (n a b : ℕ) → Places at n → a < n → b < n → b ≢ a
    → 0 < power 2 (get_or at a 0) ⊕ power 2 (get_or at b 0)
places_apart at n a b p ha hb ne = elim (ℕ_discrete (power 2 (get_or at a 0) ⊕ power 2 (get_or at b 0)) 0) [
  | yes z ↦
      let e = power_distinct (get_or at a 0) (get_or at b 0) (omega (arith, p.small a ha)) (omega (arith, p.small b hb))
      (eq-of-⊕ (power 2 (get_or at a 0)) (power 2 (get_or at b 0)) z) in
      elim (dec_lt a b) [
        | yes lt ↦ absurd (omega (arith, p.rising a b lt hb))
        | no ge ↦ absurd (omega (arith, p.rising b a (omega arith) ha))
      ]
  | no z ↦ omega arith
]

-- ---- the locators of the places

pub get_d_locators : (k n : ℕ) → n < k → get_or (locators k) n 0 ≡ power 2 (k - suc n)
unfolding locators
get_d_locators zero n h = absurd (not-suc-le-zero h)
get_d_locators (suc k) zero h = ap (power 2) (omega arith)
get_d_locators (suc k) (suc n) h = get_d_locators k n (omega arith) ∙ ap (power 2) (omega arith)

pub locator_at : (n : ℕ) → n < 204 → get_or (locators 204) n 0 ≡ power 2 (203 - n)
locator_at n h = get_d_locators 204 n h ∙ ap (power 2) (omega arith)

pub length_locators : (k : ℕ) → length (locators k) ≡ k
unfolding locators
length_locators zero = refl
length_locators (suc k) = ap suc (length_locators k)

-- ---- the end: the quotient of t's first entry and 2 ^ d

module _ (s at : List ℕ) (n a d left : ℕ) (t : List ℕ) (small : get_or at a 0 < 204) (f : Folded s at a n d left t)
    (some : 0 < left)
    (e : List ℕ) (ex : Explains s at n e) where
  only_here : (p : ℕ) → p < 204 → p ≢ 203 - get_or at a 0 → get_or e p 0 ⊗ (f.g (get_or (locators 204) p 0) ⊗ 1) ≡ 0
  only_here p h ne = elim (ℕ_discrete (get_or e p 0) 0) [
    | yes z ↦ ap (λ (u : ℕ). u ⊗ (f.g (get_or (locators 204) p 0) ⊗ 1)) z ∙ zero-⊗ (f.g (get_or (locators 204) p 0) ⊗ 1)
    | no z ↦
        let m = ex.listed p h z in
        let other : m.0 ≢ a = λ q. ne (omega (arith, m.2, ap (λ (k : ℕ). get_or at k 0) q)) in
        ap (λ (u : ℕ). get_or e p 0 ⊗ (f.g u ⊗ 1)) (locator_at p h ∙ ap (power 2) (sym m.2))
        ∙ ap (λ (u : ℕ). get_or e p 0 ⊗ (u ⊗ 1)) (f.zeros m.0 m.1 other)
        ∙ ap (λ (u : ℕ). get_or e p 0 ⊗ u) (zero-⊗ 1) ∙ ⊗-zero (get_or e p 0)
  ]

  first_entry : get_or t 0 0 ≡ get_or e (203 - get_or at a 0) 0 ⊗ (power 2 d ⊗ 1)
  first_entry =
      unfold power in let back : 203 - (203 - get_or at a 0) ≡ get_or at a 0 = omega arith in
      f.moments (locators 204) e ex.syndromes 0 some
      ∙ sum_of_single (λ x. f.g x ⊗ 1) (locators 204) e (203 - get_or at a 0) (omega (arith, length_locators 204))
      (ex.long ∙ sym (length_locators 204)) (λ p h ne. only_here p (omega (arith, length_locators 204)) ne)
      ∙ ap (λ (u : ℕ). get_or e (203 - get_or at a 0) 0 ⊗ (f.g u ⊗ 1))
      (locator_at (203 - get_or at a 0) (omega arith) ∙ ap (power 2) back)
      ∙ ap (λ (u : ℕ). get_or e (203 - get_or at a 0) 0 ⊗ (u ⊗ 1)) (sym f.here)

-- v ⊗ d, divided by d
divided : (v d i : ℕ) → v < 256 → d ⊗ i ≡ 1 → i ⊗ (v ⊗ (d ⊗ 1)) ≡ v
divided v d i h inv =
    ⊗-comm i (v ⊗ (d ⊗ 1)) ∙ ⊗-assoc v (d ⊗ 1) i
    ∙ ap (λ (x : ℕ). v ⊗ x) (ap (λ (x : ℕ). x ⊗ i) (⊗-comm d 1) ∙ ⊗-assoc 1 d i ∙ ap (λ (x : ℕ). 1 ⊗ x) inv
    ∙ one-⊗ 1 (omega arith)) ∙ ⊗-one v h

pub folded_all : (s at : List ℕ) (n a d left m : ℕ) (t : List ℕ) (r : ℕ) → get_or at a 0 < 204 → 0 < left
    → power 2 d ⊗ power 2 m ≡ 1 → r ≡ power 2 m ⊗ get_or t 0 0 → Folded s at a n d left t
    → ErrorAt s at n (203 - get_or at a 0) r
folded_all s at n a d left m t r small some inv q f = record {
  is = λ e ex.
      q ∙ ap (λ (x : ℕ). power 2 m ⊗ x) (first_entry s at n a d left t small f some e ex)
      ∙ divided (get_or e (203 - get_or at a 0) 0) (power 2 d) (power 2 m) (ex.bytes (203 - get_or at a 0)) inv;
}
