-- How `mend` takes the errors away, one listed place after the other.
use mathlib.Core.Path.{◌≡◌, refl, sym, ap, ◌∙◌, subst}
use mathlib.Core.Logic.{◌≢◌, ◌⊎◌, inl, inr, ⊎_elim}
use mathlib.Core.List.{List}
use Prim.Native.Nat.{ℕ, zero, suc, ◌+◌, ◌-◌, ◌≤◌, ◌<◌}
use native.Mathlib.Decide.{ℕ_discrete}
use native.Mathlib.Omega.{arith}
use lib.ListN.{length, get_or, set}
use lib.Seq.{get_or-set_same, get_or-set_other}
use Rattle.field.specs.Field.{◌⊕◌}
use Rattle.field.proofs.Sum.{⊕-self, ⊕-cancel}
use Rattle.nearest.specs.Codeword.{distance}
use Rattle.reed_solomon.specs.Decode.{Places, ErrorAt, Mended}
use Rattle.nearest.proofs.Words.{distance_self, distance_more, distance_same}

-- the errors at the first b places are taken away from w, which has become c; count of them are not 0
pub record Mending (s at : List ℕ) (n : ℕ) (w : List ℕ) (b count : ℕ) (c : List ℕ) : Type 0 where
  pub done : (a : ℕ) → a < b → ErrorAt s at n (203 - get_or at a 0)
      (get_or w (203 - get_or at a 0) 0 ⊕ get_or c (203 - get_or at a 0) 0)
  pub rest : (p : ℕ) → p < 204 → ((a : ℕ) → a < b → get_or at a 0 ≢ 203 - p) → get_or c p 0 ≡ get_or w p 0
  pub far : distance c w ≡ count
  pub few : count ≤ b

pub mending_none : (s at : List ℕ) (n : ℕ) (w : List ℕ) → Mending s at n w 0 0 w
mending_none s at n w =
    record { done = λ a h. absurd (omega arith); rest = λ p h u. refl; far = distance_self w; few = omega arith }

module _ (s at : List ℕ) (n : ℕ) (w : List ℕ) (b count : ℕ) (c : List ℕ) (pl : Places at n) (hb : b < n)
    (lc : length c ≡ 204) (lw : length w ≡ 204) (m : Mending s at n w b count c) (v : ℕ)
    (er : ErrorAt s at n (203 - get_or at b 0) v) where
  place : ℕ
  place = 203 - get_or at b 0

  small : get_or at b 0 < 204
  small = pl.small b hb

  inside : place < length c
  inside = unfold place in omega arith

  -- the word is as it was at that place
  unchanged : get_or c place 0 ≡ get_or w place 0
  unfolding place
  unchanged = m.rest (203 - get_or at b 0) (omega arith) (λ a h e. absurd (omega (arith, pl.rising a b h hb, small)))

  next : List ℕ
  next = set c place (get_or c place 0 ⊕ v)

  at_place : get_or w place 0 ⊕ get_or next place 0 ≡ v
  at_place =
      unfold next in ap (λ (x : ℕ). get_or w place 0 ⊕ x)
      (get_or-set_same c place (get_or c place 0 ⊕ v) 0 inside ∙ ap (λ (x : ℕ). x ⊕ v) unchanged)
      ∙ ⊕-cancel (get_or w place 0) v

  elsewhere : (p : ℕ) → p ≢ place → get_or next p 0 ≡ get_or c p 0
  elsewhere p ne = unfold next in get_or-set_other c place p (get_or c place 0 ⊕ v) 0 ne

  module _ (count' : ℕ) (counted : ((v ≢ 0) × (count' ≡ count + 1)) ⊎ ((v ≡ 0) × (count' ≡ count))) where
    pub mending_one : Mending s at n w (b + 1) count' (set c (203 - get_or at b 0) (get_or c (203 - get_or at b 0) 0 ⊕
        v))
    mending_one = unfold next place in record {
      done = λ a h. elim (ℕ_discrete a b) [
        | yes e ↦ subst (λ (k : ℕ). ErrorAt s at n (203 - get_or at k 0)
            (get_or w (203 - get_or at k 0) 0 ⊕ get_or next (203 - get_or at k 0) 0)) (sym e)
            (subst (ErrorAt s at n place) (sym at_place) er)
        | no e ↦
            let below : get_or at a 0 < get_or at b 0 = pl.rising a b (omega arith) hb in
            subst (λ (x : ℕ). ErrorAt s at n (203 - get_or at a 0) (get_or w (203 - get_or at a 0) 0 ⊕ x))
            (sym (elsewhere (203 - get_or at a 0) (λ q. absurd (omega (arith, small, below))))) (m.done a (omega arith))
      ];
      rest = λ p h u.
          elsewhere p (λ q. absurd (u b (omega arith) (omega (arith, small)))) ∙ m.rest p h (λ a k. u a (omega arith));
      far = ⊎_elim
          (λ d. distance_more c w place v inside (lc ∙ sym lw) unchanged d.0 ∙ ap (λ (x : ℕ). x + 1) m.far
          ∙ sym d.1)
          (λ d. distance_same c w place v inside (lc ∙ sym lw) unchanged d.0 ∙ m.far ∙ sym d.1) counted;
      few = ⊎_elim (λ d. omega (arith, m.few, d.1)) (λ d. omega (arith, m.few, d.1)) counted;
    }

-- where q stands in the list, or that it doesn't
find : (at : List ℕ) (n q : ℕ) → ((a : ℕ) × (a < n) × (get_or at a 0 ≡ q)) ⊎ ((a : ℕ) → a < n → get_or at a 0 ≢ q)
find at zero q = inr (λ a h. absurd (omega arith))
find at (suc n) q = elim (ℕ_discrete (get_or at n 0) q) [
  | yes e ↦ inl (n, omega arith, e)
  | no e ↦ ⊎_elim (λ m. inl (m.0, omega (arith, m.1), m.2))
      (λ u. inr (λ a h. elim (ℕ_discrete a n) [
        | yes k ↦ λ z. e (ap (λ (x : ℕ). get_or at x 0) (sym k) ∙ z)
        | no k ↦ u a (omega arith)
      ])) (find at n q)
]

pub mending_all : (s at : List ℕ) (n : ℕ) (w : List ℕ) (count : ℕ) (c : List ℕ) → Places at n
    → Mending s at n w n count c → Mended s at n w c count
mending_all s at n w count c pl m = record {
  errors = λ p h. ⊎_elim
      (λ k.
      let e : 203 - get_or at k.0 0 ≡ p = omega (arith, k.2) in
      subst (λ (x : ℕ). ErrorAt s at n x (get_or w x 0 ⊕ get_or c x 0)) e (m.done k.0 k.1))
      (λ u. record {
        is = λ e ex. ap (λ (x : ℕ). get_or w p 0 ⊕ x) (m.rest p h u) ∙ ⊕-self (get_or w p 0)
            ∙ elim (ℕ_discrete (get_or e p 0) 0) [
              | yes z ↦ sym z
              | no z ↦ let k = ex.listed p h z in absurd (u k.0 k.1 k.2)
            ];
      }) (find at n (203 - p));
  far = m.far;
  few = m.few;
}
