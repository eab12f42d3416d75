-- The first bytes of a word behind zeros: what is stored, and its value.
use mathlib.Core.Path.{◌≡◌, refl, sym, ap, ◌∙◌}
use mathlib.Core.List.{List, ◌++◌}
use Prim.Native.Nat.{ℕ, ◌+◌, ◌-◌, ◌<◌, ◌≤◌}
use native.Mathlib.Omega.{arith}
use native.Mathlib.Decide.{dec_lt}
use borrow.Author.Tests.{lt-ltb, le-ltb}
use Rattle.std.proofs.lemmas.List.{places}
use lib.ListN.{length, get_or, take, drop, replicate, length-replicate, get_or-replicate, length-append}
use lib.Seq.{length-take-le, get_or-take, take_all}
use Rattle.field.specs.Field.{◌⊕◌, ◌⊗◌, power, value}
use Rattle.field.proofs.Sum.{zero-⊕}
use Rattle.field.proofs.Product.{zero-⊗}
use Rattle.lists.specs.Tab.{tab}
use Rattle.lists.proofs.Tabs.{tab_ext, length_tab}
use Rattle.lists.proofs.Join.{get_d_first, get_d_second}
use Rattle.remainder.specs.Remainder.{Remainder}
use Rattle.remainder.specs.Steps.{padded}
use Rattle.field.proofs.Values.{value_append, value_zeros}

pub padded_zero : (gap : ℕ) (word : List ℕ) (k : ℕ) → k < gap → padded gap word k ≡ 0
padded_zero gap word k h = unfold padded in rw (lt-ltb k gap h) refl

pub padded_at : (gap : ℕ) (word : List ℕ) (k : ℕ) → gap ≤ k → padded gap word k ≡ get_or word (k - gap) 0
padded_at gap word k h = unfold padded in rw (le-ltb k gap h) refl

-- a copy into an array of zeros
module _ (zeros head : List ℕ) (gap : ℕ) (long : length zeros ≡ 16) (none : (i : ℕ) → get_or zeros i 0 ≡ 0)
    (is : gap ≡ 16 - length head) (few : length head ≤ 16) where
  abbrev copied : List ℕ
  copied = take gap zeros ++ (head ++ drop (16 - gap) (drop gap zeros))

  before : (k : ℕ) → k < gap → get_or copied k 0 ≡ get_or zeros k 0
  before k lt = grind (arith, places)

  behind : (k : ℕ) → gap ≤ k → k < 16 → get_or copied k 0 ≡ get_or head (k - gap) 0
  behind k le lt = grind (arith, places)

  pub padded_copy : copied ≡ tab 16 (padded gap head)
  padded_copy =
      tab_ext 16 (padded gap head) copied (grind (arith, places))
      (λ k lt. elim (dec_lt k gap) [
        | yes p ↦ before k p ∙ none k ∙ sym (padded_zero gap head k p)
        | no p ↦ behind k (omega arith) lt ∙ sym (padded_at gap head k (omega arith))
      ])

padded_list : (gap : ℕ) (word : List ℕ) → gap ≤ 16 → 16 ≤ gap + length word
    → tab 16 (padded gap word) ≡ replicate gap 0 ++ take (16 - gap) word
padded_list gap word h l =
    let front : length (replicate {A = ℕ} gap 0) ≡ gap = length-replicate {A = ℕ} gap 0 in
    let back : length (take (16 - gap) word) ≡ 16 - gap = length-take-le (16 - gap) word (omega arith) in
    sym (tab_ext 16 (padded gap word) (replicate gap 0 ++ take (16 - gap) word)
    (omega (arith, length-append (replicate gap 0) (take (16 - gap) word)))
    (λ k lt. elim (dec_lt k gap) [
      | yes p ↦
          get_d_first (replicate gap 0) (take (16 - gap) word) k (omega arith) ∙ get_or-replicate {A = ℕ} gap k 0 0 p
          ∙ sym (padded_zero gap word k p)
      | no p ↦
          get_d_second (replicate gap 0) (take (16 - gap) word) k (omega arith)
          ∙ ap (λ (n : ℕ). get_or (take (16 - gap) word) (k - n) 0) front
          ∙ get_or-take (16 - gap) word (k - gap) 0 (omega arith) ∙ sym (padded_at gap word k (omega arith))
    ]))

-- zeros in front change no value
pub padded_value : (gap : ℕ) (word : List ℕ) (x : ℕ) → gap ≤ 16 → 16 ≤ gap + length word
    → value (tab 16 (padded gap word)) x ≡ value (take (16 - gap) word) x
padded_value gap word x h l =
    let back = take (16 - gap) word in
    ap (λ (c : List ℕ). value c x) (padded_list gap word h l) ∙ value_append (replicate gap 0) back x
    ∙ ap (λ (v : ℕ). v ⊗ power x (length back) ⊕ value back x) (value_zeros gap x)
    ∙ ap (λ (v : ℕ). v ⊕ value back x) (zero-⊗ (power x (length back))) ∙ zero-⊕ (value back x)

-- at most sixteen bytes behind zeros are their own remainder
pub first_remainder : (head result : List ℕ) → length head ≤ 16 → ((k : ℕ) → get_or result k 0 < 256)
    → result ≡ tab 16 (padded (16 - length head) head) → Remainder head result
first_remainder head result h b e =
    let n : 16 - (16 - length head) ≡ length head = omega arith in
    record {
      long = ap length e ∙ length_tab 16 (padded (16 - length head) head);
      bytes = b;
      agree = λ m lt.
          ap (λ (c : List ℕ). value c (power 2 m)) e
          ∙ padded_value (16 - length head) head (power 2 m) (omega arith) (omega arith)
          ∙ ap (λ (i : ℕ). value (take i head) (power 2 m)) n
          ∙ ap (λ (c : List ℕ). value c (power 2 m)) (take_all (length head) head (omega arith));
    }
