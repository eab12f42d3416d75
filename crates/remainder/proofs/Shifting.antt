-- One step of `shifted` and one of `reduced`, at the roots.
--     shift_none, shift_more, shift_all      the sum of the multiples of rows comes to the bytes times x ^ 16
--     two_rows                               both rows are added one after the other
--     block_more                             the remainder, times x ^ 16, and a block are the remainder of a block more
use mathlib.Core.Path.{◌≡◌, sym, ap, ap₂, ◌∙◌}
use mathlib.Core.List.{List, ◌++◌}
use Prim.Native.Nat.{ℕ, suc, ◌+◌, ◌*◌, ◌-◌, ◌/◌, ◌%◌, ◌<◌}
use native.Mathlib.Omega.{arith}
use lib.Dec.{eqb, eqb→eq}
use lib.ListN.{length, get_or, take, drop, replicate, length-replicate}
use lib.Seq.{take_all, get_or-take, get_or-drop}
use Rattle.field.specs.Field.{◌⊕◌, ◌⊗◌, power, value}
use Rattle.field.proofs.Sum.{⊕-assoc}
use Rattle.field.proofs.Product.{⊕-⊗, ⊗-assoc, zero-⊗}
use Rattle.lists.specs.Tab.{tab}
use Rattle.lists.proofs.Tabs.{length_tab, get_d_tab, tab_cong}
use Rattle.lists.proofs.Every.{at}
use Rattle.remainder.specs.Remainder.{AtRoots, Remainder, Parity}
use Rattle.remainder.specs.Steps.{row, Table}
use Rattle.remainder.proofs.Zeros.{zeros_at}
use Rattle.field.proofs.Values.{value_append, value_more, value_zeros, value_elements, value-tab-⊕}

-- a byte by its two halves
halves : (f : ℕ) → f < 256 → f % 16 ⊕ 16 * (f / 16) ≡ f
unfolding ◌⊕◌
halves f h = eqb→eq (f % 16 ⊕ 16 * (f / 16)) f (at (λ (k : ℕ). eqb (k % 16 ⊕ 16 * (k / 16)) k) 256 tt f h)

-- what the first j bytes come to
abbrev pub Shifted : List ℕ → ℕ → List ℕ → Type 0
Shifted bytes j = AtRoots (λ x. value (take j bytes) x ⊗ power x (32 - j))

pub shift_none : (bytes : List ℕ) → Shifted bytes 0 (replicate 16 0)
shift_none bytes = unfold value in record {
  long = length-replicate {A = ℕ} 16 0;
  bytes = λ k. omega (arith, zeros_at 16 k);
  agree = λ m h. value_zeros 16 (power 2 m) ∙ sym (zero-⊗ (power (power 2 m) 32));
}

module _ (table bytes : List ℕ) (right : Table table) (long : length bytes ≡ 16) (j f : ℕ) (h : j < 16)
    (is : f ≡ get_or bytes j 0) (small : get_or bytes j 0 < 256) where
  -- two rows of the table, added
  rows_value : (sum : List ℕ) (p q x : ℕ) → length sum ≡ 16
      → value (tab 16 (λ k. (get_or sum k 0 ⊕ get_or table (p + k) 0) ⊕ get_or table (q + k) 0)) x
      ≡ (value sum x ⊕ value (row table p) x) ⊕ value (row table q) x
  rows_value sum p q x e =
      unfold row in value-tab-⊕ 16 (λ k. get_or sum k 0 ⊕ get_or table (p + k) 0) (λ k. get_or table (q + k) 0) x
      ∙ ap (λ (v : ℕ). v ⊕ value (tab 16 (λ k. get_or table (q + k) 0)) x)
      (value-tab-⊕ 16 (λ k. get_or sum k 0) (λ k. get_or table (p + k) 0) x
      ∙ ap (λ (v : ℕ). v ⊕ value (tab 16 (λ k. get_or table (p + k) 0)) x) (value_elements 16 sum x e))

  ring : (v x p a b f : ℕ) → a ⊕ b ≡ f → (v ⊗ (x ⊗ p) ⊕ a ⊗ p) ⊕ b ⊗ p ≡ (v ⊗ x ⊕ f) ⊗ p
  ring v x p a b f e = rw (← e) (simp (⊕-⊗, ⊗-assoc, ⊕-assoc))

  pub shift_more : (sum next : List ℕ) → Shifted bytes j sum → ((k : ℕ) → get_or next k 0 < 256)
      → next ≡ tab 16 (λ k. (get_or sum k 0 ⊕ get_or table (256 * (f % 16) + 16 * j + k) 0)
      ⊕ get_or table (4096 + 256 * (f / 16) + 16 * j + k) 0) → Shifted bytes (j + 1) next
  shift_more sum next s b e =
      unfold power in let p = 256 * (f % 16) + 16 * j in
      let q = 4096 + 256 * (f / 16) + 16 * j in
      record {
        long = ap length e ∙ length_tab 16 (λ k. (get_or sum k 0 ⊕ get_or table (p + k) 0) ⊕ get_or table (q + k) 0);
        bytes = b;
        agree = λ m lt.
            let x = power 2 m in
            let n : 32 - j ≡ suc (31 - j) = omega arith in
            let o : 31 - j ≡ 32 - (j + 1) = omega arith in
            ap (λ (c : List ℕ). value c x) e ∙ rows_value sum p q x s.long
            ∙ ap₂ (λ (u v : ℕ). (value sum x ⊕ u) ⊕ v) (right.low (f % 16) j m (omega arith) h lt) (right.high
            (f / 16) j m (omega arith) h lt)
            ∙ ap (λ (u : ℕ). (u ⊕ (f % 16) ⊗ power x (31 - j)) ⊕ (16 * (f / 16)) ⊗ power x (31 - j))
            (s.agree m lt ∙ ap (λ (i : ℕ). value (take j bytes) x ⊗ power x i) n)
            ∙ ring (value (take j bytes) x) x (power x (31 - j)) (f % 16) (16 * (f / 16)) f (halves f (omega arith))
            ∙ ap (λ (a : ℕ). (value (take j bytes) x ⊗ x ⊕ a) ⊗ power x (31 - j)) is
            ∙ ap₂ (λ (u v : ℕ). u ⊗ power x v) (sym (value_more bytes j x (omega arith) small)) o;
      }

pub shift_all : (bytes sum : List ℕ) (j : ℕ) → length bytes ≡ 16 → j ≡ 16 → Shifted bytes j sum → Parity bytes sum
shift_all bytes sum j long e s = record {
  long = s.long;
  bytes = s.bytes;
  agree = λ m lt.
      let x = power 2 m in
      let o : 32 - j ≡ 16 = omega arith in
      s.agree m lt ∙ ap₂ (λ (c : List ℕ) (i : ℕ). value c x ⊗ power x i) (take_all j bytes (omega arith)) o;
}

-- two rows of the table, added one after the other
pub two_rows : (table sum one two : List ℕ) (p q m n : ℕ) → m ≡ 16 → n ≡ 16
    → one ≡ tab 16 (λ k. get_or sum k 0 ⊕ get_or (take m (drop p table)) k 0)
    → two ≡ tab 16 (λ k. get_or one k 0 ⊕ get_or (take n (drop q table)) k 0)
    → two ≡ tab 16 (λ k. (get_or sum k 0 ⊕ get_or table (p + k) 0) ⊕ get_or table (q + k) 0)
two_rows table sum one two p q m n e f first second =
    second ∙ tab_cong 16 _ _ (λ k lt.
    ap₂ (λ (a b : ℕ). a ⊕ b) (ap (λ (l : List ℕ). get_or l k 0) first ∙ get_d_tab 16 _ k lt
    ∙ ap (λ (b : ℕ). get_or sum k 0 ⊕ b) (at_row p m e k lt)) (at_row q n f k lt))
  where
    at_row : (i c : ℕ) → c ≡ 16 → (k : ℕ) → k < 16 → get_or (take c (drop i table)) k 0 ≡ get_or table (i + k) 0
    at_row i c is k lt = get_or-take c (drop i table) k 0 (omega arith) ∙ get_or-drop i table k 0

pub block_more : (done block before shifted next : List ℕ) → length block ≡ 16
    → Remainder done before → Parity before shifted → ((k : ℕ) → get_or next k 0 < 256)
    → next ≡ tab 16 (λ k. get_or shifted k 0 ⊕ get_or block k 0) → Remainder (done ++ block) next
block_more done block before shifted next size r s b e =
    record {
      long = ap length e ∙ length_tab 16 (λ k. get_or shifted k 0 ⊕ get_or block k 0);
      bytes = b;
      agree = λ m lt.
          let x = power 2 m in
          ap (λ (c : List ℕ). value c x) e
          ∙ value-tab-⊕ 16 (λ k. get_or shifted k 0) (λ k. get_or block k 0) x
          ∙ ap₂ (λ (u v : ℕ). u ⊕ v) (value_elements 16 shifted x s.long ∙ s.agree m lt
          ∙ ap (λ (v : ℕ). v ⊗ power x 16) (r.agree m lt)) (value_elements 16 block x size)
          ∙ ap (λ (n : ℕ). value done x ⊗ power x n ⊕ value block x) (sym size)
          ∙ sym (value_append done block x);
    }

-- the parity, by way of the remainder
pub parity_of : (message rest result : List ℕ) → Remainder message rest → Parity rest result → Parity message result
parity_of message rest result r p = record {
  long = p.long;
  bytes = p.bytes;
  agree = λ m lt. p.agree m lt ∙ ap (λ (v : ℕ). v ⊗ power (power 2 m) 16) (r.agree m lt);
}
