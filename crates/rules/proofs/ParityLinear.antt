-- Rule 1 is linear: the parity of the sum without carries of two messages of one length is the sum of their parities,
-- and so the sum of two codewords is a codeword.
--     entry_added                       an entry of the sum of two lists of one length
--     parity_added                      the parity of a sum
--     codeword_added, packets_added     its codeword, and that of two packets
use mathlib.Core.Path.{◌≡◌, refl, sym, ap, ap₂, ◌∙◌, subst}
use mathlib.Core.List.{List, [], ◌∷◌, ◌++◌}
use Prim.Native.Nat.{ℕ, suc, ◌+◌}
use native.Mathlib.Decide.{dec_lt}
use native.Mathlib.Omega.{arith}
use lib.Bits.{bit_xor}
use lib.ListN.{length, get_or, replicate, get_or-append, get_or-eq_default}
use lib.Seq.{get_or-append-add}
use Rattle.field.specs.Field.{◌⊕◌, ◌⊗◌}
use Rattle.field.proofs.Sum.{⊕-assoc, ⊕-left-comm}
use Rattle.field.proofs.Product.{⊕-⊗}
use Rattle.lists.specs.Tab.{tab}
use Rattle.lists.proofs.Tabs.{length_tab, get_d_tab, tab_cong, tab_join}
use Rattle.rules.specs.Word.{generator, division_step, division_rest, parity_of, codeword_of}
use Rattle.rules.proofs.Added.{added_to}

pub entry_added : (size : ℕ) (one two : List ℕ) → length one ≡ size → length two ≡ size → (k : ℕ)
    → get_or (added_to size one two) k 0 ≡ bit_xor (get_or one k 0) (get_or two k 0)
entry_added size one two long-one long-two k = elim (dec_lt k size) [
  | yes h ↦ get_d_tab size (λ k. bit_xor (get_or one k 0) (get_or two k 0)) k h
  | no h ↦
      get_or-eq_default (added_to size one two) 0 {n = k} (rw (length_tab size _) (omega arith))
      ∙ sym (ap₂ bit_xor (get_or-eq_default one 0 {n = k} (omega arith))
      (get_or-eq_default two 0 {n = k} (omega arith)))
]

-- ---- the division

step_long : (rest : List ℕ) (byte : ℕ) → length (division_step rest byte) ≡ 16
step_long rest byte = unfold division_step in length_tab 16 _

-- one entry of the rest behind a byte: the field's sum is the sum without carries, and its product respects it
one_step : (a b c d x y g : ℕ)
    → bit_xor a b ⊕ (bit_xor c d ⊕ bit_xor x y) ⊗ g ≡ bit_xor (a ⊕ (c ⊕ x) ⊗ g) (b ⊕ (d ⊕ y) ⊗ g)
one_step a b c d x y g = unfold ◌⊕◌ in sorted a b c d x y g
  where
    sorted : (a b c d x y g : ℕ)
        → (a ⊕ b) ⊕ ((c ⊕ d) ⊕ (x ⊕ y)) ⊗ g ≡ (a ⊕ (c ⊕ x) ⊗ g) ⊕ (b ⊕ (d ⊕ y) ⊗ g)
    sorted a b c d x y g = simp (⊕-⊗, ⊕-assoc, ⊕-left-comm)

step_added : (rest other : List ℕ) → length rest ≡ 16 → length other ≡ 16 → (a b : ℕ)
    → division_step (added_to 16 rest other) (bit_xor a b) ≡ added_to 16 (division_step rest a) (division_step other b)
unfolding division_step
step_added rest other long long' a b =
    tab_cong 16 _ _ (λ k lt.
    ap₂ (λ (x y : ℕ). x ⊕ (y ⊕ bit_xor a b) ⊗ get_or generator (suc k) 0)
    (entry_added 16 rest other long long' (suc k)) (entry_added 16 rest other long long' 0)
    ∙ one_step (get_or rest (suc k) 0) (get_or other (suc k) 0) (get_or rest 0 0) (get_or other 0 0) a b
    (get_or generator (suc k) 0)
    ∙ sym (ap₂ bit_xor (get_d_tab 16 (entry_of rest a) k lt) (get_d_tab 16 (entry_of other b) k lt)))
  where
    entry_of : List ℕ → ℕ → ℕ → ℕ
    entry_of rest byte k = get_or rest (suc k) 0 ⊕ (get_or rest 0 0 ⊕ byte) ⊗ get_or generator (suc k) 0

division_added : (one two rest other : List ℕ) → length one ≡ length two → length rest ≡ 16 → length other ≡ 16
    → division_rest (added_to 16 rest other) (added_to (length one) one two)
    ≡ added_to 16 (division_rest rest one) (division_rest other two)
unfolding division_rest tab
division_added [] [] rest other same long long' = refl
division_added [] (b ∷ two) rest other same long long' = absurd (omega arith)
division_added (a ∷ one) [] rest other same long long' = absurd (omega arith)
division_added (a ∷ one) (b ∷ two) rest other same long long' =
    ap (λ (r : List ℕ). division_rest r (added_to (length one) one two)) (step_added rest other long long' a b)
    ∙ division_added one two (division_step rest a) (division_step other b) (omega arith)
    (step_long rest a) (step_long other b)

-- ---- the parity and the codeword

module _ (one two : List ℕ) (same : length one ≡ length two) where
  pub parity_added : parity_of (added_to (length one) one two) ≡ added_to 16 (parity_of one) (parity_of two)
  unfolding parity_of
  parity_added =
      ap (λ (zeros : List ℕ). division_rest zeros (added_to (length one) one two)) zeros_added
      ∙ division_added one two (replicate 16 0) (replicate 16 0) same refl refl
    where
      zeros_added : replicate 16 0 ≡ added_to 16 (replicate 16 0) (replicate 16 0)
      zeros_added = unfold tab in refl

  -- "The sum of two codewords is a codeword": that of the sum of the packets.
  pub codeword_added
      : codeword_of (added_to (length one) one two) ≡ added_to (length one + 16) (codeword_of one) (codeword_of two)
  unfolding codeword_of
  codeword_added =
      sym (tab_join (length one) 16 (λ k. bit_xor (get_or (codeword_of one) k 0) (get_or (codeword_of two) k 0))
      ∙ ap₂ (λ (front back : List ℕ). front ++ back)
      (tab_cong (length one) _ _ (λ k lt. ap₂ bit_xor (get_or-append one (parity_of one) 0 k lt)
      (get_or-append two (parity_of two) 0 k (omega arith))))
      (tab_cong 16 _ _ (λ k lt. ap₂ bit_xor (get_or-append-add one (parity_of one) k 0)
      (ap (λ (n : ℕ). get_or (two ++ parity_of two) (n + k) 0) same ∙ get_or-append-add two (parity_of two) k 0))
      ∙ sym parity_added))

-- of two packets of 188 bytes
pub packets_added : (one two : List ℕ) → length one ≡ 188 → length two ≡ 188
    → codeword_of (added_to 188 one two) ≡ added_to 204 (codeword_of one) (codeword_of two)
packets_added one two long long' =
    subst (λ (n : ℕ). codeword_of (added_to n one two) ≡ added_to (n + 16) (codeword_of one) (codeword_of two)) long
    (codeword_added one two (long ∙ sym long'))
