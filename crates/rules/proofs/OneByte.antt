-- Every byte of a codeword but the first can be any byte, by a message that begins with 0: the parity bytes too.
--     zeros_division        zeros leave the division's rest zero
--     parity_last           the parity of a message of zeros but for its last byte
--     OneByte, one_byte     a message whose codeword has a given byte at a given place
use mathlib.Core.Path.{◌≡◌, refl, sym, ap, ap₂, ◌∙◌, subst}
use mathlib.Core.Bool.{cond}
use mathlib.Core.List.{List, [], ◌∷◌, ◌++◌}
use Prim.Native.Nat.{ℕ, zero, suc, ◌+◌, ◌-◌, ◌<◌, ◌≤◌}
use native.Mathlib.Decide.{dec_lt, ℕ_discrete}
use native.Mathlib.Omega.{arith}
use lib.Dec.{T, eqb, ltb, ltb→lt}
use lib.ListN.{length, get_or, replicate, length-replicate, get_or-replicate}
use lib.ListN.{get_or-append, get_or-eq_default}
use lib.Seq.{get_or-append-add}
use borrow.Author.Tests.{eq-eqb, ne_eqb}
use Rattle.field.specs.Field.{◌⊕◌, ◌⊗◌, power}
use Rattle.field.specs.Tables.{logarithm_of}
use Rattle.field.proofs.Sum.{zero-⊕}
use Rattle.field.proofs.Product.{⊗-assoc, ⊗-one, ⊗-lt, zero-⊗, power_add, power_255}
use Rattle.field.proofs.Logarithms.{power_log, logarithm_lt}
use Rattle.lists.specs.Tab.{tab}
use Rattle.lists.proofs.Every.{both, both_left, both_right, every, at}
use Rattle.lists.proofs.Tabs.{length_tab, get_d_tab, tab_cong, tab_ext, tab_join, tab_lt}
use Rattle.rules.specs.Word.{generator, division_step, division_rest, parity_of, codeword_of}
use Rattle.rules.proofs.Generator.{generator_is}

-- ---- the division

-- a list of zeros holds no other number
zero_at : (n k : ℕ) → get_or {A = ℕ} (replicate n 0) k 0 ≡ 0
zero_at n k = elim (dec_lt k n) [
  | yes h ↦ get_or-replicate {A = ℕ} n k 0 0 h
  | no h ↦ get_or-eq_default (replicate {A = ℕ} n 0) 0 {n = k} (omega (arith, length-replicate {A = ℕ} n 0))
]

-- a byte behind zeros
first_step : (byte : ℕ) → division_step (replicate 16 0) byte ≡ tab 16 (λ k. byte ⊗ get_or generator (suc k) 0)
unfolding division_step
first_step byte =
    tab_cong 16 _ _ (λ k lt.
    ap₂ (λ (x y : ℕ). x ⊕ (y ⊕ byte) ⊗ get_or generator (suc k) 0) (zero_at 16 (suc k)) (zero_at 16 0)
    ∙ zero-⊕ ((0 ⊕ byte) ⊗ get_or generator (suc k) 0)
    ∙ ap (λ (x : ℕ). x ⊗ get_or generator (suc k) 0) (zero-⊕ byte))

zero_step : division_step (replicate 16 0) 0 ≡ replicate 16 0
zero_step =
    first_step 0
    ∙ sym (tab_ext 16 _ (replicate 16 0) (length-replicate {A = ℕ} 16 0)
    (λ k lt. zero_at 16 k ∙ sym (zero-⊗ (get_or generator (suc k) 0))))

pub zeros_division : (n : ℕ) (message : List ℕ)
    → division_rest (replicate 16 0) (replicate n 0 ++ message) ≡ division_rest (replicate 16 0) message
unfolding division_rest
zeros_division zero message = refl
zeros_division (suc n) message =
    ap (λ (rest : List ℕ). division_rest rest (replicate n 0 ++ message)) zero_step ∙ zeros_division n message

pub parity_last : (n byte : ℕ)
    → parity_of (replicate n 0 ++ (byte ∷ [])) ≡ tab 16 (λ k. byte ⊗ get_or generator (suc k) 0)
unfolding parity_of division_rest
parity_last n byte = zeros_division n (byte ∷ []) ∙ first_step byte

-- ---- any byte times a coefficient of the generator

-- each of them is a byte, and none is zero
in_range : T (every (λ (k : ℕ). both (ltb 0 (get_or generator (suc k) 0)) (ltb (get_or generator (suc k) 0) 256)) 16)
in_range =
    subst (λ (g : List ℕ). T (every (λ (k : ℕ). both (ltb 0 (get_or g (suc k) 0)) (ltb (get_or g (suc k) 0) 256)) 16))
    (sym generator_is) tt

module _ (k : ℕ) (few : k < 16) where
  abbrev coefficient : ℕ
  coefficient = get_or generator (suc k) 0

  tests : T (both (ltb 0 coefficient) (ltb coefficient 256))
  tests =
      at (λ (k : ℕ). both (ltb 0 (get_or generator (suc k) 0)) (ltb (get_or generator (suc k) 0) 256)) 16 in_range k few

  -- what gives the value where the coefficient multiplies it
  factor : ℕ → ℕ
  factor value = value ⊗ power 2 (255 - logarithm_of coefficient)

  factor_lt : (value : ℕ) → factor value < 256
  factor_lt value = unfold factor in ⊗-lt value (power 2 (255 - logarithm_of coefficient))

  factor_right : (value : ℕ) → value < 256 → factor value ⊗ coefficient ≡ value
  unfolding factor
  factor_right value small =
      let positive = ltb→lt 0 coefficient (both_left (ltb 0 coefficient) (ltb coefficient 256) tests) in
      let byte = ltb→lt coefficient 256 (both_right (ltb 0 coefficient) (ltb coefficient 256) tests) in
      let i = logarithm_of coefficient in
      let whole : 255 - i + i ≡ 255 = omega (arith, logarithm_lt coefficient) in
      ⊗-assoc value (power 2 (255 - i)) coefficient
      ∙ ap (λ (g : ℕ). value ⊗ (power 2 (255 - i) ⊗ g)) (sym (power_log coefficient positive byte))
      ∙ ap (λ (x : ℕ). value ⊗ x) (sym (power_add 2 (255 - i) i) ∙ ap (power 2) whole ∙ power_255)
      ∙ ⊗-one value small

-- ---- one byte of the codeword

pub record OneByte (place value : ℕ) : Type 0 where
  pub message : List ℕ
  pub long : length message ≡ 188
  pub begins_0 : get_or message 0 0 ≡ 0
  pub bytes : (k : ℕ) → get_or message k 0 < 256
  pub is : get_or (codeword_of message) place 0 ≡ value

-- a message of zeros but for one byte
abbrev rule : ℕ → ℕ → ℕ → ℕ
rule place byte k = cond (eqb k place) byte 0

abbrev alone : ℕ → ℕ → List ℕ
alone place byte = tab 188 (rule place byte)

rule_other : (place byte k : ℕ) → (k ≡ place → ⊥) → rule place byte k ≡ 0
rule_other place byte k ne = rw (ne_eqb k place ne) refl

rule_lt : (place byte : ℕ) → byte < 256 → (k : ℕ) → rule place byte k < 256
rule_lt place byte small k = elim (ℕ_discrete k place) [
  | yes e ↦ rw (eq-eqb k place e) small
  | no ne ↦ rw (ne_eqb k place ne) (omega arith)
]

-- the last one's zeros stand in front of it
last_alone : (byte : ℕ) → alone 187 byte ≡ replicate 187 0 ++ (byte ∷ [])
last_alone byte =
    tab_join 187 1 (rule 187 byte)
    ∙ ap₂ (λ (a b : List ℕ). a ++ b)
    (sym (tab_ext 187 (rule 187 byte) (replicate 187 0) (length-replicate {A = ℕ} 187 0)
    (λ k lt. zero_at 187 k ∙ sym (rule_other 187 byte k (λ e. omega arith)))))
    (unfold tab in refl)

module _ (place value : ℕ) (small : value < 256) where
  in_message : 1 ≤ place → place < 188 → OneByte place value
  unfolding codeword_of
  in_message some lt =
      record {
        message = alone place value;
        long = length_tab 188 _;
        begins_0 = get_d_tab 188 _ 0 (omega arith) ∙ rule_other place value 0 (λ e. omega arith);
        bytes = tab_lt 188 (rule place value) 256 (omega arith) (rule_lt place value small);
        is = get_or-append (alone place value) _ 0 place (rw (length_tab 188 (rule place value)) lt)
            ∙ get_d_tab 188 (rule place value) place lt ∙ rw (eq-eqb place place refl) refl;
      }

  in_parity : (k : ℕ) → k < 16 → place ≡ 188 + k → OneByte place value
  unfolding codeword_of
  in_parity k few behind =
      let byte = factor k few value in
      record {
        message = alone 187 byte;
        long = length_tab 188 _;
        begins_0 = get_d_tab 188 _ 0 (omega arith) ∙ rule_other 187 byte 0 (λ e. omega arith);
        bytes = tab_lt 188 (rule 187 byte) 256 (omega arith) (rule_lt 187 byte (factor_lt k few value));
        is = ap (λ (n : ℕ). get_or (codeword_of (alone 187 byte)) n 0)
            (behind ∙ ap (λ (n : ℕ). n + k) (sym (length_tab 188 (rule 187 byte))))
            ∙ get_or-append-add (alone 187 byte) (parity_of (alone 187 byte)) k 0
            ∙ ap (λ (m : List ℕ). get_or (parity_of m) k 0) (last_alone byte)
            ∙ ap (λ (l : List ℕ). get_or l k 0) (parity_last 187 byte) ∙ get_d_tab 16 _ k few
            ∙ factor_right k few value small;
      }

  -- Byte `place` of the codeword is the value.
  pub one_byte : 1 ≤ place → place < 204 → OneByte place value
  one_byte some few = elim (dec_lt place 188) [
    | yes lt ↦ in_message some lt
    | no ge ↦ in_parity (place - 188) (omega arith) (omega arith)
  ]
