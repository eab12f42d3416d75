-- The syndromes of a word: one byte more, and one byte changed.
use mathlib.Core.Path.{◌≡◌, refl, sym, ap, ap₂, ◌∙◌, subst}
use mathlib.Core.Logic.{◌≢◌}
use mathlib.Core.List.{List, [], ◌∷◌}
use Prim.Native.Nat.{ℕ, zero, suc, ◌+◌, ◌*◌, ◌-◌, ◌/◌, ◌%◌, ◌<◌}
use native.Mathlib.Nat.{mul_comm}
use native.Mathlib.Numerals.{add-one}
use native.Mathlib.Omega.{arith}
use lib.ListN.{length, get_or, take, set, length-set}
use lib.Seq.{take_all}
use Rattle.field.specs.Field.{◌⊕◌, times_bits, ◌⊗◌, power, value}
use Rattle.field.specs.Tables.{Powers}
use Rattle.field.proofs.Sum.{⊕-comm, ⊕-assoc, ⊕-zero, ⊕-laws}
use Rattle.field.proofs.Product.{times_bits_double, two-⊗, ⊕-⊗, ⊗-comm, power_lt, power_mul, of_bytes}
use Rattle.field.proofs.Values.{value_more}
use Rattle.reed_solomon.specs.Decode.{Syndromes, picked_rows}

-- a bit that is not 0
pub bit_one : (n : ℕ) → n % 2 ≢ 0 → n % 2 ≡ 1
bit_one n ne = omega arith

-- ---- a product by the bits of one factor

-- the lowest bit is dealt with
bits_step : (n k b k' b' : ℕ) → k + 1 ≡ k' → b / 2 ≡ b'
    → times_bits (suc n) (power 2 k) b ≡ b % 2 * power 2 k ⊕ times_bits n (power 2 k') b'
unfolding times_bits power
bits_step n k b k' b' ek eb =
    ap (λ (x : ℕ). b % 2 * power 2 k ⊕ x) (sym (times_bits_double n (power 2 k) (b / 2))
    ∙ ap₂ (λ (x y : ℕ). times_bits n x y)
    (sym (two-⊗ (power 2 k) (power_lt 2 k)) ∙ ap (power 2) (sym (add-one k) ∙ ek)) eb)

bits_none : (k b : ℕ) → times_bits 0 (power 2 k) b ≡ 0
bits_none k b = unfold times_bits in refl

-- 2 ^ k times a byte is the sum of 2 ^ (k + i) over its bits i
product_bits : (c k : ℕ) → c < 256 → power 2 k ⊗ c
    ≡ c / 1 % 2 * power 2 k ⊕ (c / 2 % 2 * power 2 (k + 1) ⊕ (c / 4 % 2 * power 2 (k + 2) ⊕ (c / 8 % 2 * power 2 (k + 3)
    ⊕ (c / 16 % 2 * power 2 (k + 4) ⊕ (c / 32 % 2 * power 2 (k + 5) ⊕ (c / 64 % 2 * power 2 (k + 6)
    ⊕ (c / 128 % 2 * power 2 (k + 7) ⊕ 0)))))))
product_bits c k h =
    let one : c ≡ c / 1 = omega arith in
    sym (of_bytes (power 2 k) c (power_lt 2 k) h) ∙ ap (times_bits 8 (power 2 k)) one
    ∙ bits_step 7 k (c / 1) (k + 1) (c / 2) refl (omega arith)
    ∙ ap (λ (x : ℕ). c / 1 % 2 * power 2 k ⊕ x) (bits_step 6 (k + 1) (c / 2) (k + 2) (c / 4) (omega arith) (omega arith)
    ∙ ap (λ (x : ℕ). c / 2 % 2 * power 2 (k + 1) ⊕ x)
    (bits_step 5 (k + 2) (c / 4) (k + 3) (c / 8) (omega arith) (omega arith)
    ∙ ap (λ (x : ℕ). c / 4 % 2 * power 2 (k + 2) ⊕ x)
    (bits_step 4 (k + 3) (c / 8) (k + 4) (c / 16) (omega arith) (omega arith)
    ∙ ap (λ (x : ℕ). c / 8 % 2 * power 2 (k + 3) ⊕ x)
    (bits_step 3 (k + 4) (c / 16) (k + 5) (c / 32) (omega arith) (omega arith)
    ∙ ap (λ (x : ℕ). c / 16 % 2 * power 2 (k + 4) ⊕ x)
    (bits_step 2 (k + 5) (c / 32) (k + 6) (c / 64) (omega arith) (omega arith)
    ∙ ap (λ (x : ℕ). c / 32 % 2 * power 2 (k + 5) ⊕ x)
    (bits_step 1 (k + 6) (c / 64) (k + 7) (c / 128) (omega arith) (omega arith)
    ∙ ap (λ (x : ℕ). c / 64 % 2 * power 2 (k + 6) ⊕ x)
    (bits_step 0 (k + 7) (c / 128) (k + 8) (c / 256) (omega arith) (omega arith)
    ∙ ap (λ (x : ℕ). c / 128 % 2 * power 2 (k + 7) ⊕ x) (bits_none (k + 8) (c / 256)))))))))

-- the same as the code adds up what the table of powers gives
lane_product : (c k : ℕ) (table : List ℕ) (a b d e f g h i : ℕ) → c < 256 → k < 16 → Powers table
    → a ≡ c / 1 % 2 * get_or table k 0 → b ≡ c / 2 % 2 * get_or table (k + 1) 0 → d ≡ c / 4 % 2 * get_or table (k + 2) 0
    → e ≡ c / 8 % 2 * get_or table (k + 3) 0 → f ≡ c / 16 % 2 * get_or table (k + 4) 0
    → g ≡ c / 32 % 2 * get_or table (k + 5) 0 → h ≡ c / 64 % 2 * get_or table (k + 6) 0
    → i ≡ c / 128 % 2 * get_or table (k + 7) 0 → (((a ⊕ b) ⊕ d) ⊕ e) ⊕ (((f ⊕ g) ⊕ h) ⊕ i) ≡ power 2 k ⊗ c
lane_product c k table a b d e f g h i byte small p ea eb ed ee ef eg eh ei =
    let at : (n : ℕ) → n < 8 → get_or table (k + n) 0 ≡ power 2 (k + n) = λ n lt. p.at (k + n) (omega arith) in
    regroup a b d e f g h i
    ∙ ap₂ (λ (x y : ℕ). x ⊕ y) (ea ∙ ap (λ (x : ℕ). c / 1 % 2 * x) (p.at k (omega arith)))
    (ap₂ (λ (x y : ℕ). x ⊕ y) (eb ∙ ap (λ (x : ℕ). c / 2 % 2 * x) (at 1 (omega arith)))
    (ap₂ (λ (x y : ℕ). x ⊕ y) (ed ∙ ap (λ (x : ℕ). c / 4 % 2 * x) (at 2 (omega arith)))
    (ap₂ (λ (x y : ℕ). x ⊕ y) (ee ∙ ap (λ (x : ℕ). c / 8 % 2 * x) (at 3 (omega arith)))
    (ap₂ (λ (x y : ℕ). x ⊕ y) (ef ∙ ap (λ (x : ℕ). c / 16 % 2 * x) (at 4 (omega arith)))
    (ap₂ (λ (x y : ℕ). x ⊕ y) (eg ∙ ap (λ (x : ℕ). c / 32 % 2 * x) (at 5 (omega arith)))
    (ap₂ (λ (x y : ℕ). x ⊕ y) (eh ∙ ap (λ (x : ℕ). c / 64 % 2 * x) (at 6 (omega arith)))
    (ap (λ (x : ℕ). x ⊕ 0) (ei ∙ ap (λ (x : ℕ). c / 128 % 2 * x) (at 7 (omega arith))))))))))
    ∙ sym (product_bits c k byte)
  where
    regroup : (a b d e f g h i : ℕ)
        → (((a ⊕ b) ⊕ d) ⊕ e) ⊕ (((f ⊕ g) ⊕ h) ⊕ i) ≡ a ⊕ (b ⊕ (d ⊕ (e ⊕ (f ⊕ (g ⊕ (h ⊕ (i ⊕ 0)))))))
    regroup a b d e f g h i = simp (⊕-assoc, ⊕-zero)

-- one half, as it is picked
pub picked : (c k : ℕ) (rows : List ℕ) (a b d e : ℕ) → a ≡ c / 1 % 2 * get_or rows k 0
    → b ≡ c / 2 % 2 * get_or rows (k + 1) 0
    → d ≡ c / 4 % 2 * get_or rows (k + 2) 0 → e ≡ c / 8 % 2 * get_or rows (k + 3) 0
    → ((a ⊕ b) ⊕ d) ⊕ e ≡ picked_rows c k rows
picked c k rows a b d e ea eb ed ee = unfold picked_rows in rw (ea, eb, ed, ee) refl

-- .. and as it adds up its two halves
pub lane_halves : (c k : ℕ) (table : List ℕ) → c < 256 → k < 16 → Powers table
    → picked_rows c k table ⊕ picked_rows (c / 16) (k + 4) table ≡ power 2 k ⊗ c
unfolding picked_rows
lane_halves c k table byte small p =
    lane_product c k table _ _ _ _ _ _ _ _ byte small p refl refl refl refl
    (row (c / 16 / 1 % 2) (c / 16 % 2) (k + 4) (k + 4) (omega arith) refl)
    (row (c / 16 / 2 % 2) (c / 32 % 2) (k + 4 + 1) (k + 5) (omega arith) (omega arith))
    (row (c / 16 / 4 % 2) (c / 64 % 2) (k + 4 + 2) (k + 6) (omega arith) (omega arith))
    (row (c / 16 / 8 % 2) (c / 128 % 2) (k + 4 + 3) (k + 7) (omega arith) (omega arith))
  where
    row : (x y i j : ℕ) → x ≡ y → i ≡ j → x * get_or table i 0 ≡ y * get_or table j 0
    row x y i j e f = ap₂ (λ (u n : ℕ). u * get_or table n 0) e f

-- ---- the syndromes

-- one step of Horner's rule
pub syndromes_more : (w s next : List ℕ) (i : ℕ) → i < length w → get_or w i 0 < 256 → Syndromes (take i w) s
    → ((k : ℕ) → k < 16 → get_or next k 0 ≡ get_or w i 0 ⊕ power 2 k ⊗ get_or s k 0) → Syndromes (take (i + 1) w) next
syndromes_more w s next i h b old e j k =
    e j k ∙ ap (λ (x : ℕ). get_or w i 0 ⊕ power 2 j ⊗ x) (old j k)
    ∙ ap (λ (x : ℕ). get_or w i 0 ⊕ x) (⊗-comm (power 2 j) (value (take i w) (power 2 j)))
    ∙ ⊕-comm (get_or w i 0) (value (take i w) (power 2 j) ⊗ power 2 j) ∙ sym (value_more w i (power 2 j) h b)

pub syndromes_all : (w s : List ℕ) (i : ℕ) → length w ≡ i → Syndromes (take i w) s → Syndromes w s
syndromes_all w s i e h = subst (λ (c : List ℕ). Syndromes c s) (take_all i w (omega arith)) h

-- the value of a word whose byte at p has changed by v
value_set : (c : List ℕ) (p v x : ℕ) → p < length c
    → value (set c p (get_or c p 0 ⊕ v)) x ≡ value c x ⊕ power x (length c - suc p) ⊗ v
unfolding value
value_set [] p v x h = absurd (omega arith)
value_set (a ∷ c) zero v x h =
    let e : length c ≡ suc (length c) - 1 = omega arith in
    first (power x (length c)) (value c x) ∙ ap (λ (n : ℕ). (a ⊗ power x (length c) ⊕ value c x) ⊕ power x n ⊗ v) e
  where
    first : (q u : ℕ) → (a ⊕ v) ⊗ q ⊕ u ≡ (a ⊗ q ⊕ u) ⊕ q ⊗ v
    first q u = simp (⊕-⊗, ⊗-comm, ⊕-laws)
value_set (a ∷ c) (suc p) v x h =
    let e : length c - suc p ≡ suc (length c) - suc (suc p) = omega arith in
    ap₂ (λ (n u : ℕ). a ⊗ power x n ⊕ u) (length-set c p (get_or c p 0 ⊕ v)) (value_set c p v x (omega arith))
    ∙ sym (⊕-assoc (a ⊗ power x (length c)) (value c x) (power x (length c - suc p) ⊗ v))
    ∙ ap (λ (n : ℕ). (a ⊗ power x (length c) ⊕ value c x) ⊕ power x n ⊗ v) e

-- the syndromes follow a byte that changes at the locator 2 ^ q
pub syndromes_change : (c s next : List ℕ) (q v : ℕ) → length c ≡ 204 → q < 204 → Syndromes c s
    → ((j : ℕ) → j < 16 → get_or next j 0 ≡ get_or s j 0 ⊕ power 2 (q * j) ⊗ v)
    → Syndromes (set c (203 - q) (get_or c (203 - q) 0 ⊕ v)) next
syndromes_change c s next q v l h old e j k =
    let back : length c - suc (203 - q) ≡ q = omega arith in
    e j k ∙ ap₂ (λ (u n : ℕ). u ⊕ n ⊗ v) (old j k)
    (ap (power 2) (mul_comm q j) ∙ sym (power_mul 2 j q) ∙ ap (power (power 2 j)) (sym back))
    ∙ sym (value_set c (203 - q) v (power 2 j) (omega arith))
