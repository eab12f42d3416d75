-- Two codewords within distance 8 of one word are equal, and what `correct` may do is one thing alone.
--     codewords_equal        two codewords that differ in at most 16 places are equal
--     near_codewords_equal   so are two codewords within distance 8 of one word
--     corrected_unique       any two results that `Corrected` allows are equal
--     nearest_equal          answers with the same number and values are equal
--     outcome                what each answer says
use mathlib.Core.Path.{◌≡◌, refl, sym, ap, ap₂, ◌∙◌, subst}
use mathlib.Core.Logic.{◌≢◌}
use mathlib.Core.List.{List, [], ◌∷◌}
use Prim.Native.Nat.{ℕ, ◌≤◌}
use native.Mathlib.Omega.{arith}
use lib.ListN.{length, get_or}
use Rattle.field.specs.Field.{◌⊕◌, power}
use Rattle.field.proofs.Sum.{⊕-zero}
use Rattle.field.proofs.Product.{power_lt, one-⊗}
use Rattle.field.specs.Roots.{locators}
use Rattle.field.proofs.RootBound.{distinct}
use Rattle.nearest.specs.Codeword.{distance, Codeword}
use Rattle.nearest.proofs.Weights.{sums}
use Rattle.nearest.proofs.Sums.{sum_of, sum_of_ext}
use Rattle.nearest.specs.Correction.{nearest_number, nearest_values, Corrected, within, nowhere, wrong_length}
use Rattle.std.specs.Prelude.{Result, Ok, Err}
use Rattle.nearest.specs.declared.Uncorrected.{Uncorrected}
use Rattle.nearest.specs.declared.Uncorrected.TheVariants.{TooFar, WrongLength}
use Rattle.nearest.proofs.Vandermonde.{vandermonde}
use Rattle.nearest.proofs.Words.{distance_weight, triangle, length_sums, value_sums, value_sum_of, same}

-- Two codewords that differ in at most 16 places are equal.
pub codewords_equal : (c d : List ℕ) → Codeword c → Codeword d → distance c d ≤ 16 → c ≡ d
codewords_equal c d kc kd near =
    let l : length c ≡ length d = kc.long ∙ sym kd.long in
    same c d l kc.bytes kd.bytes
    (vandermonde (locators (length c)) (sums c d) 16 (λ x. 1) (distinct (length c) (omega (arith, kc.long)))
    (omega (arith, distance_weight c d))
    (λ j h. sum_of_ext (λ x. one-⊗ (power x j) (power_lt x j)) (locators (length c)) (sums c d)
    ∙ ap (λ (n : ℕ). sum_of (λ x. power x j) (locators n) (sums c d)) (sym (length_sums c d l))
    ∙ sym (value_sum_of (sums c d) j) ∙ value_sums c d (power 2 j) l
    ∙ ap₂ (λ (s u : ℕ). s ⊕ u) (kc.roots j h) (kd.roots j h) ∙ ⊕-zero 0))

-- Two codewords within distance 8 of one word are equal.
pub near_codewords_equal : (c d w : List ℕ) → Codeword c → Codeword d → length w ≡ 204 → distance c w ≤ 8
    → distance d w ≤ 8 → c ≡ d
near_codewords_equal c d w kc kd lw nc nd =
    codewords_equal c d kc kd (omega (arith, triangle c d w (kc.long ∙ sym lw) (kd.long ∙ sym lw)))

-- Any two results that the correction of a word may have are equal: the word it becomes, and the answer's number and
-- values.
pub corrected_unique : (w x y : List ℕ) (m n : ℕ) (r s : List ℕ) → Corrected w x m r → Corrected w y n s
    → (x ≡ y) × (m ≡ n) × (r ≡ s)
corrected_unique w x y m n r s (within c l k near) (within d l' k' near') =
    let e = near_codewords_equal c d w k k' l near near' in (e, refl, ap (λ (v : List ℕ). distance v w ∷ []) e)
corrected_unique w x y m n r s (within c l k near) (nowhere l' none) = absurd (none c k near)
corrected_unique w x y m n r s (within c l k near) (wrong_length ne) = absurd (ne l)
corrected_unique w x y m n r s (nowhere l none) (within d l' k' near') = absurd (none d k' near')
corrected_unique w x y m n r s (nowhere l none) (nowhere l' none') = (refl, refl, refl)
corrected_unique w x y m n r s (nowhere l none) (wrong_length ne) = absurd (ne l)
corrected_unique w x y m n r s (wrong_length ne) (within d l' k' near') = absurd (ne l')
corrected_unique w x y m n r s (wrong_length ne) (nowhere l' none') = absurd (ne l')
corrected_unique w x y m n r s (wrong_length ne) (wrong_length ne') = (refl, refl, refl)

-- Answers with the same number and values are equal.
pub nearest_equal : (r s : Result ℕ Uncorrected) → nearest_number r ≡ nearest_number s
    → nearest_values r ≡ nearest_values s → r ≡ s
nearest_equal (Ok n) (Ok m) e f = ap (λ (l : List ℕ). Ok (get_or l 0 0)) f
nearest_equal (Ok n) (Err TooFar) e f = absurd (omega arith)
nearest_equal (Ok n) (Err WrongLength) e f = absurd (omega arith)
nearest_equal (Err TooFar) (Ok m) e f = absurd (omega arith)
nearest_equal (Err TooFar) (Err TooFar) e f = refl
nearest_equal (Err TooFar) (Err WrongLength) e f = absurd (omega arith)
nearest_equal (Err WrongLength) (Ok m) e f = absurd (omega arith)
nearest_equal (Err WrongLength) (Err TooFar) e f = absurd (omega arith)
nearest_equal (Err WrongLength) (Err WrongLength) e f = refl

-- what each answer says
abbrev pub Outcome : List ℕ → List ℕ → Result ℕ Uncorrected → Type 0
Outcome w w' (Ok n) = (length w ≡ 204) × Codeword w' × (distance w' w ≡ n) × (n ≤ 8)
Outcome w w' (Err TooFar) = (w' ≡ w) × (length w ≡ 204) × ((c : List ℕ) → Codeword c → distance c w ≤ 8 → ⊥)
Outcome w w' (Err WrongLength) = (w' ≡ w) × (length w ≢ 204)

said : (w w' : List ℕ) (r s : Result ℕ Uncorrected) → s ≡ r → Outcome w w' s → Outcome w w' r
said w w' r s e = subst (Outcome w w') e

numbered : (w w' : List ℕ) (number : ℕ) (values : List ℕ) → Corrected w w' number values
    → (r : Result ℕ Uncorrected)
    → nearest_number r ≡ number → nearest_values r ≡ values → Outcome w w' r
numbered w w' number values (within c l k near) r e f =
    said w c r (Ok (distance c w)) (nearest_equal (Ok (distance c w)) r (sym e) (sym f)) (l, k, refl, near)
numbered w w' number values (nowhere l none) r e f =
    said w w r (Err TooFar) (nearest_equal (Err TooFar) r (sym e) (sym f)) (refl, l, none)
numbered w w' number values (wrong_length ne) r e f =
    said w w r (Err WrongLength) (nearest_equal (Err WrongLength) r (sym e) (sym f)) (refl, ne)

pub outcome : (w w' : List ℕ) (r : Result ℕ Uncorrected) → Corrected w w' (nearest_number r) (nearest_values r)
    → Outcome w w' r
outcome w w' r is = numbered w w' (nearest_number r) (nearest_values r) is r refl refl
