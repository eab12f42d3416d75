-- An answer's numbers, told as bytes.
--     formed, other      the answer to a line of settings, and to any other one
--     told, told_not     what is given and left, by the room for an answer
use mathlib.Core.Path.{◌≡◌, refl, ap, ap₂, ◌∙◌}
use mathlib.Core.Bool.{true, false}
use mathlib.Core.List.{List, [], ◌∷◌, ◌++◌}
use Prim.Native.Nat.{ℕ, ◌/◌, ◌%◌}
use native.Mathlib.Omega.{arith}
use native.Mathlib.Decide.{dec_le}
use lib.ListN.{length, drop}
use borrow.Author.Tests.{le-leb, lt-leb}
use Rattle.lists.specs.Tab.{tab}
use Rattle.hexadecimal.specs.Digits.{digit_of, digit_at, digits_of}
use Rattle.hexadecimal.specs.Bytes.{digits_of_bytes}
use Rattle.settings.specs.declared.Settings.{Settings}
use Rattle.settings.specs.Legal.{starting}
use Rattle.settings.specs.Sizes.{packets_of, carriers_of}
use Rattle.text_lines.specs.First.{well_formed, settings_written, settings_begun}
use Rattle.text_lines.specs.Answer.{answer_text, fits, answer_length, answer_into}
use Rattle.settings_lines.specs.Lines.{printed, answer_for, answer_to, sizes_number, sizes_out}

abbrev size_bytes : ℕ → ℕ → List ℕ
size_bytes packets carriers =
    packets / 256 % 256 ∷ packets % 256 ∷ carriers / 16777216 % 256 ∷ carriers / 65536 % 256 ∷ carriers / 256 % 256 ∷
    carriers % 256 ∷ []

next : {a b : ℕ} {l m : List ℕ} → a ≡ b → l ≡ m → digit_of a ∷ l ≡ digit_of b ∷ m
next e f = ap₂ (λ (n : ℕ) (r : List ℕ). digit_of n ∷ r) e f

sizes_told : (refusal packets carriers : ℕ) → answer_text refusal (size_bytes packets carriers)
    ≡ printed refusal packets carriers
unfolding answer_text printed digits_of_bytes digits_of digit_at tab
sizes_told refusal packets carriers =
    next refl (next refl (next (omega arith) (next (omega arith) (next (omega arith) (next (omega arith)
    (next (omega arith) (next (omega arith) (next (omega arith) (next (omega arith)
    (next (omega arith) (next (omega arith) (next (omega arith) (next (omega arith) refl)))))))))))))

module _ (line : List ℕ) where
  pub other : well_formed line ≡ false → printed 255 0 0 ≡ answer_to line
  other e = unfold answer_to in rw e refl

  pub formed : well_formed line ≡ true → (settings : Settings) (refusal packets carriers : ℕ)
      → settings ≡ settings_begun line
      → refusal ≡ starting settings → packets ≡ packets_of settings → carriers ≡ carriers_of settings
      → printed refusal packets carriers ≡ answer_to line
  unfolding answer_to answer_for settings_begun
  formed e settings refusal packets carriers is r p c =
      let same : settings ≡ settings_written line = is ∙ rw e refl in
      rw (e, ← same, r, p, c) refl

  module _ (out out' : List ℕ) (refusal packets carriers written : ℕ)
      (is : printed refusal packets carriers ≡ answer_to line)
      (long : written ≡ answer_length (size_bytes packets carriers) out)
      (left : out' ≡ answer_into refusal (size_bytes packets carriers) out) where
    pub told : (written ≡ 0 → ⊥) → (0 ≡ sizes_number out) × (out' ≡ sizes_out line out)
    unfolding fits answer_length answer_into sizes_number sizes_out
    told some = elim (dec_le 15 (length out)) [
      | yes h ↦ rw (le-leb 15 (length out) h) (
        refl,
        left ∙ rw (le-leb 15 (length out) h)
            (ap (λ (l : List ℕ). l ++ drop 15 out) (sizes_told refusal packets carriers ∙ is)),
      )
      | no h ↦ absurd (some (long ∙ rw (lt-leb 15 (length out) (omega arith)) refl))
    ]

    pub told_not : written ≡ 0 → (5 ≡ sizes_number out) × (out' ≡ sizes_out line out)
    told_not none = unfold fits answer_length answer_into sizes_number sizes_out in elim (dec_le 15 (length out)) [
      | yes h ↦ let some : written ≡ 15 = long ∙ rw (le-leb 15 (length out) h) refl in absurd (omega arith)
      | no h ↦ rw (lt-leb 15 (length out) (omega arith)) (refl, left ∙ rw (lt-leb 15 (length out) (omega arith)) refl)
    ]
