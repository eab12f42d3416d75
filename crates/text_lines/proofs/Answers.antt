-- A line of the output.
--     length_answer                       how long it is
--     answer_fits, answer_not             what writing it gives where there is room, and where there is none
--     told_put, told_nothing, told_as     a line that stands printed; none; the same, said otherwise
use mathlib.Core.Path.{◌≡◌, refl, sym, ap, ◌∙◌}
use mathlib.Core.List.{List, [], ◌∷◌, ◌++◌}
use Prim.Native.Nat.{ℕ, ◌+◌, ◌*◌, ◌≤◌, ◌<◌}
use native.Mathlib.Omega.{arith}
use lib.ListN.{length, drop, length-append}
use borrow.Author.Tests.{le-leb, lt-leb}
use Rattle.hexadecimal.specs.Digits.{digits_of}
use Rattle.hexadecimal.specs.Bytes.{digits_of_bytes}
use Rattle.hexadecimal.proofs.Places.{length_digits}
use Rattle.hexadecimal.proofs.Bytes.{length_digits_of_bytes}
use Rattle.text_lines.specs.Answer.{answer_text, fits, answer_length, answer_into, Told}

pub length_answer : (number : ℕ) (bytes : List ℕ) → length (answer_text number bytes) ≡ 2 * length bytes + 3
unfolding answer_text
length_answer number bytes =
    length-append (digits_of 2 number) (digits_of_bytes (2 * length bytes) bytes ++ (10 ∷ []))
    ∙ omega (
      arith,
      length_digits 2 number,
      length-append (digits_of_bytes (2 * length bytes) bytes) (10 ∷ []),
      length_digits_of_bytes (2 * length bytes) bytes,
    )

module _ (number : ℕ) (bytes out : List ℕ) where
  pub answer_fits : 2 * length bytes + 3 ≤ length out → (2 * length bytes + 3 ≡ answer_length bytes out)
      × (answer_text number bytes ++ drop (2 * length bytes + 3) out ≡ answer_into number bytes out)
  unfolding fits answer_length answer_into
  answer_fits h = rw (le-leb (2 * length bytes + 3) (length out) h) (refl, refl)

  pub answer_not : length out < 2 * length bytes + 3
      → (0 ≡ answer_length bytes out) × (out ≡ answer_into number bytes out)
  unfolding fits answer_length answer_into
  answer_not h = rw (lt-leb (2 * length bytes + 3) (length out) h) (refl, refl)

module _ {Run : Type 0} (run : Run) (out : List ℕ) where
  pub told_put : (number : ℕ) (bytes : List ℕ) (count : ℕ) (out' : List ℕ) → 2 * length bytes + 3 ≤ length out
      → count ≡ answer_length bytes out → out' ≡ answer_into number bytes out
      → Told (answer_text number bytes) run out run count out'
  told_put number bytes count out' room is-count is-out =
      let made = answer_fits number bytes out room in
      let long = length_answer number bytes in
      record {
        run_is = refl;
        written_is = is-count ∙ sym made.0 ∙ sym long;
        out_is = is-out ∙ sym made.1 ∙ ap (λ (n : ℕ). answer_text number bytes ++ drop n out) (sym long);
      }

  pub told_nothing : Told [] run out run 0 out
  told_nothing = record { run_is = refl; written_is = refl; out_is = refl }

pub told_as : {Run : Type 0} {text text₁ out out' : List ℕ} {next next₁ run : Run} {written : ℕ}
    → text ≡ text₁ → next ≡ next₁ → Told text next out run written out' → Told text₁ next₁ out run written out'
told_as e f told = rw (sym e, sym f) told
