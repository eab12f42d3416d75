-- Lines laid as a text, and cut out of it again.
--     NoFeeds                      no line of a list has a line feed
--     lines_of_text                the lines of such a text are the lines
--     digits_no_feed               a line of digits has no line feed
--     hexadecimal_no_feed          nor have bytes in hexadecimal
--     lines_no_feed                nor has any line of a row of these
--     numbers_off                  lines that were printed, without their numbers, are such a row
use mathlib.Core.Path.{◌≡◌, refl, ap, ◌∙◌}
use mathlib.Core.Bool.{true, false}
use mathlib.Core.List.{List, [], ◌∷◌, ◌++◌, append_assoc}
use Prim.Native.Nat.{ℕ, zero, suc, ◌*◌, ◌<◌}
use native.Mathlib.Omega.{arith}
use lib.Dec.{eqb}
use lib.ListN.{length, get_or}
use borrow.Author.Tests.{ne_eqb}
use Rattle.lists.proofs.Bools.{and_both}
use Rattle.lists.specs.Tab.{tab, laid}
use Rattle.lists.specs.Tests.{between}
use Rattle.hexadecimal.specs.Digits.{value_of, digit_of, digit_at, digits_of}
use Rattle.hexadecimal.specs.Bytes.{all_digits, writes}
use Rattle.hexadecimal.proofs.Bytes.{digit_below}
use Rattle.hexadecimal.proofs.ReadBack.{writes_bytes}
use Rattle.text_lines.specs.Lines.{lines_from, lines_of}
use Rattle.text_lines.specs.Cut.{ends_in}
use Rattle.text_lines.specs.Answer.{answer_text}
use Rattle.whole_texts.specs.ThereAndBack.{each_from, text_of, hexadecimal_line, without_numbers}
use Rattle.whole_texts.proofs.Cuts.{cut_goes_on}

pub data NoFeeds : List (List ℕ) → Type 0 where
  none_laid : NoFeeds []
  line_laid : (line : List ℕ) (lines : List (List ℕ)) → ends_in line ≡ false → NoFeeds lines → NoFeeds (line ∷ lines)

pub lines_of_text : (lines : List (List ℕ)) → NoFeeds lines → lines_of (text_of lines) ≡ lines
unfolding text_of lines_from
lines_of_text [] none_laid = refl
lines_of_text (line ∷ lines) (line_laid _ _ whole rest) =
    cut_goes_on line (10 ∷ text_of lines) [] whole ∙ ap (λ (l : List (List ℕ)). line ∷ l) (lines_of_text lines rest)

-- ---- digits

-- a line of which no byte is a line feed
whole_line : (line : List ℕ) → ((i : ℕ) → i < length line → get_or line i 0 ≡ 10 → ⊥) → ends_in line ≡ false
unfolding ends_in
whole_line [] other = refl
whole_line (byte ∷ line) other =
    rw (ne_eqb byte 10 (other 0 (omega arith))) (whole_line line (λ i lt. other (suc i) (omega arith)))

-- a line feed is no digit
feed_value : value_of 10 ≡ 16
feed_value = unfold value_of between in refl

pub digits_no_feed : (count : ℕ) (line : List ℕ) → writes count line ≡ true → ends_in line ≡ false
unfolding writes
digits_no_feed count line is =
    whole_line line (λ i lt feed.
    let below = digit_below line (and_both (eqb (length line) (2 * count)) (all_digits line) is).1 i lt in
    omega (arith, below, ap value_of feed, feed_value))

pub hexadecimal_no_feed : (bytes : List ℕ) → ends_in (hexadecimal_line bytes) ≡ false
hexadecimal_no_feed bytes = digits_no_feed (length bytes) (hexadecimal_line bytes) (writes_bytes bytes)

-- ---- the lines that are printed

-- the two digits of 0
abbrev zeros : List ℕ → List ℕ
zeros line = 48 ∷ 48 ∷ line

zero_digits : digits_of 2 0 ≡ 48 ∷ 48 ∷ []
zero_digits = unfold digits_of digit_at digit_of tab in refl

-- "the refusal (2 digits)", and then the bytes
answer_line : (bytes rest : List ℕ) → answer_text 0 bytes ++ rest ≡ zeros (hexadecimal_line bytes) ++ (10 ∷ rest)
unfolding answer_text
answer_line bytes rest =
    ap (λ (number : List ℕ). (number ++ (hexadecimal_line bytes ++ (10 ∷ []))) ++ rest) zero_digits
    ∙ ap zeros (append_assoc (hexadecimal_line bytes) (10 ∷ []) rest)

module _ (row : ℕ → List ℕ) where
  abbrev line : ℕ → List ℕ
  line f = hexadecimal_line (row f)

  pub lines_no_feed : (n f : ℕ) → NoFeeds (each_from line f n)
  unfolding each_from
  lines_no_feed zero f = none_laid
  lines_no_feed (suc n) f = line_laid (line f) _ (hexadecimal_no_feed (row f)) (lines_no_feed n (suc f))

  answers_no_feed : (n f : ℕ) → NoFeeds (each_from (λ k. zeros (line k)) f n)
  unfolding each_from
  answers_no_feed zero f = none_laid
  answers_no_feed (suc n) f =
      line_laid (zeros (line f)) _ (unfold ends_in in hexadecimal_no_feed (row f)) (answers_no_feed n (suc f))

  answers_as_text : (n f : ℕ) → laid (each_from (λ k. answer_text 0 (row k)) f n)
      ≡ text_of (each_from (λ k. zeros (line k)) f n)
  unfolding each_from laid text_of
  answers_as_text zero f = refl
  answers_as_text (suc n) f =
      answer_line (row f) _ ∙ ap (λ (text : List ℕ). zeros (line f) ++ (10 ∷ text)) (answers_as_text n (suc f))

  without : (n f : ℕ) → without_numbers (each_from (λ k. zeros (line k)) f n) ≡ each_from line f n
  unfolding each_from without_numbers
  without zero f = refl
  without (suc n) f = ap (λ (l : List (List ℕ)). line f ∷ l) (without n (suc f))

  -- lines that were printed, cut out of their text, and without their numbers
  pub numbers_off : (n f : ℕ) → without_numbers (lines_of (laid (each_from (λ k. answer_text 0 (row k)) f n)))
      ≡ each_from line f n
  numbers_off n f =
      ap (λ (text : List ℕ). without_numbers (lines_of text)) (answers_as_text n f)
      ∙ ap without_numbers (lines_of_text _ (answers_no_feed n f)) ∙ without n f
