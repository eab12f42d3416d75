-- A line of settings, and a first line.
--     settings_read                  the four bytes that a line of settings writes, read into four zeros
--     begun, begun_not               a first line that is one of settings, and any other one
--     first_refused, first_taken     what a first line prints
--     long_begins                    a line that is longer than one of settings
use mathlib.Core.Path.{◌≡◌, refl, ap, ◌∙◌}
use mathlib.Core.Bool.{Bool, true, false, cond}
use mathlib.Core.List.{List, [], ◌∷◌}
use Prim.Native.Nat.{ℕ, ◌/◌, ◌<◌}
use native.Mathlib.Omega.{arith}
use lib.ListN.{length, get_or}
use borrow.Author.Tests.{eqb-true, eq-eqb, ne_eqb}
use Rattle.lists.proofs.Bools.{and_left}
use Rattle.lists.proofs.Tabs.{get_d_tab}
use Rattle.settings.specs.Areas.{settings_of}
use Rattle.hexadecimal.specs.Bytes.{writes, byte_at, bytes_in, read_into}
use Rattle.text_lines.specs.Answer.{answer_text}
use Rattle.text_lines.specs.First.{well_formed, settings_written, settings_begun, starting_number, beginning}
use Rattle.text_lines.specs.First.{first_text, begun_run}

module _ (line : List ℕ) where
  byte_read : writes 4 line ≡ true → (k : ℕ) → k < 4 → get_or (bytes_in line) k 0 ≡ byte_at line k
  byte_read e k few =
      unfold writes bytes_in in let long : length line ≡ 8 = eqb-true (length line) 8 (and_left _ _ e) in
      get_d_tab (length line / 2) (byte_at line) k (omega arith)

  pub settings_read : settings_of (read_into line (0 ∷ 0 ∷ 0 ∷ 0 ∷ [])) ≡ settings_begun line
  unfolding read_into settings_begun well_formed settings_written
  settings_read = go (writes 4 line) refl
    where
      go : (b : Bool) → writes 4 line ≡ b → settings_of (cond b (bytes_in line) (0 ∷ 0 ∷ 0 ∷ 0 ∷ []))
          ≡ cond b (settings_written line) (record { mode = 0; v = 0; rate = 0; segments = 0 })
      go true e =
          rw (
            byte_read e 0 (omega arith),
            byte_read e 1 (omega arith),
            byte_read e 2 (omega arith),
            byte_read e 3 (omega arith),
          ) refl
      go false e = refl

  pub begun : well_formed line ≡ true → starting_number (settings_begun line) ≡ beginning line
  unfolding beginning settings_begun
  begun e = rw e refl

  pub begun_not : well_formed line ≡ false → 255 ≡ beginning line
  begun_not e = unfold beginning in rw e refl

  pub first_refused : {Run : Type 0} (frames ended : Run) (number : ℕ) → number ≡ beginning line → (number ≡ 0 → ⊥)
      → (answer_text number [] ≡ first_text line) × (ended ≡ begun_run line frames ended)
  unfolding first_text begun_run
  first_refused frames ended number is some =
      rw (ne_eqb (beginning line) 0 (λ e. some (is ∙ e))) (ap (λ (n : ℕ). answer_text n []) is, refl)

  pub first_taken : {Run : Type 0} (frames ended : Run) → beginning line ≡ 0
      → ([] ≡ first_text line) × (frames ≡ begun_run line frames ended)
  first_taken frames ended e = unfold first_text begun_run in rw (eq-eqb (beginning line) 0 e) (refl, refl)

  -- a line that is longer than asked for is none of the form
  pub long_begins : 8 < length line → beginning line ≡ 255
  long_begins h = unfold beginning well_formed writes in rw (ne_eqb (length line) 8 (omega arith)) refl
