-- Turns of the program.
--     line_told              a line that has been answered stands printed
--     frames_turn_unique     any two results of a turn are equal
use mathlib.Core.Path.{◌≡◌, refl, sym, ap, ◌∙◌}
use mathlib.Core.Bool.{Bool, true, false}
use mathlib.Core.List.{List, [], ◌∷◌, ◌++◌}
use Prim.Native.Nat.{ℕ, ◌≤◌}
use native.Mathlib.Omega.{arith}
use lib.ListN.{length, drop, length-append}
use borrow.Author.Tests.{le-leb}
use Rattle.hexadecimal.specs.Digits.{digits_of}
use Rattle.hexadecimal.proofs.Places.{length_digits}
use Rattle.text_lines.specs.declared.Reading.{Reading}
use Rattle.text_lines.specs.declared.work.Turned.{Turned}
use Rattle.text_lines.specs.First.{well_formed}
use Rattle.text_lines.specs.Answer.{SomeTold}
use Rattle.text_lines.proofs.Unique.{given_unique, same_turned}
use Rattle.settings_lines.specs.declared.NoRun.{NoRun}
use Rattle.settings_lines.specs.Lines.{printed, answer_for, answer_to, sizes_out}
use Rattle.settings_lines.specs.Turns.{no_run, FramesTells, frames_over, frames_room, frames_answer_room}
use Rattle.settings_lines.specs.Turns.{FramesTurn}

length_printed : (refusal packets carriers : ℕ) → length (printed refusal packets carriers) ≡ 15
unfolding printed
length_printed refusal packets carriers =
    length-append (digits_of 2 refusal) (digits_of 4 packets ++ (digits_of 8 carriers ++ (10 ∷ [])))
    ∙ omega (
      arith,
      length_digits 2 refusal,
      length-append (digits_of 4 packets) (digits_of 8 carriers ++ (10 ∷ [])),
      length_digits 4 packets,
      length-append (digits_of 8 carriers) (10 ∷ []),
      length_digits 8 carriers,
    )

length_answer : (line : List ℕ) → length (answer_to line) ≡ 15
unfolding answer_to answer_for
length_answer line = go (well_formed line) refl
  where
    go : (b : Bool) → well_formed line ≡ b → length (answer_to line) ≡ 15
    go true e = rw e (length_printed _ _ _)
    go false e = rw e (length_printed _ _ _)

module _ (out : List ℕ) (roomy : 15 ≤ length out) where
  pub line_told : (line out' : List ℕ) → out' ≡ sizes_out line out
      → SomeTold (FramesTells no_run line) out no_run 15 out'
  unfolding sizes_out
  line_told line out' is =
      record {
        text = answer_to line;
        next = no_run;
        told = record {
          run_is = refl;
          written_is = sym (length_answer line);
          out_is =
              is ∙ rw (le-leb 15 (length out) roomy)
              (ap (λ (n : ℕ). answer_to line ++ drop n out) (sym (length_answer line)));
        };
        says = (refl, refl);
      }

pub frames_turn_unique : (reading : Reading) (text line out : List ℕ) (r s : Turned NoRun)
    (line' line'' out' out'' : List ℕ) → FramesTurn reading text line out r line' out' → FramesTurn reading text line out s line'' out''
    → (r ≡ s) × (line' ≡ line'') × (out' ≡ out'')
frames_turn_unique reading text line out r s line' line'' out' out'' one other =
    let same =
    given_unique frames_over FramesTells
    (λ (run : NoRun) (line text text₁ : List ℕ) (next next₁ : NoRun) (f : FramesTells run line text next)
    (g : FramesTells run line text₁ next₁). (f.0 ∙ sym g.0, f.1 ∙ sym g.1))
    frames_room no_run frames_answer_room reading text line out _ _ _ _ _ _ _ _ _ _ _ _ _ _ one other in
    (same_turned r s same.0 refl same.2 same.3 same.4, same.5, same.6)
