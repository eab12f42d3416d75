-- What a line after the first prints, by the outcome of its tests.
--     frame_wrong, frame_right     a line after the first
use mathlib.Core.Path.{◌≡◌, refl, sym, ◌∙◌, subst}
use mathlib.Core.Bool.{true, false, false≢true, true≢false}
use mathlib.Core.List.{List, []}
use Prim.Native.Nat.{ℕ}
use Rattle.hexadecimal.specs.Bytes.{bytes_in}
use Rattle.text_lines.specs.Answer.{answer_text, Told, SomeTold}
use Rattle.receiving_lines.specs.declared.Run.{Run}
use Rattle.receiving_lines.specs.Lines.{receiving_ended, receiving_frame, Shown, FrameTold}

module _ (run : Run) (line : List ℕ) where
  module _ (out : List ℕ) (after : Run) (written : ℕ) (out' : List ℕ) where
    -- a line after the first
    pub frame_wrong : receiving_frame run.state line ≡ false
        → Told (answer_text 255 []) (receiving_ended run) out after written out'
        → SomeTold (FrameTold run line) out after written out'
    frame_wrong e is =
        record {
          text = _;
          next = _;
          told = is;
          says = record { wrong = λ _. (refl, refl); right = λ t. absurd (false≢true (sym e ∙ t)) };
        }

    pub frame_right : receiving_frame run.state line ≡ true → (carriers : List ℕ) → carriers ≡ bytes_in line
        → SomeTold (Shown run.state carriers) out after written out'
        → SomeTold (FrameTold run line) out after written out'
    frame_right e carriers bytes is =
        record {
          text = is.text;
          next = is.next;
          told = is.told;
          says = record {
            wrong = λ t. absurd (true≢false (sym e ∙ t));
            right = λ _. subst (λ (l : List ℕ). Shown run.state l is.text is.next) bytes is.says;
          };
        }
