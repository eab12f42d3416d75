-- Each line is answered: whatever the run and the line, there is a text that it may print. `line_unique` says that
-- there is no other.
--     SomeLine, line_told
use mathlib.Core.Path.{◌≡◌, refl, sym, ap, ◌∙◌}
use mathlib.Core.Bool.{Bool, true, false, false≢true}
use mathlib.Core.List.{List, []}
use Prim.Native.Nat.{ℕ, ◌*◌}
use native.Mathlib.Omega.{arith}
use lib.ListN.{take}
use Rattle.settings.specs.Answers.{number_of}
use Rattle.hexadecimal.specs.Bytes.{bytes_in}
use Rattle.receiving_answers.proofs.Exists.{back_of}
use Rattle.text_lines.specs.declared.Awaits.{Awaits}
use Rattle.text_lines.specs.declared.Awaits.TheVariants.{FirstLine, Frames, Nothing}
use Rattle.text_lines.specs.Awaiting.{by_awaits}
use Rattle.text_lines.specs.First.{first_text}
use Rattle.text_lines.specs.Answer.{answer_text}
use Rattle.receiving_lines.specs.declared.Run.{Run}
use Rattle.receiving_lines.specs.Lines.{receiving_ended, receiving_frames, receiving_begun, receiving_frame}
use Rattle.receiving_lines.specs.Lines.{blank_slots, FrameTold, LineTold}

pub record SomeLine (run : Run) (line : List ℕ) : Type 0 where
  pub text : List ℕ
  pub next : Run
  pub told : LineTold run line text next

-- what is awaited, as a number
abbrev kind : Awaits → ℕ
kind awaits = by_awaits awaits 0 1 2

other : {awaits another : Awaits} → awaits ≡ another → (kind awaits ≡ kind another → ⊥) → ⊥
other e differ = differ (ap kind e)

module _ (run : Run) (line : List ℕ) where
  record SomeFrame : Type 0 where
    text : List ℕ
    next : Run
    told : FrameTold run line text next

  frame_of_is : (right : Bool) → receiving_frame run.state line ≡ right → SomeFrame
  frame_of_is false e = record {
    text = answer_text 255 [];
    next = receiving_ended run;
    told = record { wrong = λ wrong. (refl, refl); right = λ right. absurd (false≢true (sym e ∙ right)) };
  }
  frame_of_is true e =
      let back = back_of run.state (bytes_in line) (blank_slots run.state) in
      record {
        text = answer_text (number_of back.received.answer) (take (189 * back.received.given) back.slots');
        next = receiving_frames back.received.state;
        told = record {
          wrong = λ wrong. absurd (false≢true (sym wrong ∙ e));
          right = λ right. record {
            received = back.received;
            slots = back.slots';
            back_is = back.is;
            text_is = refl;
            next_is = refl;
          };
        };
      }

  line_of : (awaits : Awaits) → run.awaits ≡ awaits → SomeLine run line
  line_of FirstLine e = record {
    text = first_text line;
    next = receiving_begun run line;
    told = record {
      first = λ is. (refl, refl);
      frame = λ is. absurd (other (sym e ∙ is) (λ same. omega arith));
      nothing = λ is. absurd (other (sym e ∙ is) (λ same. omega arith));
    };
  }
  line_of Frames e =
      let frame = frame_of_is (receiving_frame run.state line) refl in
      record {
        text = frame.text;
        next = frame.next;
        told = record {
          first = λ is. absurd (other (sym e ∙ is) (λ same. omega arith));
          frame = λ is. frame.told;
          nothing = λ is. absurd (other (sym e ∙ is) (λ same. omega arith));
        };
      }
  line_of Nothing e = record {
    text = [];
    next = run;
    told = record {
      first = λ is. absurd (other (sym e ∙ is) (λ same. omega arith));
      frame = λ is. absurd (other (sym e ∙ is) (λ same. omega arith));
      nothing = λ is. (refl, refl);
    };
  }

  pub line_told : SomeLine run line
  line_told = line_of run.awaits refl
