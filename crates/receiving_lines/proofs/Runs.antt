-- Runs of the program.
--     line_capped     of a line that is longer than any frame's it is enough to hold the front
use mathlib.Core.Path.{◌≡◌, refl, sym, ◌∙◌, subst}
use mathlib.Core.Bool.{false, false≢true}
use mathlib.Core.List.{List, []}
use Prim.Native.Nat.{ℕ, ◌≤◌}
use native.Mathlib.Omega.{arith}
use native.Mathlib.Decide.{dec_le}
use lib.ListN.{length, take, length-take}
use lib.Seq.{take_all}
use Rattle.receiving_state.specs.declared.State.{State}
use Rattle.text_lines.specs.First.{first_text, begun_run}
use Rattle.text_lines.specs.Answer.{answer_text}
use Rattle.text_lines.specs.Turned.{line_room}
use Rattle.text_lines.proofs.Small.{small_most}
use Rattle.text_lines.proofs.Areas.{long_wrong}
use Rattle.text_lines.proofs.Begins.{long_begins}
use Rattle.receiving_lines.specs.declared.Run.{Run}
use Rattle.receiving_lines.specs.Lines.{receiving_ended, receiving_begun, receiving_frame, LineTold}
use Rattle.receiving_lines.specs.Turns.{receiving_room}
use Rattle.receiving_lines.specs.Laws.{room_is}

long_frame : (state : State) (line : List ℕ) → receiving_room ≤ length line → receiving_frame state line ≡ false
unfolding receiving_room line_room
long_frame state line long =
    long_wrong state.settings _ line (λ fine. let few = (small_most state.settings fine).1 in omega (arith, few))

long_first : (run : Run) (line : List ℕ) → receiving_room ≤ length line
    → (first_text line ≡ answer_text 255 []) × (receiving_begun run line ≡ receiving_ended run)
long_first run line long = unfold first_text begun_run in rw (long_begins line (omega (arith, room_is))) (refl, refl)

pub line_capped : (run : Run) (line text : List ℕ) (next : Run)
    → LineTold run (take receiving_room line) text next → LineTold run line text next
line_capped run line text next told = elim (dec_le (length line) receiving_room) [
  | yes h ↦ subst (λ (l : List ℕ). LineTold run l text next) (take_all receiving_room line h) told
  | no h ↦
      let short : receiving_room ≤ length (take receiving_room line) = omega (arith, length-take receiving_room line) in
      let one = long_first run (take receiving_room line) short in
      let other = long_first run line (omega arith) in
      record {
        first = λ e. let is = told.first e in (is.0 ∙ one.0 ∙ sym other.0, is.1 ∙ one.1 ∙ sym other.1);
        frame = λ e.
            record {
              wrong = λ t. (told.frame e).wrong (long_frame run.state (take receiving_room line) short);
              right = λ t. absurd (false≢true (sym (long_frame run.state line (omega arith)) ∙ t));
            };
        nothing = told.nothing;
      }
]
