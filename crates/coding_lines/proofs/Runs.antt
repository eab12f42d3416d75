-- Runs of the program.
--     line_capped     of a line that is longer than any frame's it is enough to hold the front
use mathlib.Core.Path.{◌≡◌, refl, sym, ap, ◌∙◌}
use mathlib.Core.Bool.{false}
use mathlib.Core.List.{List, []}
use Prim.Native.Nat.{ℕ, ◌≤◌}
use native.Mathlib.Omega.{arith}
use native.Mathlib.Decide.{dec_le}
use lib.ListN.{length, take, length-take}
use lib.Seq.{take_all}
use Rattle.coding_state.specs.declared.State.{State}
use Rattle.text_lines.specs.Awaiting.{by_awaits}
use Rattle.text_lines.specs.First.{first_text, begun_run}
use Rattle.text_lines.specs.Answer.{answer_text}
use Rattle.text_lines.specs.Turned.{line_room}
use Rattle.text_lines.proofs.Small.{small_most}
use Rattle.text_lines.proofs.Areas.{long_wrong}
use Rattle.text_lines.proofs.Begins.{long_begins}
use Rattle.coding_lines.specs.declared.Run.{Run}
use Rattle.coding_lines.specs.Lines.{coding_ended, coding_frame, frame_text, after_frame, line_text, run_after}
use Rattle.coding_lines.specs.Turns.{coding_room}
use Rattle.coding_lines.specs.Laws.{room_is}

long_frame : (state : State) (line : List ℕ) → coding_room ≤ length line → coding_frame state line ≡ false
unfolding coding_room line_room
long_frame state line long =
    long_wrong state.settings _ line (λ fine. let few = (small_most state.settings fine).0 in omega (arith, few))

-- what a line prints that is longer than any frame's
long_text : (run : Run) (line : List ℕ) → coding_room ≤ length line
    → (line_text run line ≡ by_awaits run.awaits (answer_text 255 []) (answer_text 255 []) [])
    × (run_after run line ≡ by_awaits run.awaits (coding_ended run) (coding_ended run) run)
unfolding line_text run_after first_text begun_run frame_text after_frame
long_text run line long =
    rw (long_begins line (omega (arith, room_is)), long_frame run.state line long) (refl, refl)

pub line_capped : (run : Run) (line : List ℕ) → (line_text run (take coding_room line) ≡ line_text run line)
    × (run_after run (take coding_room line) ≡ run_after run line)
line_capped run line = elim (dec_le (length line) coding_room) [
  | yes h ↦ let same = take_all coding_room line h in (ap (line_text run) same, ap (run_after run) same)
  | no h ↦
      let one = long_text run (take coding_room line) (omega (arith, length-take coding_room line)) in
      let other = long_text run line (omega arith) in
      (one.0 ∙ sym other.0, one.1 ∙ sym other.1)
]
