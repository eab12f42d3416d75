-- What the program's code goes by.
--     room_is, answer_room_is                      the lengths of its areas
--     first_tells, frames_tell, nothing_tells      what a line tells, by what is awaited
use Rattle.std.specs.Prelude.{◌≡◌, List, [], ℕ, ◌*◌}
use Rattle.std.proofs.Common.{refl, sym, ap, ◌∙◌}
use Rattle.text_lines.specs.declared.Awaits.{Awaits}
use Rattle.text_lines.specs.declared.Awaits.TheVariants.{FirstLine, Frames, Nothing}
use Rattle.text_lines.specs.Awaiting.{by_awaits}
use Rattle.text_lines.specs.First.{first_text}
use Rattle.text_lines.specs.Turned.{line_room, answer_room}
use Rattle.text_lines.proofs.Small.{largest_sizes}
use Rattle.coding_lines.specs.declared.Run.{Run}
use Rattle.coding_lines.specs.Lines.{coding_begun, frame_text, after_frame, line_text, run_after}
use Rattle.coding_lines.specs.Turns.{CodingTells, CodingFrameTells, coding_room, coding_answer_room}

pub room_is : 47377 ≡ coding_room
room_is = unfold coding_room line_room in ap (λ (packets : ℕ). line_room (188 * packets)) (sym largest_sizes.0)

pub answer_room_is : 78339 ≡ coding_answer_room
answer_room_is = unfold coding_answer_room answer_room in ap answer_room (sym largest_sizes.1)

pub first_tells : (run : Run) (line : List ℕ) → run.awaits ≡ FirstLine
    → CodingTells run line (first_text line) (coding_begun run line)
first_tells run line e = unfold line_text run_after in rw e (refl, refl)

pub frames_tell : (run : Run) (line text : List ℕ) (next : Run) → run.awaits ≡ Frames
    → CodingFrameTells run line text next → CodingTells run line text next
frames_tell run line text next e told =
    unfold line_text run_after in (
      told.0 ∙ by e (first_text line) (frame_text run.state line) [],
      told.1 ∙ by e (coding_begun run line) (after_frame run line) run,
    )
  where
    by : {A : Type 0} {awaits : Awaits} → awaits ≡ Frames → (first frame nothing : A)
        → frame ≡ by_awaits awaits first frame nothing
    by e first frame nothing = rw e refl

pub nothing_tells : (run : Run) (line : List ℕ) → run.awaits ≡ Nothing → CodingTells run line [] run
nothing_tells run line e = unfold line_text run_after in rw e (refl, refl)
