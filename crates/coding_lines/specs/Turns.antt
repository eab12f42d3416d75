-- A turn of the program `coding`.
--     CodingTells, coding_over           what a line prints, and whether the run is over
--     CodingFrameTells                   what a line after the first prints
--     coding_room, coding_answer_room    the room for the largest frame's line, and for its answer
--     CodingTurn                         what a turn returns, and what it leaves in the areas; proofs/Turns.antt: it
--                                        allows one result alone
use Rattle.std.specs.Prelude.{◌≡◌, Bool, List, ℕ, ◌*◌}
use Rattle.settings.specs.Sizes.{packets_of, carriers_of}
use Rattle.text_lines.specs.declared.Reading.{Reading}
use Rattle.text_lines.specs.declared.work.Turned.{Turned}
use Rattle.text_lines.specs.Awaiting.{over}
use Rattle.text_lines.specs.First.{largest}
use Rattle.text_lines.specs.Turned.{line_room, answer_room, TurnGiven}
use Rattle.coding_lines.specs.declared.Run.{Run}
use Rattle.coding_lines.specs.Lines.{frame_text, after_frame, line_text, run_after}

abbrev pub CodingTells : Run → List ℕ → List ℕ → Run → Type 0
CodingTells run line text next = (text ≡ line_text run line) × (next ≡ run_after run line)

-- what a line after the first prints
abbrev pub CodingFrameTells : Run → List ℕ → List ℕ → Run → Type 0
CodingFrameTells run line text next = (text ≡ frame_text run.state line) × (next ≡ after_frame run line)

abbrev pub coding_over : Run → Bool
coding_over run = over run.awaits

-- a frame has 188 bytes for each of its packets
unfoldable pub coding_room : ℕ
coding_room = line_room (188 * packets_of largest)

-- and a byte for each of its carriers
unfoldable pub coding_answer_room : ℕ
coding_answer_room = answer_room (carriers_of largest)

abbrev pub CodingTurn : Run → Reading → List ℕ → List ℕ → List ℕ → Turned Run → List ℕ → List ℕ → Type 0
CodingTurn run reading text line out r line' out' =
    TurnGiven coding_over CodingTells coding_room coding_answer_room run reading text line out
    r.answer r.run r.reading r.written r.more line' out'
