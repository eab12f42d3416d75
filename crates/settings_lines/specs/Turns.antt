-- A turn of the program `frames`.
--     no_run                             nothing goes from line to line
--     FramesTells, frames_over           what a line prints, and that none ends the run
--     frames_room, frames_answer_room    the room for a line of settings, and for the numbers of its answer
--     FramesTurn                         what a turn returns, and what it leaves in the areas; proofs/Turns.antt: it
--                                        allows one result alone
use Rattle.std.specs.Prelude.{◌≡◌, Bool, false, List, ℕ}
use Rattle.text_lines.specs.declared.Reading.{Reading}
use Rattle.text_lines.specs.declared.work.Turned.{Turned}
use Rattle.text_lines.specs.Turned.{line_room, answer_room, TurnGiven}
use Rattle.settings_lines.specs.declared.NoRun.{NoRun}
use Rattle.settings_lines.specs.Lines.{answer_to}

abbrev pub no_run : NoRun
no_run = record {}

-- "prints a line for each"
abbrev pub FramesTells : NoRun → List ℕ → List ℕ → NoRun → Type 0
FramesTells run line text next = (text ≡ answer_to line) × (next ≡ run)

abbrev pub frames_over : NoRun → Bool
frames_over run = false

-- "mode, v, rate, segments, two each"
unfoldable pub frames_room : ℕ
frames_room = line_room 4

-- "refusal (2 digits), P (4), C (8)": two and four bytes
unfoldable pub frames_answer_room : ℕ
frames_answer_room = answer_room 6

abbrev pub FramesTurn : Reading → List ℕ → List ℕ → List ℕ → Turned NoRun → List ℕ → List ℕ → Type 0
FramesTurn reading text line out r line' out' =
    TurnGiven frames_over FramesTells frames_room frames_answer_room no_run reading text line out
    r.answer no_run r.reading r.written r.more line' out'
