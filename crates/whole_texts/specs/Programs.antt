-- The line programs over a whole text. `frames` "reads lines of eight hexadecimal digits .. and prints a line for
-- each"; `coding` and `receiving` "read a settings line and then one frame a line .. Lines are read as in `frames`."
--     FramesReads        what the turns of `frames` print for a text in pieces; the whole text prints `answers`
--     FramesLoop         the same, by the calls of the loop
--     coding_text        what `coding` prints for a text
--     CodingReads        the same, where the text comes in pieces: what its turns print
--     CodingLoop         the same, by the calls of the loop
--     ReceivingPrints    a text that `receiving` may print for a text; proofs/Programs.antt: there is one alone
--     ReceivingReads     the same, where the text comes in pieces: what its turns print
--     ReceivingLoop      the same, by the calls of the loop
use Rattle.std.specs.Prelude.{List, [], ◌∷◌, ◌++◌, ℕ}
use Rattle.text_lines.specs.Lines.{lines_of}
use Rattle.text_lines.specs.Reading.{new_reading}
use Rattle.settings_lines.specs.Turns.{no_run, FramesTells, frames_over, frames_room, frames_answer_room}
use Rattle.coding_lines.specs.declared.Run.{Run as CodingRun}
use Rattle.coding_lines.specs.Lines.{line_text, run_after, new_coding}
use Rattle.coding_lines.specs.Turns.{CodingTells, coding_over, coding_room, coding_answer_room}
use Rattle.receiving_lines.specs.Lines.{LineTold, new_receiving}
use Rattle.receiving_lines.specs.Turns.{receiving_over, receiving_room, receiving_answer_room}
use Rattle.whole_texts.specs.Reading.{Prints, Reads}
use Rattle.whole_texts.specs.Loop.{Loop}

abbrev pub FramesReads : List (List ℕ) → List ℕ → Type 0
FramesReads pieces text = Reads frames_over FramesTells frames_room no_run [] pieces text

-- from whatever stands in the areas at the start
abbrev pub FramesLoop : List ℕ → List ℕ → List (List ℕ) → List ℕ → Type 0
FramesLoop text line pieces printed =
    Loop frames_over FramesTells frames_room frames_answer_room no_run new_reading text line pieces printed

unfoldable pub lines_text : CodingRun → List (List ℕ) → List ℕ
lines_text run [] = []
lines_text run (line ∷ lines) = line_text run line ++ lines_text (run_after run line) lines

unfoldable pub coding_text : List ℕ → List ℕ
coding_text text = lines_text new_coding (lines_of text)

abbrev pub CodingReads : List (List ℕ) → List ℕ → Type 0
CodingReads pieces text = Reads coding_over CodingTells coding_room new_coding [] pieces text

abbrev pub CodingLoop : List ℕ → List ℕ → List (List ℕ) → List ℕ → Type 0
CodingLoop text line pieces printed =
    Loop coding_over CodingTells coding_room coding_answer_room new_coding new_reading text line pieces printed

abbrev pub ReceivingPrints : List ℕ → List ℕ → Type 0
ReceivingPrints text printed = Prints LineTold new_receiving (lines_of text) printed

abbrev pub ReceivingReads : List (List ℕ) → List ℕ → Type 0
ReceivingReads pieces text = Reads receiving_over LineTold receiving_room new_receiving [] pieces text

abbrev pub ReceivingLoop : List ℕ → List ℕ → List (List ℕ) → List ℕ → Type 0
ReceivingLoop text line pieces printed =
    Loop receiving_over LineTold receiving_room receiving_answer_room new_receiving new_reading text line pieces printed
