-- A turn of the program `receiving`. What a line prints is `LineTold`.
--     receiving_over                           whether the run is over
--     receiving_room, receiving_answer_room    the room for the largest frame's line, and for its answer
--     ReceivingTurn                            what a turn returns, and what it leaves in the areas; proofs/Turns.antt:
--                                              it allows one result alone
use Rattle.std.specs.Prelude.{Bool, List, ℕ, ◌*◌}
use Rattle.settings.specs.Sizes.{packets_of, carriers_of}
use Rattle.text_lines.specs.declared.Reading.{Reading}
use Rattle.text_lines.specs.declared.work.Turned.{Turned}
use Rattle.text_lines.specs.Awaiting.{over}
use Rattle.text_lines.specs.First.{largest}
use Rattle.text_lines.specs.Turned.{line_room, answer_room, TurnGiven}
use Rattle.receiving_lines.specs.declared.Run.{Run}
use Rattle.receiving_lines.specs.Lines.{LineTold}

abbrev pub receiving_over : Run → Bool
receiving_over run = over run.awaits

-- a frame has a byte for each of its carriers
unfoldable pub receiving_room : ℕ
receiving_room = line_room (carriers_of largest)

-- and a slot of 189 bytes for each of its packets
unfoldable pub receiving_answer_room : ℕ
receiving_answer_room = answer_room (189 * packets_of largest)

abbrev pub ReceivingTurn : Run → Reading → List ℕ → List ℕ → List ℕ → Turned Run → List ℕ → List ℕ → Type 0
ReceivingTurn run reading text line out r line' out' =
    TurnGiven receiving_over LineTold receiving_room receiving_answer_room run reading text line out
    r.answer r.run r.reading r.written r.more line' out'
