-- The contract of a function that makes a turn of a line program's loop, lent the piece, the line and the output.
--     line_room, answer_room    the room for a line, and for an answer
--     areas_fit                 the areas of the line and of the output are the program's
--     TurnRefused               what the function returns and leaves where they aren't
--     TurnMade                  the same, where they are
--     TurnGiven                 both; proofs/Unique.antt: where a line tells one thing alone, so does a turn
use Rattle.std.specs.Prelude.{◌≡◌, Bool, true, false, ◌&&◌, List, ◌++◌, ℕ, ◌+◌, ◌*◌, eqb, leb, length, drop}
use Rattle.settings.specs.Answers.{Answer}
use Rattle.settings.specs.Answers.{number_of}
use Rattle.text_lines.specs.declared.Reading.{Reading}
use Rattle.text_lines.specs.Turns.{Turn}
use Rattle.text_lines.specs.Reading.{held_in, left_of, reading_after, line_after}

-- two digits for each byte, and one byte more: a line that is longer is then seen to be
unfoldable pub line_room : ℕ → ℕ
line_room count = 2 * count + 1

-- two digits, two for each byte, and a line feed
unfoldable pub answer_room : ℕ → ℕ
answer_room count = 2 * count + 3

unfoldable pub areas_fit : ℕ → ℕ → List ℕ → List ℕ → Bool
areas_fit room most line out = eqb (length line) room && leb most (length out)

module _ {Run : Type 0} (over : Run → Bool) (Tells : Run → List ℕ → List ℕ → Run → Type 0) (room most : ℕ)
    (run : Run) (reading : Reading) (text line out : List ℕ) (answer : Answer) (next : Run) (after : Reading)
    (written : ℕ) (more : Bool) (line' out' : List ℕ) where
  -- "packet, word or answer area of wrong length": nothing is read or written, and the loop doesn't go on
  pub record TurnRefused : Type 0 where
    pub answer_is : number_of answer ≡ 5
    pub run_is : next ≡ run
    pub reading_is : after ≡ reading
    pub written_is : written ≡ 0
    pub more_is : more ≡ false
    pub line_is : line' ≡ line
    pub out_is : out' ≡ out

  pub record TurnMade : Type 0 where
    pub answer_is : number_of answer ≡ 0
    pub printed : List ℕ
    pub turn : Turn over Tells room run (held_in reading line) (left_of reading text) printed next
        (held_in after line') (left_of after text) more
    pub reading_is : after ≡ reading_after reading text line
    pub line_is : line' ≡ line_after reading text line
    -- what is printed stands at the front of the output
    pub written_is : written ≡ length printed
    pub out_is : out' ≡ printed ++ drop (length printed) out

  pub record TurnGiven : Type 0 where
    pub refused : areas_fit room most line out ≡ false → TurnRefused
    pub made : areas_fit room most line out ≡ true → TurnMade
