-- The loop of a line program, as `turns` of `line_programs` has it: calls of the function that makes a turn, in a row,
-- each of which keeps the function's contract. A piece of the text is read into an area where nothing is left of the one
-- before.
--     Call     a call with areas that are the program's, and what is printed after it
--     Loop     what the calls print, one after the other, for the pieces that are read
use Rattle.std.specs.Prelude.{◌≡◌, Bool, true, false, List, [], ◌∷◌, ◌++◌, ℕ, ◌<◌, length, take}
use Rattle.settings.specs.Answers.{Answer}
use Rattle.text_lines.specs.declared.Reading.{Reading}
use Rattle.text_lines.specs.Reading.{left_of, with_piece}
use Rattle.text_lines.specs.Turned.{areas_fit, TurnGiven}

module _ {Run : Type 0} (over : Run → Bool) (Tells : Run → List ℕ → List ℕ → Run → Type 0) (room most : ℕ) where
  pub record Call (run : Run) (reading : Reading) (text line printed : List ℕ) (next : Run) (after : Reading)
      (more : Bool) (line' : List ℕ) : Type 0 where
    pub out : List ℕ
    pub out' : List ℕ
    pub answer : Answer
    pub written : ℕ
    pub fits : areas_fit room most line out ≡ true
    pub given : TurnGiven over Tells room most run reading text line out answer next after written more line' out'
    pub printed_is : printed ≡ take written out'

  pub data Loop : Run → Reading → List ℕ → List ℕ → List (List ℕ) → List ℕ → Type 0 where
    -- nothing is left of a piece: the next one is read, and stands at the front of the area
    piece_read : (run : Run) (reading : Reading) (text text' line piece printed : List ℕ) (pieces : List (List ℕ))
        → left_of reading text ≡ [] → take (length piece) text' ≡ piece
        → Loop run (with_piece reading (length piece)) text' line pieces printed
        → Loop run reading text line (piece ∷ pieces) printed
    -- a turn after which the loop goes on
    called : (run next : Run) (reading after : Reading) (text line line' printed rest : List ℕ)
        (pieces : List (List ℕ)) → Call run reading text line printed next after true line'
        → Loop next after text line' pieces rest → Loop run reading text line pieces (printed ++ rest)
    -- one after which the run is over
    called_last : (run next : Run) (reading after : Reading) (text line line' printed : List ℕ)
        (pieces : List (List ℕ)) → 0 < length (left_of reading text)
        → Call run reading text line printed next after false line' → Loop run reading text line pieces printed
    -- a piece of no bytes is read: the end of the text
    end_read : (run next : Run) (reading after : Reading) (text text' line line' printed : List ℕ)
        → left_of reading text ≡ [] → Call run (with_piece reading 0) text' line printed next after false line'
        → Loop run reading text line [] printed
