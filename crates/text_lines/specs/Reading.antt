-- How far a text is read that comes in pieces, each at the front of a lent area; the line that has begun stands at the
-- front of another one.
--     held_in          what is held of the line that has begun
--     end_in, at_in    where the piece ends in its area, and how far it is read: neither beyond the area's end
--     left_of          the bytes of the piece that are left
--     new_reading      before the first piece
--     with_piece       with the next piece
--     line_read        the line, as far as it has come in the turn
--     reading_after    how far the text is read after a turn
--     line_after       what the turn leaves in the area of the line
--     Stepped          what going on with a text returns, and what it leaves there
use Rattle.std.specs.Prelude.{◌≡◌, not, List, ◌++◌, ℕ, ◌+◌, ◌-◌, min, length, take, drop}
use Rattle.text_lines.specs.declared.Reading.{Reading}
use Rattle.text_lines.specs.declared.Step.{Step}
use Rattle.text_lines.specs.Cut.{used_of, line_held}
use Rattle.text_lines.specs.Turns.{none, line_ends, line_held_after}

abbrev pub held_in : Reading → List ℕ → List ℕ
held_in reading line = take reading.held line

unfoldable pub end_in : Reading → List ℕ → ℕ
end_in reading text = min reading.end (length text)

unfoldable pub at_in : Reading → List ℕ → ℕ
at_in reading text = min reading.at (end_in reading text)

abbrev pub left_of : Reading → List ℕ → List ℕ
left_of reading text = take (end_in reading text - at_in reading text) (drop (at_in reading text) text)

abbrev pub new_reading : Reading
new_reading = record { at = 0; end = 0; held = 0 }

abbrev pub with_piece : Reading → ℕ → Reading
with_piece reading count = record { at = 0; end = count; held = reading.held }

abbrev pub line_read : Reading → List ℕ → List ℕ → List ℕ
line_read reading text line = line_held line reading.held (left_of reading text)

unfoldable pub reading_after : Reading → List ℕ → List ℕ → Reading
reading_after reading text line =
    record {
      at = at_in reading text + used_of (left_of reading text);
      end = end_in reading text;
      held = length (line_held_after (length line) (held_in reading line) (left_of reading text));
    }

-- the rest of the area stays as it was
unfoldable pub line_after : Reading → List ℕ → List ℕ → List ℕ
line_after reading text line = line_read reading text line ++ drop (length (line_read reading text line)) line

pub record Stepped (reading : Reading) (text line : List ℕ) (r : Step) (line' : List ℕ) : Type 0 where
  pub reading_is : r.reading ≡ reading_after reading text line
  pub ended_is : r.ended ≡ line_ends (held_in reading line) (left_of reading text)
  pub count_is : r.count ≡ length (line_read reading text line)
  pub more_is : r.more ≡ not (none (left_of reading text))
  pub line_is : line' ≡ line_after reading text line
