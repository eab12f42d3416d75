-- "Lines are read as in `frames`": a line is cut out of a text that comes in pieces.
--     front_of       the bytes of a piece before its first line feed, or all of them
--     ends_in        whether there is a line feed in it
--     used_of        how many bytes of it are used up
--     line_so_far    a line of which `held` has been read, as far as it has come: at most `room` bytes of it are held
--     line_held      the same, where the line stands at the front of an area
--     Cut            what `gather` returns, and what it leaves in the lent line
use Rattle.std.specs.Prelude.{◌≡◌, Bool, true, false, cond, List, [], ◌∷◌, ◌++◌, ℕ, ◌+◌, eqb, length, take, drop}
use Rattle.text_lines.specs.declared.Gathered.{Gathered}

unfoldable pub front_of : List ℕ → List ℕ
front_of [] = []
front_of (byte ∷ text) = cond (eqb byte 10) [] (byte ∷ front_of text)

unfoldable pub ends_in : List ℕ → Bool
ends_in [] = false
ends_in (byte ∷ text) = cond (eqb byte 10) true (ends_in text)

-- the line feed is used up too
unfoldable pub used_of : List ℕ → ℕ
used_of text = cond (ends_in text) (length (front_of text) + 1) (length text)

unfoldable pub line_so_far : ℕ → List ℕ → List ℕ → List ℕ
line_so_far room held piece = take room (held ++ front_of piece)

-- as many bytes as there is room for
abbrev pub line_held : List ℕ → ℕ → List ℕ → List ℕ
line_held line held text = line_so_far (length line) (take held line) text

pub record Cut (line : List ℕ) (held : ℕ) (text : List ℕ) (r : Gathered) (line' : List ℕ) : Type 0 where
  pub held_is : r.held ≡ length (line_held line held text)
  pub used_is : r.used ≡ used_of text
  pub ended_is : r.ended ≡ ends_in text
  pub line_is : line' ≡ line_held line held text ++ drop (length (line_held line held text)) line
