-- A turn of a line program's loop, on a text that comes in pieces. It goes on with the line that has begun, of which
-- `held` has been read, in what is left of the piece; a piece of no bytes is the end of the text.
--     Tells run line text next       a line prints the text, and the run after it is `next`
--     over run                       the run is over
--     line_ends                      whether a line ends in the turn
--     line_held_after, left_after    what is then held of the line that has begun, and left of the piece
--     goes_on                        whether the loop goes on
--     Turn                           what a turn prints, and where the loop is then
use Rattle.std.specs.Prelude.{◌≡◌, Bool, true, false, cond, not, ◌&&◌, List, [], ℕ, eqb, length, drop}
use Rattle.text_lines.specs.Cut.{ends_in, used_of, line_so_far}

-- no byte
abbrev pub none : List ℕ → Bool
none bytes = eqb (length bytes) 0

-- a line ends at its line feed; "the last line may lack its line feed": at the end of the text one ends if it has begun
unfoldable pub line_ends : List ℕ → List ℕ → Bool
line_ends held piece = cond (none piece) (not (none held)) (ends_in piece)

unfoldable pub line_held_after : ℕ → List ℕ → List ℕ → List ℕ
line_held_after room held piece = cond (line_ends held piece) [] (line_so_far room held piece)

unfoldable pub left_after : List ℕ → List ℕ
left_after piece = drop (used_of piece) piece

-- up to the end of the text, or of the run
unfoldable pub goes_on : List ℕ → Bool → Bool
goes_on piece is_over = not (none piece) && not is_over

pub record Turn {Run : Type 0} (over : Run → Bool) (Tells : Run → List ℕ → List ℕ → Run → Type 0) (room : ℕ)
    (run : Run) (held piece text : List ℕ) (next : Run) (held' piece' : List ℕ) (more : Bool) : Type 0 where
  pub line_ends_is : line_ends held piece ≡ true → Tells run (line_so_far room held piece) text next
  pub line_goes_on : line_ends held piece ≡ false → (text ≡ []) × (next ≡ run)
  pub held_is : held' ≡ line_held_after room held piece
  pub piece_is : piece' ≡ left_after piece
  pub more_is : more ≡ goes_on piece (over next)
