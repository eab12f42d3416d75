-- A line program and a text that comes in pieces: the loop of `frames`, `coding` and `receiving`, whose turns are those
-- of their functions' contracts. Of a line that has not ended `held` is what has been read.
--     joined     the pieces of a text as one
--     Prints     what the lines of a text print, one after the other
--     Reads      what the turns of the loop print, one after the other, for the pieces that a text comes in: the first
--                is what is left of the piece that is being read
use Rattle.std.specs.Prelude.{Bool, true, false, List, [], ◌∷◌, ◌++◌, ℕ, ◌<◌, length}
use Rattle.text_lines.specs.Turns.{Turn}

unfoldable pub joined : List (List ℕ) → List ℕ
joined [] = []
joined (piece ∷ pieces) = piece ++ joined pieces

pub data Prints {Run : Type 0} (Tells : Run → List ℕ → List ℕ → Run → Type 0) : Run → List (List ℕ) → List ℕ
    → Type 0 where
  no_line : (run : Run) → Prints Tells run [] []
  one_more : (run next : Run) (line text rest : List ℕ) (lines : List (List ℕ)) → Tells run line text next
      → Prints Tells next lines rest → Prints Tells run (line ∷ lines) (text ++ rest)

pub data Reads {Run : Type 0} (over : Run → Bool) (Tells : Run → List ℕ → List ℕ → Run → Type 0) (room : ℕ)
    : Run → List ℕ → List (List ℕ) → List ℕ → Type 0 where
  -- nothing is left of a piece: the next one is read
  next_piece : (run : Run) (held text : List ℕ) (pieces : List (List ℕ)) → Reads over Tells room run held pieces text
      → Reads over Tells room run held ([] ∷ pieces) text
  -- a turn after which the loop goes on
  one_turn : (run next : Run) (held held' piece piece' text rest : List ℕ) (pieces : List (List ℕ))
      → Turn over Tells room run held piece text next held' piece' true
      → Reads over Tells room next held' (piece' ∷ pieces) rest
      → Reads over Tells room run held (piece ∷ pieces) (text ++ rest)
  -- one after which the run is over: nothing more is read
  run_ends : (run next : Run) (held held' piece piece' text : List ℕ) (pieces : List (List ℕ)) → 0 < length piece
      → Turn over Tells room run held piece text next held' piece' false
      → Reads over Tells room run held (piece ∷ pieces) text
  -- the end of the text, where a piece of no bytes is read
  text_ends : (run next : Run) (held held' piece' text : List ℕ)
      → Turn over Tells room run held [] text next held' piece' false → Reads over Tells room run held [] text
