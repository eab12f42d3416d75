-- The areas of a program's loop.
--     own_areas       their lengths are the program's: the room for a line, and the longest answer
--     areas_number    the number that a run answers, by the lengths of its areas
--     area_left       what a run leaves in an area that is lent
use Rattle.std.specs.Prelude.{Bool, cond, ◌&&◌, List, ◌++◌, ℕ, ◌^◌, eqb, ltb, drop, replicate}

-- an area is an array, and none has 2^63 bytes
unfoldable pub own_areas : ℕ → ℕ → ℕ → ℕ → Bool
own_areas room most line answer = eqb line room && eqb answer most && (ltb line (2 ^ 63) && ltb answer (2 ^ 63))

-- "packet, word or answer area of wrong length"
unfoldable pub areas_number : ℕ → ℕ → ℕ → ℕ → ℕ
areas_number room most line answer = cond (own_areas room most line answer) 0 5

-- as many zeros as the run needs of it, and what lies behind; where the areas don't fit, all that stood there
unfoldable pub area_left : Bool → ℕ → List ℕ → List ℕ
area_left fit needs area = cond fit (replicate needs 0 ++ drop needs area) area
