-- Rule 5's patterns: how many coded bits are kept of a frame's first message bits.
--     Kept              what a place of a pattern keeps: both coded bits of its message bit, or one
--     pattern           the pattern of a rate; a number that is no rate has none
--     pattern_length    in message bits
--     kept_of           how many of the two coded bits of a message bit are kept
--     kept_below        how many bits are kept of the message bits below one
use Rattle.std.specs.Prelude.{List, [], ◌∷◌, ℕ, zero, suc, ◌+◌, ◌%◌, length, get_or}

pub data Kept : Type 0 where
  XY : Kept
  X : Kept
  Y : Kept

-- "1/2: XY. 2/3: XY, Y. 3/4: XY, Y, X. 5/6: XY, Y, X, Y, X. 7/8: XY, Y, Y, Y, X, Y, X."; rates are counted from 1
abbrev pub patterns : List (List Kept)
patterns =
    []
    ∷ (XY ∷ [])
    ∷ (XY ∷ Y ∷ [])
    ∷ (XY ∷ Y ∷ X ∷ [])
    ∷ (XY ∷ Y ∷ X ∷ Y ∷ X ∷ [])
    ∷ (XY ∷ Y ∷ Y ∷ Y ∷ X ∷ Y ∷ X ∷ [])
    ∷ []

abbrev pub pattern : ℕ → List Kept
pattern rate = get_or patterns rate []

unfoldable pub pattern_length : ℕ → ℕ
pattern_length rate = length (pattern rate)

abbrev pub bits_of : Kept → ℕ
bits_of XY = 2
bits_of X = 1
bits_of Y = 1

-- what a place of a pattern keeps, 0 where there is no such place
abbrev pub kept_at : List Kept → ℕ → ℕ
kept_at [] place = 0
kept_at (kept ∷ rest) zero = bits_of kept
kept_at (kept ∷ rest) (suc place) = kept_at rest place

-- "By message bit number in the frame, modulo the pattern's length, what is kept"
unfoldable pub kept_of : ℕ → ℕ → ℕ
kept_of rate n = kept_at (pattern rate) (n % pattern_length rate)

unfoldable pub kept_below : ℕ → ℕ → ℕ
kept_below rate zero = 0
kept_below rate (suc n) = kept_below rate n + kept_of rate n
