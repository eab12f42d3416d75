-- The patterns as the standard's table prints them: a row of digits for X and one for Y, 1 where the coded bit is sent.
--     row_x, row_y      the two rows of a pattern
--     Rows, rows_are    those of the five rates
use mathlib.Core.Path.{◌≡◌, refl}
use mathlib.Core.List.{List, [], ◌∷◌, map}
use Prim.Native.Nat.{ℕ}
use Rattle.settings.specs.Patterns.{Kept, XY, X, Y, pattern}

abbrev sends_x : Kept → ℕ
sends_x XY = 1
sends_x X = 1
sends_x Y = 0

abbrev sends_y : Kept → ℕ
sends_y XY = 1
sends_y X = 0
sends_y Y = 1

abbrev pub row_x : ℕ → List ℕ
row_x rate = map sends_x (pattern rate)

abbrev pub row_y : ℕ → List ℕ
row_y rate = map sends_y (pattern rate)

pub record Rows : Type 0 where
  pub half : (row_x 1 ≡ 1 ∷ []) × (row_y 1 ≡ 1 ∷ [])
  pub two_thirds : (row_x 2 ≡ 1 ∷ 0 ∷ []) × (row_y 2 ≡ 1 ∷ 1 ∷ [])
  pub three_quarters : (row_x 3 ≡ 1 ∷ 0 ∷ 1 ∷ []) × (row_y 3 ≡ 1 ∷ 1 ∷ 0 ∷ [])
  pub five_sixths : (row_x 4 ≡ 1 ∷ 0 ∷ 1 ∷ 0 ∷ 1 ∷ []) × (row_y 4 ≡ 1 ∷ 1 ∷ 0 ∷ 1 ∷ 0 ∷ [])
  pub seven_eighths : (row_x 5 ≡ 1 ∷ 0 ∷ 0 ∷ 0 ∷ 1 ∷ 0 ∷ 1 ∷ []) × (row_y 5 ≡ 1 ∷ 1 ∷ 1 ∷ 1 ∷ 0 ∷ 1 ∷ 0 ∷ [])

pub rows_are : Rows
rows_are =
    record {
      half = (refl, refl);
      two_thirds = (refl, refl);
      three_quarters = (refl, refl);
      five_sixths = (refl, refl);
      seven_eighths = (refl, refl);
    }
