-- The points and the polynomials by which roots are counted.
--     poly         the value of a polynomial, the lowest coefficient first
--     locators     the points 2 ^ (n - 1), .., 2 ^ 0
use Rattle.std.specs.Prelude.{List, [], ◌∷◌, ℕ, zero, suc}
use Rattle.field.specs.Field.{◌⊕◌, ◌⊗◌, power}

-- the value at x of the polynomial whose lowest coefficient stands first
unfoldable pub poly : List ℕ → ℕ → ℕ
poly [] x = 0
poly (a ∷ l) x = a ⊕ x ⊗ poly l x

-- the points 2 ^ (n - 1), .., 2 ^ 0: the locators of the places of a word of length n, and the generator's roots (n
-- is 16)
unfoldable pub locators : ℕ → List ℕ
locators zero = []
locators (suc n) = power 2 n ∷ locators n
