-- Rule 1: the Reed-Solomon code of ISDB-T. A word's bytes are the coefficients of a polynomial over GF(256), the
-- highest first.
--     Codeword     204 bytes whose polynomial is 0 at 2 ^ 0, .., 2 ^ 15
--     distance     in how many places two words differ
use Rattle.std.specs.Prelude.{cond, ◌≡◌, List, [], ◌∷◌, ℕ, ◌+◌, ◌<◌, eqb, length}
use Rattle.field.specs.Field.{power, value, Bytes}

pub record Codeword (c : List ℕ) : Type 0 where
  pub long : length c ≡ 204
  pub bytes : Bytes c
  pub roots : (j : ℕ) → j < 16 → value c (power 2 j) ≡ 0

-- in how many places two words of one length differ
unfoldable pub distance : List ℕ → List ℕ → ℕ
distance [] d = 0
distance (a ∷ c) [] = 0
distance (a ∷ c) (b ∷ d) = cond (eqb a b) 0 1 + distance c d
