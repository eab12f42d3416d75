-- The weight of a word, and the sum of two words.
use mathlib.Core.List.{List, [], ◌∷◌}
use Prim.Native.Nat.{ℕ, zero, suc}
use Rattle.field.specs.Field.{◌⊕◌}

-- how many entries are not 0
unfoldable pub weight : List ℕ → ℕ
weight [] = 0
weight (zero ∷ c) = weight c
weight (suc a ∷ c) = suc (weight c)

-- the sum, place by place: 0 where two words agree
unfoldable pub sums : List ℕ → List ℕ → List ℕ
sums [] d = []
sums (a ∷ c) [] = []
sums (a ∷ c) (b ∷ d) = (a ⊕ b) ∷ sums c d
