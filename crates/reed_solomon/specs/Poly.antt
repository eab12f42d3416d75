-- A polynomial, by its coefficients with the lowest first, applied to a sequence of syndromes.
use Rattle.std.specs.Prelude.{List, [], ◌∷◌, ℕ, suc}
use Rattle.field.specs.Field.{◌⊕◌, ◌⊗◌}

-- the polynomial applied to the sequence s from place j on
unfoldable pub applied : List ℕ → (ℕ → ℕ) → ℕ → ℕ
applied [] s j = 0
applied (a ∷ l) s j = a ⊗ s j ⊕ applied l s (suc j)
