-- The search for roots: the terms of a polynomial as indices into a table, four places at a step.
--     TermTable       32 zeros, and then the powers of 2 up to 2 ^ 287
--     Term            the index of a term: 0 for a term that is 0, and 32 more than the exponent for another
--     Terms, Below    the indices of the nine terms of a polynomial at 2 ^ q; each is below 287
use Rattle.std.specs.Prelude.{◌≡◌, ◌⊎◌, List, ℕ, ◌+◌, ◌*◌, ◌-◌, ◌≤◌, ◌<◌, get_or}
use Rattle.field.specs.Field.{◌⊗◌, power}

pub record TermTable (table : List ℕ) : Type 0 where
  pub zeros : (i : ℕ) → i < 32 → get_or table i 0 ≡ 0
  pub powers : (i : ℕ) → i < 288 → get_or table (32 + i) 0 ≡ power 2 i

abbrev pub Term : ℕ → ℕ → Type 0
Term index term = ((index ≡ 0) × (term ≡ 0)) ⊎ ((32 ≤ index) × (index < 287) × (term ≡ power 2 (index - 32)))

abbrev pub Terms : List ℕ → ℕ → List ℕ → Type 0
Terms l q indices = (k : ℕ) → k < 9 → Term (get_or indices k 0) (get_or l k 0 ⊗ power 2 (k * q))

abbrev pub Below : List ℕ → Type 0
Below indices = (k : ℕ) → k < 9 → get_or indices k 0 < 287
