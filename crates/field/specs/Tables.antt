-- What the two tables say, for functions that are lent them.
--     Powers          entry i is 2 to the i, and entry 255 is 0
--     Logarithms      entry a is the exponent below 255 of a, and entry 0 is 255
use Rattle.std.specs.Prelude.{◌≡◌, List, ℕ, ◌<◌, zero, suc, get_or, cond, eqb, ltb}
use Rattle.field.specs.Field.{power}
use Rattle.lists.specs.Tab.{tab}

-- the logarithm of a to the base 2: the n below 255 with 2 ^ n ≡ a, or 0 where there is none, as for 0
unfoldable pub logarithm_below : ℕ → ℕ → ℕ
logarithm_below zero a = 0
logarithm_below (suc n) a = cond (eqb (power 2 n) a) n (logarithm_below n a)

unfoldable pub logarithm_of : ℕ → ℕ
logarithm_of a = logarithm_below 255 a

-- the powers of 2 below the exponent 255, and then 0
unfoldable pub power_table : List ℕ
power_table = tab 256 (λ i. cond (ltb i 255) (power 2 i) 0)

-- the logarithm of each byte, with 255 for that of 0
unfoldable pub logarithm_table : List ℕ
logarithm_table = tab 256 (λ a. cond (eqb a 0) 255 (logarithm_of a))

pub record Powers (table : List ℕ) : Type 0 where
  pub at : (i : ℕ) → i < 255 → get_or table i 0 ≡ power 2 i
  pub zero : get_or table 255 0 ≡ 0

pub record Logarithms (table : List ℕ) : Type 0 where
  pub small : (a : ℕ) → 0 < a → a < 256 → get_or table a 0 < 255
  pub at : (a : ℕ) → 0 < a → a < 256 → power 2 (get_or table a 0) ≡ a
  pub zero : get_or table 0 0 ≡ 255
