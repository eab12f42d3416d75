-- What the engine leaves in the table that is lent to it.
--     packed      twice the fewest disagreements from a register on, and the best message's first bit in the lowest
--                 place
--     base        what a row is lowered by, so that its entries fit a byte
--     entry       an entry of a row: the packed number less twice the base
--     table_of    row t, the 64 entries from 64 t on, is of the pairs from number t on; what lies behind stays
-- proofs/Spread.antt: the fewest disagreements of two registers are at most 12 apart, which is why a byte is enough.
use Rattle.std.specs.Prelude.{false, true, cond, List, [], ◌∷◌, ℕ, suc, ◌+◌, ◌*◌, ◌-◌, ◌/◌, ◌%◌, min, eqb, ltb, length, get_or, drop}
use Rattle.lists.specs.Tab.{tab}
use Rattle.fewest.specs.Best.{next, differ, least}

unfoldable pub packed : List ℕ → ℕ → ℕ
packed [] register = 0
packed (pair ∷ pairs) register =
    min (2 * (differ pair register false + least pairs (next register false)))
    (2 * (differ pair register true + least pairs (next register true)) + 1)

-- each 32 pairs, counted from the end, it rises so far that register 0 has 12 left where it had more
unfoldable pub base : List ℕ → ℕ
base [] = 0
base (pair ∷ pairs) = base pairs + cond (eqb (suc (length pairs) % 32) 0) (least (pair ∷ pairs) 0 - base pairs - 12) 0

unfoldable pub entry : List ℕ → ℕ → ℕ
entry pairs register = packed pairs register - 2 * base pairs

unfoldable pub table_of : List ℕ → List ℕ → List ℕ
table_of pairs table =
    tab (length table)
    (λ place. cond (ltb place (64 * length pairs + 64)) (entry (drop (place / 64) pairs) (place % 64))
    (get_or table place 0))
