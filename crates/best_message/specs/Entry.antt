-- What `best_message` does with any input.
--     is_pair          the number at a place is a pair
--     accepted         whether it answers
--     table_after      what it leaves in the table
--     message_after    what it leaves in the message, a byte 0 or 1 for each bit
--     MessageFound     all of this: what the call tells, and what it leaves in the lent areas
-- proofs/Unique.antt: it allows one result alone.
use Rattle.std.specs.Prelude.{◌≡◌, Bool, cond, ◌&&◌, List, map, ℕ, ◌+◌, ◌*◌, eqb, leb, ltb, length, get_or}
use Rattle.lists.specs.Tests.{all_below}
use Rattle.fewest.specs.Best.{bit, best}
use Rattle.best_message.specs.Table.{table_of}

unfoldable pub is_pair : List ℕ → ℕ → Bool
is_pair pairs k = ltb (get_or pairs k 0) 9

-- the table and the message are given by their lengths
unfoldable pub accepted : List ℕ → ℕ → ℕ → ℕ → Bool
accepted pairs register table_length message_length =
    leb (length pairs) 1728 && eqb message_length (length pairs) && leb (64 * length pairs + 64) table_length
    && ltb register 64
    && all_below (length pairs) (is_pair pairs)

unfoldable pub table_after : List ℕ → ℕ → List ℕ → List ℕ → List ℕ
table_after pairs register table message =
    cond (accepted pairs register (length table) (length message)) (table_of pairs table) table

unfoldable pub message_after : List ℕ → ℕ → List ℕ → List ℕ → List ℕ
message_after pairs register table message =
    cond (accepted pairs register (length table) (length message)) (map bit (best pairs register)) message

pub record MessageFound (pairs : List ℕ) (register : ℕ) (table message table' message' : List ℕ)
    (r : Bool) : Type 0 where
  pub told : r ≡ accepted pairs register (length table) (length message)
  pub table_left : table' ≡ table_after pairs register table message
  pub message_left : message' ≡ message_after pairs register table message
