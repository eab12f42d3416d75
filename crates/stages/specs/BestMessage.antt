-- What the door `stages_best_message` says: the best message of received pairs, with the paper's numbers for its
-- refusals.
--     fitting          the lengths fit one another
--     refusing         the number of a call that is refused, by its register and lengths
--     answering        the number of a call: 7 for a register of 64 or more, 5 for lengths that do not fit, 10 for a
--                      pair of 9 or more
--     BestMessage      of `stages_best_message`
-- proofs/BestMessages.antt: it allows one result alone, and 0 is answered where the call is accepted, and only there.
use Rattle.std.specs.Prelude.{◌≡◌, Bool, true, not, ◌&&◌, List, [], ◌∷◌, ℕ, ◌+◌, ◌*◌, eqb, leb, ltb, length}
use Rattle.lists.specs.Tests.{all_below}
use Rattle.settings.specs.Answers.{◌when◌, first_of}
use Rattle.best_message.specs.Entry.{is_pair, table_after, message_after}

-- by the number of pairs, and the lengths of the table and the message
unfoldable pub fitting : ℕ → ℕ → ℕ → Bool
fitting count room bits = leb count 1728 && eqb bits count && leb (64 * count + 64) room

unfoldable pub refusing : ℕ → ℕ → ℕ → ℕ → ℕ
refusing count register room bits =
    first_of ((7 when not (ltb register 64)) ∷ (5 when not (fitting count room bits)) ∷ (10 when true) ∷ [])

unfoldable pub answering : List ℕ → ℕ → ℕ → ℕ → ℕ
answering pairs register room bits =
    first_of
    ((7 when not (ltb register 64))
    ∷ (5 when not (fitting (length pairs) room bits))
    ∷ (10 when not (all_below (length pairs) (is_pair pairs)))
    ∷ [])

pub record BestMessage (pairs : List ℕ) (register : ℕ) (table message table' message' : List ℕ) (r : ℕ) : Type 0 where
  pub number : r ≡ answering pairs register (length table) (length message)
  pub table_left : table' ≡ table_after pairs register table message
  pub message_left : message' ≡ message_after pairs register table message
