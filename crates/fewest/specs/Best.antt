-- "Of all messages, take the one with the fewest disagreements; of equals, the one with 0 at the first bit where they
-- differ."
--     bit               a message bit as a number
--     seven, next       a bit and the six before it; the register after a bit
--     sent_x, sent_y    the two coded bits that are sent for a bit
--     miss, differ      a digit disagrees; in how many of its bits a pair disagrees
--     cost              in how many received bits a message sent from a register disagrees with the pairs
--     ZeroFirst         the message is the other one, or has 0 at the first bit where they differ
--     Best              the rule, which is what a reader should check
--     least             the fewest disagreements of the pairs from a register on
--     best              the message found by trying 0 and 1 for each bit left and keeping the better
-- A register is a number below 64, its newest bit highest. A received pair is a number below 9, three times the digit
-- of X and the digit of Y; a digit is the bit received, or 2 where none was (punctured or lost).
-- proofs/Best.antt: `best` is `Best`, and no other message is. proofs/Join.antt: what is sent is rule 4's `coded_x`,
-- `coded_y`.
use Rattle.std.specs.Prelude.{Bool, true, false, cond, List, [], ◌∷◌, ℕ, ◌+◌, ◌*◌, ◌/◌, ◌%◌, ◌≤◌, min, eqb, ltb, leb, ◌≡◌, length}
use Rattle.rules.specs.Code.{parity}

abbrev pub bit : Bool → ℕ
bit false = 0
bit true = 1

-- the bits 0, 1, .., 6 back, the newest highest
unfoldable pub seven : ℕ → Bool → ℕ
seven register b = 64 * bit b + register

-- the oldest of the seven falls out
unfoldable pub next : ℕ → Bool → ℕ
next register b = seven register b / 2

unfoldable pub sent_x : ℕ → Bool → ℕ
sent_x register b = parity 0o171 (seven register b)

unfoldable pub sent_y : ℕ → Bool → ℕ
sent_y register b = parity 0o133 (seven register b)

-- 1 where the digit is a bit, and not the bit that was sent
unfoldable pub miss : ℕ → ℕ → ℕ
miss digit sent_bit = cond (ltb digit 2) (cond (eqb digit sent_bit) 0 1) 0

unfoldable pub differ : ℕ → ℕ → Bool → ℕ
differ pair register b = miss (pair / 3) (sent_x register b) + miss (pair % 3) (sent_y register b)

unfoldable pub cost : List ℕ → ℕ → List Bool → ℕ
cost [] register message = 0
cost (pair ∷ pairs) register [] = 0
cost (pair ∷ pairs) register (b ∷ message) = differ pair register b + cost pairs (next register b) message

abbrev pub ZeroFirst : List Bool → List Bool → Type 0
ZeroFirst [] other = Unit {0}
ZeroFirst (b ∷ message) [] = ⊥
ZeroFirst (false ∷ message) (false ∷ other) = ZeroFirst message other
ZeroFirst (false ∷ message) (true ∷ other) = Unit {0}
ZeroFirst (true ∷ message) (false ∷ other) = ⊥
ZeroFirst (true ∷ message) (true ∷ other) = ZeroFirst message other

pub record Best (pairs : List ℕ) (register : ℕ) (message : List Bool) : Type 0 where
  pub long : length message ≡ length pairs
  pub fewest : (other : List Bool) → length other ≡ length pairs
      → cost pairs register message ≤ cost pairs register other
  pub first : (other : List Bool) → length other ≡ length pairs
      → cost pairs register other ≡ cost pairs register message
      → ZeroFirst message other

unfoldable pub least : List ℕ → ℕ → ℕ
least [] register = 0
least (pair ∷ pairs) register =
    min (differ pair register false + least pairs (next register false))
    (differ pair register true + least pairs (next register true))

unfoldable pub best : List ℕ → ℕ → List Bool
best [] register = []
best (pair ∷ pairs) register =
    cond
    (leb (differ pair register false + least pairs (next register false))
    (differ pair register true + least pairs (next register true)))
    (false ∷ best pairs (next register false))
    (true ∷ best pairs (next register true))
