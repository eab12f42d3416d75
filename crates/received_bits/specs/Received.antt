-- Rules 6 and 5 read backwards: what is received of each message bit of some carriers, for every v, rate and length.
-- The digits and pairs themselves are those of `rules/specs/Back.antt`.
--     whole_blocks     the message bits of the whole blocks that 1,680 have room for
--     pairs_of         the received pairs of these, from a stretch
--     held_pairs_of    and of a frame's last word
-- A pair is 3 x + y, x and y being the digits of X and Y: 0 or 1, or 2 where there is no such bit.
-- Message bits and kept bits are counted from the first of a block, a row being v kept bits.
use Rattle.std.specs.Prelude.{Bool, cond, ◌&&◌, List, ℕ, ◌+◌, ◌*◌, ◌/◌, ◌%◌, eqb, leb, ltb, replicate}
use Rattle.lists.specs.Tab.{tab}
use Rattle.settings.specs.Legal.{legal_bits, legal_rate}
use Rattle.settings.specs.Sizes.{packets_by_rate}
use Rattle.rules.specs.Back.{held_digit, pair_at, received_digit}

unfoldable pub whole_blocks : ℕ → ℕ
whole_blocks rate = packets_by_rate rate * (1680 / packets_by_rate rate)

-- Behind the whole blocks there is nothing.
unfoldable pub pair_in_blocks : ℕ → (ℕ → ℕ) → ℕ → ℕ
pair_in_blocks rate digit n = cond (ltb n (whole_blocks rate)) (pair_at rate digit n) 8

-- With a number that is no v or no rate nothing is received.
unfoldable pub pairs_of : ℕ → ℕ → List ℕ → List ℕ
pairs_of v rate carriers =
    cond (legal_bits v && legal_rate rate)
    (tab 1680 (pair_in_blocks rate (received_digit v carriers)))
    (replicate 1680 8)

-- What is held ends with a row, and with the 120 rows behind it there is room for the word.
unfoldable pub held_fits : ℕ → ℕ → ℕ → Bool
held_fits v lead count = leb count 3072 && eqb ((lead + count) % v) 0 && leb (lead + count + 120 * v) 3360

-- the digits of 120 rows behind what is held; further ones are not there
unfoldable pub last_digit : ℕ → ℕ → ℕ → List ℕ → List ℕ → List ℕ → ℕ → ℕ
last_digit v lead count held lines carriers c =
    cond (ltb c (lead + count + 120 * v)) (held_digit v lead count held lines carriers c) 2

unfoldable pub held_pairs_of : ℕ → ℕ → ℕ → ℕ → List ℕ → List ℕ → List ℕ → List ℕ
held_pairs_of v rate lead count held lines carriers =
    cond (legal_bits v && legal_rate rate && held_fits v lead count)
    (tab 1680 (pair_in_blocks rate (last_digit v lead count held lines carriers)))
    (replicate 1680 8)
