-- The stream of bytes that comes out of the byte interleaver, as far as one word: the last four bytes that came out
-- before the word, the 204 that come out with it, and four that count for nothing. Its bit 32 is the first of the
-- word's 1,632 message bits.
--     stream_after     the stream after a word more
--     stream_bit       a bit of the stream, the highest bit of a byte first
use Rattle.std.specs.Prelude.{cond, List, ℕ, ◌+◌, ◌-◌, ◌/◌, ◌%◌, ltb, get_or}
use Rattle.lists.specs.Binary.{bit_of}
use Rattle.lists.specs.Tab.{tab}

-- `out` is the word that comes out
unfoldable pub stream_after : List ℕ → List ℕ → List ℕ
stream_after stream out =
    tab 212
    (λ k. cond (ltb k 4) (get_or stream (204 + k) 0) (cond (ltb k 208) (get_or out (k - 4) 0) (get_or stream k 0)))

-- "Message bits: highest of a byte first."
unfoldable pub stream_bit : List ℕ → ℕ → ℕ
stream_bit stream i = bit_of 8 (get_or stream (i / 8) 0) (i % 8)
