-- Blocks: M = 12, 16, 18, 20 or 21 message bits by rate keep exactly 24 bits, so block s is message bits M s to M s +
-- M - 1 and kept bits 24 s to 24 s + 23. A block's kept bits depend on its message bits and the six before them, M +
-- 6 bits in all.
--     block_bits      the M + 6 bits of block s as a number, the oldest highest
--     block_kept      the 24 kept bits of block s as a number, the first highest
--     block_of        the 24 kept bits from the M + 6 bits; `block_is_kept` in proofs/Blocks.antt says that they are
--                    block_kept
--     block_table     block_of each half byte of a block's bits, at each of seven places; no rate, no bits
--     block_by        the sum without carries of seven entries of a table, one a half byte
use Rattle.std.specs.Prelude.{cond, List, ℕ, zero, suc, ◌+◌, ◌*◌, ◌/◌, ◌%◌, ◌^◌, get_or}
use Rattle.std.specs.Int.Bits.{bit_xor}
use Rattle.lists.specs.Binary.{binary, bit_of}
use Rattle.lists.specs.Tab.{tab}
use Rattle.settings.specs.Legal.{legal_rate}
use Rattle.settings.specs.Sizes.{packets_by_rate}
use Rattle.rules.specs.Code.{bit_back}
use Rattle.convolutional_code.specs.CodeTable.{turned}
use Rattle.rules.specs.Puncturing.{kept_bit}

unfoldable pub block_bits : ℕ → ℕ → (ℕ → ℕ) → ℕ → ℕ
block_bits rate register message s =
    binary (6 + packets_by_rate rate) (λ i. bit_back register message (packets_by_rate rate * s + i) 6)

unfoldable pub block_kept : ℕ → ℕ → (ℕ → ℕ) → ℕ → ℕ
block_kept rate register message s = binary 24 (λ i. kept_bit rate register message (24 * s + i))

-- the six oldest bits are the register, and the others the message
unfoldable pub block_of : ℕ → ℕ → ℕ
block_of rate bits =
    binary 24
    (kept_bit rate (turned 6 (bits / 2 ^ packets_by_rate rate)) (bit_of (packets_by_rate rate) bits))

unfoldable pub block_entry : ℕ → ℕ → ℕ
block_entry rate place = cond (legal_rate rate) (block_of rate (place % 16 * 16 ^ (place / 16))) 0

unfoldable pub block_table : ℕ → List ℕ
block_table rate = tab 112 (block_entry rate)

-- the sum of the entries for the lowest half bytes
unfoldable pub sum_of_entries : List ℕ → ℕ → ℕ → ℕ
sum_of_entries table bits zero = 0
sum_of_entries table bits (suc j) =
    bit_xor (sum_of_entries table bits j) (get_or table (16 * j + bits / 16 ^ j % 16) 0)

unfoldable pub block_by : List ℕ → ℕ → ℕ
block_by table bits = sum_of_entries table bits 7
