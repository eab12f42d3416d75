-- Rule 4, the convolutional code: the two coded bits of each message bit.
--     bit_back            a bit some places before a message bit
--     window              a message bit and the six before it, as a number
--     parity              of the ones of a window under taps
--     coded_x, coded_y    the two coded bits of a message bit
--     register_after      the register after some message bits
-- A message is given by its bits: `message n` is message bit n (any number stands for its remainder by 2).
use Rattle.std.specs.Prelude.{cond, ℕ, suc, ◌-◌, ◌%◌, leb}
use Rattle.std.specs.Int.Bits.{bit_and}
use Rattle.std.specs.Int.Count.{ones}
use Rattle.lists.specs.Binary.{binary, bit_of}

-- "Register of the last six bits": the bit k places before message bit n, which before the message is the register's
-- own; "the register 0 to 63 (newest bit highest)": of seven bits the first is the one after it, 0 places back
unfoldable pub bit_back : ℕ → (ℕ → ℕ) → ℕ → ℕ → ℕ
bit_back register message n k = cond (leb k n) (message (n - k) % 2) (bit_of 7 register (k - n))

-- the bits 0, 1, .., 6 back, the newest highest
unfoldable pub window : ℕ → (ℕ → ℕ) → ℕ → ℕ
window register message n = binary 7 (bit_back register message n)

-- "An output bit is the parity of the ones under its taps."
unfoldable pub parity : ℕ → ℕ → ℕ
parity taps seven = ones (bit_and seven taps) % 2

-- "X has taps at 0, 1, 2, 3 and 6 bits back (171 octal)"
unfoldable pub coded_x : ℕ → (ℕ → ℕ) → ℕ → ℕ
coded_x register message n = parity 0o171 (window register message n)

-- "Y at 0, 2, 3, 5 and 6 (133 octal)"
unfoldable pub coded_y : ℕ → (ℕ → ℕ) → ℕ → ℕ
coded_y register message n = parity 0o133 (window register message n)

-- the bits 1, 2, .., 6 back from message bit n, the newest highest
unfoldable pub register_after : ℕ → (ℕ → ℕ) → ℕ → ℕ
register_after register message n = binary 6 (λ k. bit_back register message n (suc k))
