-- A number and its binary digits.
--     binary n digit           the number of the n digits `digit 0`, .., `digit (n - 1)`, the first one highest
--     bit_of width number i    digit i of a number of `width` digits, the first one highest
use Rattle.std.specs.Prelude.{ℕ, zero, suc, ◌+◌, ◌-◌, ◌*◌, ◌/◌, ◌%◌, ◌^◌}

unfoldable pub binary : ℕ → (ℕ → ℕ) → ℕ
binary zero digit = 0
binary (suc n) digit = binary n digit * 2 + digit n

abbrev pub bit_of : ℕ → ℕ → ℕ → ℕ
bit_of width number i = number / 2 ^ (width - 1 - i) % 2
