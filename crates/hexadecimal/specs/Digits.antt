-- Hexadecimal digits as bytes: "Digits of either case are read", and capitals are printed.
--     value_of         a byte's value as a digit, 16 where it is none
--     digit_of         the digit of a value below 16
--     digits_of        the last digits of a number, as many as are asked for, the highest first
use Rattle.std.specs.Prelude.{cond, List, ℕ, ◌+◌, ◌-◌, ◌/◌, ◌%◌, ◌^◌, ltb}
use Rattle.lists.specs.Tests.{between}
use Rattle.lists.specs.Tab.{tab}

-- 0 to 9 are the bytes 48 to 57, A to F 65 to 70, a to f 97 to 102
unfoldable pub value_of : ℕ → ℕ
value_of byte =
    cond (between 48 57 byte) (byte - 48)
    (cond (between 65 70 byte) (byte - 55) (cond (between 97 102 byte) (byte - 87) 16))

unfoldable pub digit_of : ℕ → ℕ
digit_of value = cond (ltb value 10) (48 + value) (55 + value)

-- digit k of n, where the lowest is digit 0
unfoldable pub digit_at : ℕ → ℕ → ℕ
digit_at n k = digit_of (n / 16 ^ k % 16)

unfoldable pub digits_of : ℕ → ℕ → List ℕ
digits_of count n = tab count (λ place. digit_at n (count - 1 - place))
