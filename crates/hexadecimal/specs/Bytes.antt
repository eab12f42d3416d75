-- Bytes as hexadecimal digits, two each, the higher first.
--     all_digits           every byte of a line is a digit
--     writes               a line writes so many bytes and is nothing else
--     byte_at, bytes_in    a byte that a line writes; all of them
--     digits_of_bytes      so many digits of bytes; where there are no more bytes, 0
--     read_into            what reading a line leaves in an area
use Rattle.std.specs.Prelude.{Bool, cond, ◌&&◌, List, ℕ, ◌+◌, ◌-◌, ◌*◌, ◌/◌, ◌%◌, eqb, ltb, length, get_or}
use Rattle.lists.specs.Tests.{all_below}
use Rattle.lists.specs.Tab.{tab}
use Rattle.hexadecimal.specs.Digits.{value_of, digit_at}

unfoldable pub all_digits : List ℕ → Bool
all_digits line = all_below (length line) (λ i. ltb (value_of (get_or line i 0)) 16)

unfoldable pub writes : ℕ → List ℕ → Bool
writes count line = eqb (length line) (2 * count) && all_digits line

unfoldable pub byte_at : List ℕ → ℕ → ℕ
byte_at line k = value_of (get_or line (2 * k) 0) * 16 + value_of (get_or line (2 * k + 1) 0)

unfoldable pub bytes_in : List ℕ → List ℕ
bytes_in line = tab (length line / 2) (byte_at line)

unfoldable pub digits_of_bytes : ℕ → List ℕ → List ℕ
digits_of_bytes count bytes = tab count (λ i. digit_at (get_or bytes (i / 2) 0) (1 - i % 2))

unfoldable pub read_into : List ℕ → List ℕ → List ℕ
read_into line area = cond (writes (length area) line) (bytes_in line) area
