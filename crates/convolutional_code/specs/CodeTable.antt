-- The coded bits of every window, as a table: a window is given as the bits of a byte stream stand, the newest lowest.
--     code_entry     Y at 0 to 127, X at 128 to 255
use Rattle.std.specs.Prelude.{cond, ℕ, ◌/◌, ◌%◌, ◌^◌, ltb}
use Rattle.rules.specs.Code.{parity}
use Rattle.lists.specs.Binary.{binary}

-- the `count` lowest bits, the lowest first: a register, newest bit highest, as the bits of a byte stream stand, oldest
-- highest, and back
unfoldable pub turned : ℕ → ℕ → ℕ
turned count bits = binary count (λ k. bits / 2 ^ k % 2)

unfoldable pub code_entry : ℕ → ℕ
code_entry place = parity (cond (ltb place 128) 0o133 0o171) (turned 7 place)
