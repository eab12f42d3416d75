-- What the inner functions say of each other: where in a block's bits the window of each of its 24 kept bits stands.
--     shift_of      how far up its newest bit is
--     base_of       where its half of the code's table begins: X at 128, Y at 0
--     picked_bit    the kept bit by these, from a table of coded bits
use Rattle.std.specs.Prelude.{cond, List, ℕ, ◌+◌, ◌-◌, ◌/◌, ◌%◌, ◌^◌, get_or}
use Rattle.settings.specs.Sizes.{packets_by_rate}
use Rattle.rules.proofs.Sources.{source_of, kept_is_x}

unfoldable pub shift_of : ℕ → ℕ → ℕ
shift_of rate i = packets_by_rate rate - 1 - source_of rate i

unfoldable pub base_of : ℕ → ℕ → ℕ
base_of rate i = cond (kept_is_x rate i) 128 0

unfoldable pub picked_bit : List ℕ → List ℕ → List ℕ → ℕ → ℕ → ℕ
picked_bit code shifts bases bits i = get_or code (get_or bases i 0 + bits / 2 ^ get_or shifts i 0 % 128) 0
