-- What the functions say of each other.
--     waits_of   the waits of one of the two ways
--     Moved      the memory, 17 places down
--     Newest     17 bytes of a word put into the memory
use Rattle.std.specs.Prelude.{◌≡◌, Bool, cond, List, ℕ, ◌+◌, ◌*◌, ◌<◌, ◌≤◌, length, get_or}
use Rattle.rules.specs.Bytes.{waits_there, waits_back}

abbrev pub waits_of : Bool → ℕ → ℕ
waits_of back = cond back waits_back waits_there

pub record Moved (old new : List ℕ) : Type 0 where
  pub len : length new ≡ 1122
  pub down : (k : ℕ) → k < 1105 → get_or new k 0 ≡ get_or old (k + 17) 0

-- the first `count` bytes of branch i of the word stand from `at` on, and every other byte is as it was
pub record Newest (at i count : ℕ) (word old new : List ℕ) : Type 0 where
  pub len : length new ≡ 1122
  pub done : (t : ℕ) → t < count → get_or new (at + t) 0 ≡ get_or word (12 * t + i) 0
  pub before : (k : ℕ) → k < at → get_or new k 0 ≡ get_or old k 0
  pub behind : (k : ℕ) → at + count ≤ k → get_or new k 0 ≡ get_or old k 0
