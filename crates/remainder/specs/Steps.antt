-- What the inner functions say of each other.
--     row        the sixteen bytes of a table at a place
--     Table      the table that the remainder is made by
--     padded     the first bytes of a word behind zeros
--     Put        a part of a list is written
--     Multiples  blocks of the table are the multiples of one of them
use Rattle.std.specs.Prelude.{◌≡◌, cond, List, ℕ, ◌+◌, ◌*◌, ◌-◌, ◌<◌, ◌≤◌, ltb, length, get_or}
use Rattle.field.specs.Field.{◌⊗◌, power, value}
use Rattle.lists.specs.Tab.{tab}

unfoldable pub row : List ℕ → ℕ → List ℕ
row table at = tab 16 (λ k. get_or table (at + k) 0)

-- at each root the sixteen bytes at 256 n + 16 j are n times x ^ (31 - j), and those 4096 further on 16 n times
pub record Table (table : List ℕ) : Type 0 where
  pub low : (n j m : ℕ) → n < 16 → j < 16 → m < 16
      → value (row table (256 * n + 16 * j)) (power 2 m) ≡ n ⊗ power (power 2 m) (31 - j)
  pub high : (n j m : ℕ) → n < 16 → j < 16 → m < 16
      → value (row table (4096 + 256 * n + 16 * j)) (power 2 m) ≡ (16 * n) ⊗ power (power 2 m) (31 - j)

unfoldable pub padded : ℕ → List ℕ → ℕ → ℕ
padded gap word k = cond (ltb k gap) 0 (get_or word (k - gap) 0)

-- the first `count` bytes from `at` on follow the rule, and every other byte is as it was
pub record Put (at count : ℕ) (rule : ℕ → ℕ) (old new : List ℕ) : Type 0 where
  pub len : length new ≡ length old
  pub done : (k : ℕ) → k < count → get_or new (at + k) 0 ≡ rule k
  pub before : (i : ℕ) → i < at → get_or new i 0 ≡ get_or old i 0
  pub behind : (i : ℕ) → at + count ≤ i → get_or new i 0 ≡ get_or old i 0

-- from `at` on the first `count` blocks of 256 bytes are the multiples of block 1, and every other byte is as it was
pub record Multiples (at count : ℕ) (old new : List ℕ) : Type 0 where
  pub len : length new ≡ 8192
  pub block : (n k : ℕ) → n < count → k < 256 → get_or new (at + 256 * n + k) 0 ≡ n ⊗ get_or old (at + 256 + k) 0
  pub before : (i : ℕ) → i < at → get_or new i 0 ≡ get_or old i 0
  pub behind : (i : ℕ) → at + 256 * count ≤ i → get_or new i 0 ≡ get_or old i 0
