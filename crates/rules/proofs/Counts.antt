-- The message bits of a frame's words in blocks of M = 12, 16, 18, 20 or 21 by rate, for every rate by its own numeral.
--     Counted, counted     after p words 1632 p / M blocks are whole, and 1632 p % M message bits are left over
--     Placed, placed       where the bits of a block of word p stand
--     few_blocks           a word completes at most 136
--     Split, split         a symbol of a word is one of a block
--     Each, each           24 kept bits as symbols
use mathlib.Core.Path.{◌≡◌, refl}
use mathlib.Core.Bool.{cond}
use Prim.Native.Nat.{ℕ, ◌+◌, ◌-◌, ◌*◌, ◌/◌, ◌%◌, ◌<◌, ◌≤◌}
use Rattle.settings.specs.Legal.{legal_bits}
use Rattle.settings.specs.Sizes.{packets_by_rate}
use native.Mathlib.Omega.{arith}
use Rattle.settings.proofs.LegalSettings.{LegalRate, half, two_thirds, three_quarters, five_sixths, seven_eighths}
use Rattle.settings.proofs.LegalSettings.{LegalBits, qpsk, qam16, qam64}

-- v bits each; a number that is no v has none
unfoldable pub per_block : ℕ → ℕ
per_block v = cond (legal_bits v) (24 / v) 0

unfoldable pub blocks_in : ℕ → ℕ → ℕ
blocks_in size left = (left + 1632) / size

-- of a frame's first p words: whole blocks, and message bits left over
abbrev pub whole_blocks : ℕ → ℕ → ℕ
whole_blocks size p = 1632 * p / size

abbrev pub left_over : ℕ → ℕ → ℕ
left_over size p = 1632 * p % size

pub record Counted (size p : ℕ) : Type 0 where
  pub few : left_over size p < size
  pub next_left : (left_over size p + 1632) % size ≡ left_over size (p + 1)
  pub next_blocks : whole_blocks size p + blocks_in size (left_over size p) ≡ whole_blocks size (p + 1)
  pub most : blocks_in size (left_over size p) ≤ 136

pub counted : {rate : ℕ} → LegalRate rate → (p : ℕ) → Counted (packets_by_rate rate) p
unfolding packets_by_rate blocks_in
counted half p = record { few = omega arith; next_left = omega arith; next_blocks = omega arith; most = omega arith }
counted two_thirds p =
    record { few = omega arith; next_left = omega arith; next_blocks = omega arith; most = omega arith }
counted three_quarters p =
    record { few = omega arith; next_left = omega arith; next_blocks = omega arith; most = omega arith }
counted five_sixths p =
    record { few = omega arith; next_left = omega arith; next_blocks = omega arith; most = omega arith }
counted seven_eighths p =
    record { few = omega arith; next_left = omega arith; next_blocks = omega arith; most = omega arith }

pub few_blocks : {rate : ℕ} → LegalRate rate → (left : ℕ)
    → blocks_in (packets_by_rate rate) (left % packets_by_rate rate) ≤ 136
unfolding packets_by_rate blocks_in
few_blocks half left = omega arith
few_blocks two_thirds left = omega arith
few_blocks three_quarters left = omega arith
few_blocks five_sixths left = omega arith
few_blocks seven_eighths left = omega arith

-- bit i of block s of word p is bit `at` of the word's stream, whose bit 26 is six bits before the word's first
-- message bit
pub record Placed (size p s i at : ℕ) : Type 0 where
  pub inside : at < 1664
  pub begun : 26 ≤ 1632 * p + at
  pub is : 1632 * p + at - 26 ≡ size * (whole_blocks size p + s) + i

pub placed : {rate : ℕ} → LegalRate rate → (p s i : ℕ)
    → s < blocks_in (packets_by_rate rate) (left_over (packets_by_rate rate) p) → i < 6 + packets_by_rate rate
    → Placed (packets_by_rate rate) p s i (26 - left_over (packets_by_rate rate) p + packets_by_rate rate * s + i)
unfolding packets_by_rate blocks_in
placed half p s i h lt = record { inside = omega arith; begun = omega arith; is = omega arith }
placed two_thirds p s i h lt = record { inside = omega arith; begun = omega arith; is = omega arith }
placed three_quarters p s i h lt = record { inside = omega arith; begun = omega arith; is = omega arith }
placed five_sixths p s i h lt = record { inside = omega arith; begun = omega arith; is = omega arith }
placed seven_eighths p s i h lt = record { inside = omega arith; begun = omega arith; is = omega arith }

-- symbol i of some blocks, each of which has 24 kept bits
pub record Split (v first blocks i : ℕ) : Type 0 where
  pub block : i / per_block v < blocks
  pub within : i % per_block v < per_block v
  pub is : per_block v * (first + i / per_block v) + i % per_block v ≡ per_block v * first + i

pub split : {v : ℕ} → LegalBits v → (first blocks i : ℕ) → i < blocks * per_block v → Split v first blocks i
unfolding per_block
split qpsk first blocks i h = record { block = omega arith; within = omega arith; is = omega arith }
split qam16 first blocks i h = record { block = omega arith; within = omega arith; is = omega arith }
split qam64 first blocks i h = record { block = omega arith; within = omega arith; is = omega arith }

-- the symbols of a block are its 24 kept bits, and a word has room for them
pub record Each (v : ℕ) : Type 0 where
  pub some : 0 < v
  pub whole : per_block v * v ≡ 24
  pub few : per_block v ≤ 12

pub each : {v : ℕ} → LegalBits v → Each v
unfolding per_block
each qpsk = record { some = omega arith; whole = refl; few = omega arith }
each qam16 = record { some = omega arith; whole = refl; few = omega arith }
each qam64 = record { some = omega arith; whole = refl; few = omega arith }
