-- How the kept bits of a frame's words lie, for every rate and v by its own numeral.
--     kept_mono                 more message bits keep more bits
--     word_least, word_most     how many bits the last word of a frame keeps
--     kept_on, pattern_on       behind a whole number of patterns
--     row_inside                a kept bit with 120 rows behind it
use mathlib.Core.Path.{◌≡◌, ap}
use Prim.Native.Nat.{ℕ, ◌+◌, ◌-◌, ◌*◌, ◌/◌, ◌%◌, ◌<◌, ◌≤◌}
use native.Mathlib.Omega.{arith}
use lib.ListN.{get_or}
use Rattle.settings.specs.Patterns.{XY, pattern, pattern_length, kept_below}
use Rattle.settings.proofs.LegalSettings.{LegalRate, half, two_thirds, three_quarters, five_sixths, seven_eighths}
use Rattle.settings.proofs.LegalSettings.{LegalBits, qpsk, qam16, qam64}
use Rattle.settings.proofs.Patterns.{begun, kept_below_closed}
use Rattle.rules.specs.Puncturing.{pattern_at}

begun_mono : {rate : ℕ} → LegalRate rate → (m n : ℕ) → m ≤ n
    → begun (pattern_length rate) m ≤ begun (pattern_length rate) n
unfolding pattern_length begun
begun_mono half m n h = omega arith
begun_mono two_thirds m n h = omega arith
begun_mono three_quarters m n h = omega arith
begun_mono five_sixths m n h = omega arith
begun_mono seven_eighths m n h = omega arith

pub kept_mono : {rate : ℕ} → LegalRate rate → (m n : ℕ) → m ≤ n → kept_below rate m ≤ kept_below rate n
kept_mono legal m n h = omega (arith, kept_below_closed legal m, kept_below_closed legal n, begun_mono legal m n h)

begun_least : {rate : ℕ} → LegalRate rate → (p : ℕ) → 1 ≤ p
    → begun (pattern_length rate) (1632 * (p - 1)) + 200 ≤ begun (pattern_length rate) (1632 * p)
unfolding pattern_length begun
begun_least half p h = omega arith
begun_least two_thirds p h = omega arith
begun_least three_quarters p h = omega arith
begun_least five_sixths p h = omega arith
begun_least seven_eighths p h = omega arith

begun_most : {rate : ℕ} → LegalRate rate → (p : ℕ) → 1 ≤ p
    → begun (pattern_length rate) (1632 * p) ≤ begun (pattern_length rate) (1632 * (p - 1)) + 1632
unfolding pattern_length begun
begun_most half p h = omega arith
begun_most two_thirds p h = omega arith
begun_most three_quarters p h = omega arith
begun_most five_sixths p h = omega arith
begun_most seven_eighths p h = omega arith

pub word_least : {rate : ℕ} → LegalRate rate → (p : ℕ) → 1 ≤ p
    → kept_below rate (1632 * (p - 1)) + 1832 ≤ kept_below rate (1632 * p)
word_least legal p h =
    omega (arith, kept_below_closed legal (1632 * (p - 1)), kept_below_closed legal (1632 * p), begun_least legal p h)

pub word_most : {rate : ℕ} → LegalRate rate → (p : ℕ) → 1 ≤ p
    → kept_below rate (1632 * p) ≤ kept_below rate (1632 * (p - 1)) + 3264
word_most legal p h =
    omega (arith, kept_below_closed legal (1632 * (p - 1)), kept_below_closed legal (1632 * p), begun_most legal p h)

-- ---- behind a whole number of patterns

begun_on : {rate : ℕ} → LegalRate rate → (n m : ℕ) → n % pattern_length rate ≡ 0
    → begun (pattern_length rate) (n + m) ≡ begun (pattern_length rate) n + begun (pattern_length rate) m
unfolding pattern_length begun
begun_on half n m h = omega arith
begun_on two_thirds n m h = omega arith
begun_on three_quarters n m h = omega arith
begun_on five_sixths n m h = omega arith
begun_on seven_eighths n m h = omega arith

pub kept_on : {rate : ℕ} → LegalRate rate → (n m : ℕ) → n % pattern_length rate ≡ 0
    → kept_below rate (n + m) ≡ kept_below rate n + kept_below rate m
kept_on legal n m h =
    omega (
      arith,
      kept_below_closed legal (n + m),
      kept_below_closed legal n,
      kept_below_closed legal m,
      begun_on legal n m h,
    )

place_on : {rate : ℕ} → LegalRate rate → (n m : ℕ) → n % pattern_length rate ≡ 0
    → (n + m) % pattern_length rate ≡ m % pattern_length rate
unfolding pattern_length
place_on half n m h = omega arith
place_on two_thirds n m h = omega arith
place_on three_quarters n m h = omega arith
place_on five_sixths n m h = omega arith
place_on seven_eighths n m h = omega arith

pub pattern_on : {rate : ℕ} → LegalRate rate → (n m : ℕ) → n % pattern_length rate ≡ 0
    → pattern_at rate (n + m) ≡ pattern_at rate m
unfolding pattern_at
pattern_on {rate} legal n m h = ap (λ (k : ℕ). get_or (pattern rate) k XY) (place_on legal n m h)

-- ---- rows

pub row_inside : {v : ℕ} → LegalBits v → (c rows : ℕ) → c + 120 * v < rows * v → c / v + 120 < rows
row_inside qpsk c rows h = omega arith
row_inside qam16 c rows h = omega arith
row_inside qam64 c rows h = omega arith

pub bits_few : {v : ℕ} → LegalBits v → (2 ≤ v) × (v ≤ 6)
bits_few qpsk = (omega arith, omega arith)
bits_few qam16 = (omega arith, omega arith)
bits_few qam64 = (omega arith, omega arith)

-- the last 120 rows, from their first bit on
pub last_row : {v : ℕ} → LegalBits v → (c rows : ℕ) → 120 ≤ rows → rows * v ≤ c + 120 * v → c < rows * v
    → ((c - (rows * v - 120 * v)) / v < 120)
    × ((rows - 120 + (c - (rows * v - 120 * v)) / v) * v + (c - (rows * v - 120 * v)) % v ≡ c)
last_row qpsk c rows h g lt = (omega arith, omega arith)
last_row qam16 c rows h g lt = (omega arith, omega arith)
last_row qam64 c rows h g lt = (omega arith, omega arith)
