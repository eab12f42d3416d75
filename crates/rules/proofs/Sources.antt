-- Which message bit a kept bit is of, by its number in the pattern.
--     place_of                    the message bit that a pattern's kept bit is of
--     source_of, kept_is_x        the message bit that kept bit c of a frame is of, and whether it is its X
--     indexed_bit                 kept bit c by these; `kept_is` in Punctured.antt says that it is `kept_bit`
--     indexed_as                  which coded bit it is
--     place_of_is, source_is      by its number in the pattern, and by its number in the frame
--     source_at, is_x_at          of the kept bit at a place of a pattern
--     source_lt, source_ge        the kept bits below kept_below rate n are those of the message bits below n
--     source_from, source_to      so kept bit c stands among those of its message bit
--     source_block, is_x_block    24 kept bits further on it is M message bits further on
--     source_in_block             the first 24 kept bits are of the first M message bits
use mathlib.Core.Path.{◌≡◌, refl, ap, ap₂, ◌∙◌}
use mathlib.Core.Bool.{Bool, true, false, cond}
use mathlib.Core.List.{List}
use Prim.Native.Nat.{ℕ, zero, suc, ◌+◌, ◌-◌, ◌*◌, ◌/◌, ◌%◌, ◌≤◌, ◌<◌}
use native.Mathlib.Decide.{dec_lt}
use native.Mathlib.Omega.{arith}
use lib.Arith.{digits_div, digits_mod}
use lib.ListN.{get_or}
use Rattle.settings.specs.Sizes.{packets_by_rate}
use Rattle.settings.specs.Patterns.{Kept, XY, X, Y, pattern, pattern_length, kept_below}
use Rattle.settings.proofs.LegalSettings.{LegalRate, half, two_thirds, three_quarters, five_sixths, seven_eighths}
use Rattle.settings.proofs.Patterns.{begun, kept_below_closed}
use Rattle.rules.specs.Code.{coded_x, coded_y}

-- A pattern of L message bits keeps L + 1 bits: both of its first message bit, and one of each other. By their number
-- in the pattern, number 0 is X of message bit 0, and number n + 1 the last of message bit n.
unfoldable pub place_of : ℕ → ℕ
place_of zero = zero
place_of (suc n) = n

unfoldable pub source_of : ℕ → ℕ → ℕ
source_of rate c = let length = pattern_length rate in c / (length + 1) * length + place_of (c % (length + 1))

-- whether the last bit kept of a message bit is its X
abbrev pub last_is_x : Kept → Bool
last_is_x XY = false
last_is_x X = true
last_is_x Y = false

-- whether a kept bit is X, by its number in the pattern
abbrev pub is_x : List Kept → ℕ → Bool
is_x places zero = true
is_x places (suc n) = last_is_x (get_or places n XY)

unfoldable pub kept_is_x : ℕ → ℕ → Bool
kept_is_x rate c = is_x (pattern rate) (c % (pattern_length rate + 1))

unfoldable pub indexed_bit : ℕ → ℕ → (ℕ → ℕ) → ℕ → ℕ
indexed_bit rate register message c =
    cond (kept_is_x rate c) (coded_x register message (source_of rate c)) (coded_y register message (source_of rate c))

pub indexed_as : (rate register : ℕ) (message : ℕ → ℕ) (c : ℕ) (x : Bool) → kept_is_x rate c ≡ x
    → indexed_bit rate register message c
    ≡ cond x (coded_x register message (source_of rate c)) (coded_y register message (source_of rate c))
indexed_as rate register message c x e = unfold indexed_bit in rw e refl

pub place_of_is : (n : ℕ) → place_of n ≡ n - 1
unfolding place_of
place_of_is zero = omega arith
place_of_is (suc n) = omega arith

pub source_is : (rate c : ℕ)
    → source_of rate c ≡ c / (pattern_length rate + 1) * pattern_length rate + (c % (pattern_length rate + 1) - 1)
source_is rate c = unfold source_of in rw (place_of_is (c % (pattern_length rate + 1))) (omega arith)

module _ (rate q place : ℕ) (few : place < pattern_length rate + 1) where
  pub source_at : source_of rate (q * (pattern_length rate + 1) + place) ≡ q * pattern_length rate + (place - 1)
  source_at =
      source_is rate _ ∙ ap₂ (λ (x y : ℕ). x * pattern_length rate + (y - 1)) (digits_div q few) (digits_mod q few)

  pub is_x_at : kept_is_x rate (q * (pattern_length rate + 1) + place) ≡ is_x (pattern rate) place
  is_x_at = unfold kept_is_x in ap (is_x (pattern rate)) (digits_mod q few)

pub source_lt : {rate : ℕ} → LegalRate rate → (c n : ℕ) → c < kept_below rate n → source_of rate c < n
unfolding pattern_length begun
source_lt half c n h = let e = kept_below_closed half n in rw source_is (omega arith)
source_lt two_thirds c n h = let e = kept_below_closed two_thirds n in rw source_is (omega arith)
source_lt three_quarters c n h = let e = kept_below_closed three_quarters n in rw source_is (omega arith)
source_lt five_sixths c n h = let e = kept_below_closed five_sixths n in rw source_is (omega arith)
source_lt seven_eighths c n h = let e = kept_below_closed seven_eighths n in rw source_is (omega arith)

pub source_ge : {rate : ℕ} → LegalRate rate → (c n : ℕ) → kept_below rate n ≤ c → n ≤ source_of rate c
unfolding pattern_length begun
source_ge half c n h = let e = kept_below_closed half n in rw source_is (omega arith)
source_ge two_thirds c n h = let e = kept_below_closed two_thirds n in rw source_is (omega arith)
source_ge three_quarters c n h = let e = kept_below_closed three_quarters n in rw source_is (omega arith)
source_ge five_sixths c n h = let e = kept_below_closed five_sixths n in rw source_is (omega arith)
source_ge seven_eighths c n h = let e = kept_below_closed seven_eighths n in rw source_is (omega arith)

module _ {rate : ℕ} (legal : LegalRate rate) (c : ℕ) where
  pub source_from : kept_below rate (source_of rate c) ≤ c
  source_from = elim (dec_lt c (kept_below rate (source_of rate c))) [
    | yes below ↦ absurd (omega (arith, source_lt legal c (source_of rate c) below))
    | no from ↦ omega arith
  ]

  pub source_to : c < kept_below rate (suc (source_of rate c))
  source_to = elim (dec_lt c (kept_below rate (suc (source_of rate c)))) [
    | yes below ↦ below
    | no from ↦ absurd (omega (arith, source_ge legal c (suc (source_of rate c)) (omega arith)))
  ]

pub source_block : {rate : ℕ} → LegalRate rate → (s i : ℕ)
    → source_of rate (24 * s + i) ≡ packets_by_rate rate * s + source_of rate i
unfolding pattern_length packets_by_rate
source_block half s i = simp source_is (omega arith)
source_block two_thirds s i = simp source_is (omega arith)
source_block three_quarters s i = simp source_is (omega arith)
source_block five_sixths s i = simp source_is (omega arith)
source_block seven_eighths s i = simp source_is (omega arith)

number_block : {rate : ℕ} → LegalRate rate → (s i : ℕ)
    → (24 * s + i) % (pattern_length rate + 1) ≡ i % (pattern_length rate + 1)
unfolding pattern_length
number_block half s i = omega arith
number_block two_thirds s i = omega arith
number_block three_quarters s i = omega arith
number_block five_sixths s i = omega arith
number_block seven_eighths s i = omega arith

pub is_x_block : {rate : ℕ} → LegalRate rate → (s i : ℕ) → kept_is_x rate (24 * s + i) ≡ kept_is_x rate i
unfolding kept_is_x
is_x_block {rate} legal s i = ap (is_x (pattern rate)) (number_block legal s i)

pub source_in_block : {rate : ℕ} → LegalRate rate → (i : ℕ) → i < 24 → source_of rate i < packets_by_rate rate
unfolding pattern_length packets_by_rate
source_in_block half i h = rw source_is (omega arith)
source_in_block two_thirds i h = rw source_is (omega arith)
source_in_block three_quarters i h = rw source_is (omega arith)
source_in_block five_sixths i h = rw source_is (omega arith)
source_in_block seven_eighths i h = rw source_is (omega arith)
