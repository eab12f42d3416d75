-- Each block of a rate is like the first: what its message bits keep, and where.
--     pattern_block, kept_block     the pattern, and the kept bits, in block s
--     kept_first, kept_second       the kept bits of a block's message bits are below 24
--     kept_few                      and those of 24 message bits below 63
--     kind_both                     a message bit keeps both where a pattern begins
--     kind_first, kind_other        what a message bit keeps, from the bits of a number
use mathlib.Core.Path.{◌≡◌, refl, sym, ap, ◌∙◌}
use mathlib.Core.Bool.{Bool, cond}
use mathlib.Core.List.{List, [], ◌∷◌}
use Prim.Native.Nat.{ℕ, ◌+◌, ◌-◌, ◌*◌, ◌/◌, ◌%◌, ◌^◌, ◌<◌, ◌≤◌}
use native.Mathlib.Nat.{mod-lt}
use native.Mathlib.Omega.{arith}
use native.Mathlib.Decide.{ℕ_discrete}
use lib.Dec.{T, eqb, eqb→eq}
use lib.ListN.{get_or}
use borrow.Author.Tests.{eq-eqb, ne_eqb}
use Rattle.lists.proofs.Every.{every, at}
use Rattle.settings.specs.Patterns.{XY, pattern, pattern_length, kept_below}
use Rattle.settings.specs.Sizes.{packets_by_rate}
use Rattle.settings.proofs.LegalSettings.{LegalRate, half, two_thirds, three_quarters, five_sixths, seven_eighths}
use Rattle.settings.proofs.Patterns.{begun, kept_below_closed, pattern_length_bounds}
use Rattle.rules.specs.Puncturing.{pattern_at}
use Rattle.received_bits.specs.Steps.{kind_of}

number_block : {rate : ℕ} → LegalRate rate → (s i : ℕ)
    → (packets_by_rate rate * s + i) % pattern_length rate ≡ i % pattern_length rate
unfolding pattern_length packets_by_rate
number_block half s i = omega arith
number_block two_thirds s i = omega arith
number_block three_quarters s i = omega arith
number_block five_sixths s i = omega arith
number_block seven_eighths s i = omega arith

pub pattern_block : {rate : ℕ} → LegalRate rate → (s i : ℕ)
    → pattern_at rate (packets_by_rate rate * s + i) ≡ pattern_at rate i
unfolding pattern_at
pattern_block {rate} legal s i = ap (λ (place : ℕ). get_or (pattern rate) place XY) (number_block legal s i)

begun_block : {rate : ℕ} → LegalRate rate → (s i : ℕ)
    → packets_by_rate rate * s + i + begun (pattern_length rate) (packets_by_rate rate * s + i)
    ≡ 24 * s + (i + begun (pattern_length rate) i)
unfolding pattern_length packets_by_rate begun
begun_block half s i = omega arith
begun_block two_thirds s i = omega arith
begun_block three_quarters s i = omega arith
begun_block five_sixths s i = omega arith
begun_block seven_eighths s i = omega arith

pub kept_block : {rate : ℕ} → LegalRate rate → (s i : ℕ)
    → kept_below rate (packets_by_rate rate * s + i) ≡ 24 * s + kept_below rate i
kept_block {rate} legal s i =
    let whole = kept_below_closed legal (packets_by_rate rate * s + i) in
    let first = kept_below_closed legal i in
    let e = begun_block legal s i in
    omega arith

begun_few : {rate : ℕ} → LegalRate rate → (i : ℕ) → i < packets_by_rate rate
    → i + begun (pattern_length rate) i < 24
unfolding pattern_length packets_by_rate begun
begun_few half i h = omega arith
begun_few two_thirds i h = omega arith
begun_few three_quarters i h = omega arith
begun_few five_sixths i h = omega arith
begun_few seven_eighths i h = omega arith

pub kept_first : {rate : ℕ} → LegalRate rate → (i : ℕ) → i < packets_by_rate rate → kept_below rate i < 24
kept_first {rate} legal i h = let e = kept_below_closed legal i in let few = begun_few legal i h in omega arith

begun_two : {rate : ℕ} → LegalRate rate → (i : ℕ) → i < packets_by_rate rate → i % pattern_length rate ≡ 0
    → i + begun (pattern_length rate) i + 1 < 24
unfolding pattern_length packets_by_rate begun
begun_two half i h e = omega arith
begun_two two_thirds i h e = omega arith
begun_two three_quarters i h e = omega arith
begun_two five_sixths i h e = omega arith
begun_two seven_eighths i h e = omega arith

-- the places of each pattern that keep X alone, the first lowest
abbrev rows : List ℕ
rows = 0 ∷ 0 ∷ 0 ∷ 0b100 ∷ 0b10100 ∷ 0b1010000 ∷ []

test : ℕ → ℕ → Bool
test rate place =
    eqb (cond (eqb place 0) 0 (2 - get_or rows rate 0 / 2 ^ place % 2)) (kind_of (get_or (pattern rate) place XY))

tested : {rate : ℕ} → LegalRate rate → T (every (test rate) (pattern_length rate))
unfolding test pattern_length
tested half = tt
tested two_thirds = tt
tested three_quarters = tt
tested five_sixths = tt
tested seven_eighths = tt

kind_at : {rate : ℕ} → LegalRate rate → (n : ℕ)
    → cond (eqb (n % pattern_length rate) 0) 0 (2 - get_or rows rate 0 / 2 ^ (n % pattern_length rate) % 2)
    ≡ kind_of (pattern_at rate n)
unfolding pattern_at test
kind_at {rate} legal n =
    eqb→eq _ _ (at (test rate) (pattern_length rate) (tested legal) (n % pattern_length rate)
    (let some = (pattern_length_bounds legal).0 in mod-lt n (omega arith)))

pub kind_first : {rate : ℕ} → LegalRate rate → (n length : ℕ) → length ≡ pattern_length rate → n % length ≡ 0
    → 0 ≡ kind_of (pattern_at rate n)
kind_first {rate} legal n length e first =
    rw (eq-eqb _ 0 (ap (λ (k : ℕ). n % k) (sym e) ∙ first)) at (kind_at legal n)

pub kind_other : {rate : ℕ} → LegalRate rate → (n length : ℕ) → length ≡ pattern_length rate → (n % length ≡ 0 → ⊥)
    → 2 - get_or rows rate 0 / 2 ^ (n % length) % 2 ≡ kind_of (pattern_at rate n)
kind_other {rate} legal n length e other =
    rw e (rw (ne_eqb _ 0 (λ z. other (ap (λ (k : ℕ). n % k) e ∙ z))) at (kind_at legal n))

-- where a message bit keeps both, a pattern begins
pub kind_both : {rate : ℕ} → LegalRate rate → (n : ℕ) → pattern_at rate n ≡ XY → n % pattern_length rate ≡ 0
kind_both {rate} legal n e = elim (ℕ_discrete (n % pattern_length rate) 0) [
  | yes z ↦ z
  | no other ↦
      let two = kind_other legal n (pattern_length rate) refl other in
      let none = ap kind_of e in
      absurd (omega arith)
]

pub kept_second : {rate : ℕ} → LegalRate rate → (i : ℕ) → i < packets_by_rate rate → pattern_at rate i ≡ XY
    → kept_below rate i + 1 < 24
kept_second {rate} legal i h e =
    let closed = kept_below_closed legal i in
    let few = begun_two legal i h (kind_both legal i e) in
    omega arith

pub begun_most : {rate : ℕ} → LegalRate rate → (n : ℕ) → begun (pattern_length rate) n ≤ n
unfolding pattern_length begun
begun_most half n = omega arith
begun_most two_thirds n = omega arith
begun_most three_quarters n = omega arith
begun_most five_sixths n = omega arith
begun_most seven_eighths n = omega arith

pub kept_few : {rate : ℕ} → LegalRate rate → (n : ℕ) → n < 24 → kept_below rate n + 1 < 64
kept_few {rate} legal n h =
    let closed = kept_below_closed legal n in let most = begun_most legal n in omega arith
