-- A pattern of L message bits keeps both coded bits of its first and one of each other, so the message bits below n
-- keep n and, for each pattern begun, one more.
--     pattern_length_bounds     a legal rate's pattern has 1 to 7 message bits
--     kept_below_closed         the closed form of `kept_below`
--     pattern_legal             a number that has a pattern is a legal rate
--     kept_below_none           one that has none keeps nothing
use mathlib.Core.Path.{◌≡◌, refl}
use mathlib.Core.Bool.{Bool, cond}
use mathlib.Core.List.{List, [], ◌∷◌}
use Prim.Native.Nat.{ℕ, zero, suc, ◌+◌, ◌-◌, ◌/◌, ◌%◌, ◌≤◌}
use native.Mathlib.Nat.{mod-lt}
use native.Mathlib.Omega.{arith}
use native.Mathlib.Decide.{ℕ_discrete}
use lib.Dec.{T, eqb, eqb→eq}
use lib.ListN.{length}
use borrow.Author.Tests.{eq-eqb, ne_eqb}
use Rattle.lists.proofs.Every.{every, at}
use Rattle.settings.specs.Patterns.{Kept, pattern, pattern_length, kept_at, kept_of, kept_below}
use Rattle.settings.proofs.LegalSettings.{LegalRate, half, two_thirds, three_quarters, five_sixths}
use Rattle.settings.proofs.LegalSettings.{seven_eighths}

pub pattern_length_bounds : {rate : ℕ} → LegalRate rate → (1 ≤ pattern_length rate) × (pattern_length rate ≤ 7)
unfolding pattern_length
pattern_length_bounds half = (omega arith, omega arith)
pattern_length_bounds two_thirds = (omega arith, omega arith)
pattern_length_bounds three_quarters = (omega arith, omega arith)
pattern_length_bounds five_sixths = (omega arith, omega arith)
pattern_length_bounds seven_eighths = (omega arith, omega arith)

-- place 0 keeps two bits and any other one
test : ℕ → ℕ → Bool
test rate place = eqb (kept_at (pattern rate) place) (cond (eqb place 0) 2 1)

tested : {rate : ℕ} → LegalRate rate → T (every (test rate) (pattern_length rate))
unfolding test pattern_length
tested half = tt
tested two_thirds = tt
tested three_quarters = tt
tested five_sixths = tt
tested seven_eighths = tt

-- a message bit keeps two bits where a pattern begins, and one elsewhere
kept_of_is : {rate : ℕ} → LegalRate rate → (n : ℕ) → kept_of rate n ≡ cond (eqb (n % pattern_length rate) 0) 2 1
unfolding kept_of test
kept_of_is {rate} legal n =
    eqb→eq _ _ (at (test rate) (pattern_length rate) (tested legal) (n % pattern_length rate)
    (mod-lt n (pattern_length_bounds legal).0))

-- the number of patterns begun below n
unfoldable pub begun : ℕ → ℕ → ℕ
begun length n = (n + (length - 1)) / length

begun_first : {rate : ℕ} → LegalRate rate → (n : ℕ) → n % pattern_length rate ≡ 0
    → begun (pattern_length rate) (suc n) ≡ begun (pattern_length rate) n + 1
unfolding begun pattern_length
begun_first half n e = omega arith
begun_first two_thirds n e = omega arith
begun_first three_quarters n e = omega arith
begun_first five_sixths n e = omega arith
begun_first seven_eighths n e = omega arith

begun_other : {rate : ℕ} → LegalRate rate → (n : ℕ) → (n % pattern_length rate ≡ 0 → ⊥)
    → begun (pattern_length rate) (suc n) ≡ begun (pattern_length rate) n
unfolding begun pattern_length
begun_other half n e = omega arith
begun_other two_thirds n e = omega arith
begun_other three_quarters n e = omega arith
begun_other five_sixths n e = omega arith
begun_other seven_eighths n e = omega arith

begun_none : {rate : ℕ} → LegalRate rate → begun (pattern_length rate) 0 ≡ 0
unfolding begun pattern_length
begun_none half = refl
begun_none two_thirds = refl
begun_none three_quarters = refl
begun_none five_sixths = refl
begun_none seven_eighths = refl

-- The message bits below n keep n bits, and one more for each pattern begun.
pub kept_below_closed : {rate : ℕ} → LegalRate rate → (n : ℕ) → kept_below rate n ≡ n + begun (pattern_length rate) n
unfolding kept_below
kept_below_closed legal zero = let none = begun_none legal in omega arith
kept_below_closed {rate} legal (suc n) =
    go (ℕ_discrete (n % pattern_length rate) 0) (kept_below_closed legal n) (kept_of_is legal n)
  where
    go : Dec (n % pattern_length rate ≡ 0) → kept_below rate n ≡ n + begun (pattern_length rate) n
        → kept_of rate n ≡ cond (eqb (n % pattern_length rate) 0) 2 1
        → kept_below rate n + kept_of rate n ≡ suc n + begun (pattern_length rate) (suc n)
    go (yes e) before kept = let two = rw (eq-eqb _ 0 e) at kept in let more = begun_first legal n e in omega arith
    go (no e) before kept = let one = rw (ne_eqb _ 0 e) at kept in let more = begun_other legal n e in omega arith

pub pattern_legal : (rate : ℕ) → (pattern_length rate ≡ 0 → ⊥) → LegalRate rate
unfolding pattern_length
pattern_legal zero some = absurd (some refl)
pattern_legal (suc zero) some = half
pattern_legal (suc (suc zero)) some = two_thirds
pattern_legal (suc (suc (suc zero))) some = three_quarters
pattern_legal (suc (suc (suc (suc zero)))) some = five_sixths
pattern_legal (suc (suc (suc (suc (suc zero))))) some = seven_eighths
pattern_legal (suc (suc (suc (suc (suc (suc rate)))))) some = absurd (some refl)

kept_at_none : (places : List Kept) (n : ℕ) → length places ≡ 0 → kept_at places n ≡ 0
kept_at_none [] n e = refl
kept_at_none (kept ∷ rest) n e = absurd (omega arith)

pub kept_below_none : (rate n : ℕ) → pattern_length rate ≡ 0 → kept_below rate n ≡ 0
unfolding kept_below kept_of pattern_length
kept_below_none rate zero e = refl
kept_below_none rate (suc n) e =
    let before = kept_below_none rate n e in
    let none = kept_at_none (pattern rate) (n % pattern_length rate) e in
    omega arith
