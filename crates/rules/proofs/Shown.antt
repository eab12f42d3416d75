-- What a line shows, and the carriers.
--     line_early, line_late                 first the line's entries, then the kept bits that go to it
--     kept_shown, carrier_shows             each kept bit stands where the rule says: on its line, and in its carrier
--     line_bit_lt, carrier_lt               a line shows bits, and a carrier value is below 2^v
--     line_same, line_cong, carrier_cong    only the kept bits up to the carrier count
--     line_start                            the lines are empty at the start
use mathlib.Core.Path.{◌≡◌, refl, sym, ap, ◌∙◌}
use mathlib.Core.List.{List}
use Prim.Native.Nat.{ℕ, ◌+◌, ◌-◌, ◌*◌, ◌/◌, ◌%◌, ◌^◌, ◌<◌, ◌≤◌}
use native.Mathlib.Nat.{div-add-mod', mod-lt, mul-le-mul_right, add-mul, one-mul}
use native.Mathlib.Decide.{dec_lt}
use native.Mathlib.Omega.{arith}
use lib.ListN.{get_or, replicate, length-replicate, get_or-replicate, get_or-eq_default}
use borrow.Author.Tests.{lt-ltb, le-ltb}
use Rattle.lists.specs.Binary.{bit_of}
use Rattle.lists.proofs.Binaries.{binary_cong, binary_lt, binary_place}
use Rattle.rules.specs.Bits.{line_of, line_delay, delay_of, carrier_of, first_entry, lines_at_start, line_bit, carrier_at}

pub start_zero : (k : ℕ) → get_or lines_at_start k 0 ≡ 0
start_zero k = unfold lines_at_start in elim (dec_lt k 360) [
  | yes p ↦ get_or-replicate {A = ℕ} 360 k 0 0 p
  | no p ↦ get_or-eq_default (replicate {A = ℕ} 360 0) 0 {n = k} (omega (arith, length-replicate {A = ℕ} 360 0))
]

-- the place among the kept bits of bit l of symbol s is one of the first n × v
pub kept_below_is : (v n s l : ℕ) → s < n → l < v → s * v + l < n * v
kept_below_is v n s l h lt =
    let next : (s + 1) * v ≤ n * v = mul-le-mul_right v (omega arith) in
    let split : (s + 1) * v ≡ s * v + v = add-mul s 1 v ∙ ap (λ (x : ℕ). s * v + x) (one-mul v) in
    omega arith

back : (a d : ℕ) → a + d - d ≡ a
back a d = omega arith

reaches : (a d : ℕ) → d ≤ a + d
reaches a d = omega arith

module _ (v : ℕ) (lines : List ℕ) (kept : ℕ → ℕ) where
  pub line_early : (k l : ℕ) → k < delay_of v l → line_bit v lines kept k l ≡ get_or lines (first_entry v l + k) 0
  line_early k l h = unfold line_bit in simp (lt-ltb _ _ h)

  pub line_late : (k l : ℕ) → delay_of v l ≤ k → line_bit v lines kept k l ≡ kept ((k - delay_of v l) * v + l)
  line_late k l h = unfold line_bit in simp (le-ltb _ _ h)

  -- "Kept bit c of the frame goes to line c mod v. Its carrier is c divided by v, rounded down, plus (c mod v) ×
  -- 120/(v−1)."
  pub kept_shown : (c : ℕ) → line_bit v lines kept (carrier_of v c) (line_of v c) ≡ kept c
  kept_shown c =
      unfold carrier_of in line_late (c / v + delay_of v (c % v)) (c % v) (reaches (c / v) (delay_of v (c % v)))
      ∙ ap (λ (s : ℕ). kept (s * v + c % v)) (back (c / v) (delay_of v (c % v))) ∙ ap kept (div-add-mod' c v)

  module _ (entries : (k : ℕ) → get_or lines k 0 < 2) (bits : (c : ℕ) → kept c < 2) where
    pub line_bit_lt : (k l : ℕ) → line_bit v lines kept k l < 2
    line_bit_lt k l = elim (dec_lt k (delay_of v l)) [
      | yes p ↦ rw (line_early k l p) (entries (first_entry v l + k))
      | no p ↦ rw (line_late k l (omega arith)) (bits ((k - delay_of v l) * v + l))
    ]

    -- "A carrier value is one byte below 2^v."
    pub carrier_lt : (k : ℕ) → carrier_at v lines kept k < 2 ^ v
    carrier_lt k = unfold carrier_at in binary_lt v (line_bit v lines kept k) (line_bit_lt k)

    -- "Bit line 0 is the highest of its v bits."
    pub carrier_bit : (k l : ℕ) → l < v → bit_of v (carrier_at v lines kept k) l ≡ line_bit v lines kept k l
    carrier_bit k l h = unfold carrier_at in binary_place v l (line_bit v lines kept k) (line_bit_lt k) h

    -- Kept bit c is bit c mod v of its carrier.
    pub carrier_shows : (c : ℕ) → 0 < v → bit_of v (carrier_at v lines kept (carrier_of v c)) (line_of v c) ≡ kept c
    carrier_shows c h = carrier_bit (carrier_of v c) (line_of v c) (mod-lt c h) ∙ kept_shown c

-- "The lines are empty at the start: bit 0."
pub line_start : (v : ℕ) (kept : ℕ → ℕ) (k l : ℕ) → k < delay_of v l → line_bit v lines_at_start kept k l ≡ 0
line_start v kept k l h = line_early v lines_at_start kept k l h ∙ start_zero (first_entry v l + k)

-- ---- what counts

-- only the kept bit that the line shows counts
pub line_same : (v : ℕ) (lines : List ℕ) (kept other : ℕ → ℕ) (k l : ℕ)
    → (delay_of v l ≤ k → kept ((k - delay_of v l) * v + l) ≡ other ((k - delay_of v l) * v + l))
    → line_bit v lines kept k l ≡ line_bit v lines other k l
line_same v lines kept other k l h = elim (dec_lt k (delay_of v l)) [
  | yes p ↦ line_early v lines kept k l p ∙ sym (line_early v lines other k l p)
  | no p ↦
      let late : delay_of v l ≤ k = omega arith in
      line_late v lines kept k l late ∙ h late ∙ sym (line_late v lines other k l late)
]

-- so on n carriers the first n × v of them
pub line_cong : (v : ℕ) (lines : List ℕ) (kept other : ℕ → ℕ) (n : ℕ) → ((c : ℕ) → c < n * v → kept c ≡ other c)
    → (k l : ℕ) → l < v → k < n + delay_of v l → line_bit v lines kept k l ≡ line_bit v lines other k l
line_cong v lines kept other n h k l less lt =
    line_same v lines kept other k l
    (λ late. h ((k - delay_of v l) * v + l) (kept_below_is v n (k - delay_of v l) l (omega arith) less))

pub carrier_cong : (v : ℕ) (lines : List ℕ) (kept other : ℕ → ℕ) (n : ℕ) → ((c : ℕ) → c < n * v → kept c ≡ other c)
    → (k : ℕ) → k < n → carrier_at v lines kept k ≡ carrier_at v lines other k
carrier_cong v lines kept other n h k lt =
    unfold carrier_at in binary_cong v (line_bit v lines kept k) (line_bit v lines other k)
    (λ l less. line_cong v lines kept other n h k l less (omega arith))

-- ---- 16QAM: kept bits 0, 1, 2, 3 are on carriers 0, 40, 80, 120. 64QAM: kept bit 11 is on carrier 121

pub carrier_4_0 : carrier_of 4 0 ≡ 0
carrier_4_0 = unfold carrier_of line_delay in refl

pub carrier_4_1 : carrier_of 4 1 ≡ 40
carrier_4_1 = unfold carrier_of line_delay in refl

pub carrier_4_2 : carrier_of 4 2 ≡ 80
carrier_4_2 = unfold carrier_of line_delay in refl

pub carrier_4_3 : carrier_of 4 3 ≡ 120
carrier_4_3 = unfold carrier_of line_delay in refl

pub carrier_6_11 : carrier_of 6 11 ≡ 121
carrier_6_11 = unfold carrier_of line_delay in refl
