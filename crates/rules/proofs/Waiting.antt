-- Going back, the lines in the paper's words: "The line delays are made up to 120 carriers in all and the first 120
-- positions are dropped."
--     made_up_to_120        a line's delay and its wait are 120 carriers together
--     first_120_dropped     the positions from 120 on show the kept bits in their order, whatever the lines held
use mathlib.Core.Path.{◌≡◌, ap}
use mathlib.Core.List.{List}
use Prim.Native.Nat.{ℕ, ◌+◌, ◌-◌, ◌/◌, ◌%◌, ◌<◌}
use native.Mathlib.Nat.{mod-lt}
use native.Mathlib.Omega.{arith}
use borrow.Author.Tests.{le-ltb}
use Rattle.rules.specs.Bits.{line_of, delay_of, carrier_of, wait_of}
use Rattle.rules.specs.Back.{line_digit, received_digit, shown_by}
use Rattle.rules.proofs.Widths.{delay_most}

pub made_up_to_120 : (v l : ℕ) → l < v → delay_of v l + wait_of v l ≡ 120
unfolding wait_of
made_up_to_120 v l less = omega (arith, delay_most v l less)

-- position 120 + s is where the kept bits s × v, .., s × v + v − 1 come out
pub first_120_dropped : (v : ℕ) → 0 < v → (lines carriers : List ℕ) (c : ℕ)
    → shown_by v lines carriers (120 + c / v) (line_of v c) ≡ received_digit v carriers c
unfolding shown_by received_digit carrier_of wait_of
first_120_dropped v some lines carriers c =
    let most = delay_most v (c % v) (mod-lt c some) in
    let place : 120 + c / v - (120 - delay_of v (c % v)) ≡ c / v + delay_of v (c % v) = omega arith in
    rw (le-ltb (120 + c / v) (120 - delay_of v (c % v)) (omega arith))
    (ap (λ (k : ℕ). line_digit v carriers k (c % v)) place)
