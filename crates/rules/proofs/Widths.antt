-- The numbers of bits of a carrier, 2, 4 and 6.
--     delay_most                        no line delays by more than 120 carriers
--     fits_two, fits_four, fits_six     their lines fit
use mathlib.Core.Bool.{Bool, true, false}
use Prim.Native.Nat.{ℕ, ◌-◌, ◌*◌, ◌/◌, ◌<◌, ◌≤◌}
use native.Mathlib.Nat.{mul-div-le, mul-le-mul_right}
use native.Mathlib.Omega.{arith}
use Rattle.lists.specs.Tab.{piece_start}
use Rattle.rules.specs.Bits.{line_delay, delay_of, wait_of}
use Rattle.rules.proofs.Entries.{Fits}

pub delay_most : (v l : ℕ) → l < v → delay_of v l ≤ 120
unfolding line_delay
delay_most v l h =
    let a : l * (120 / (v - 1)) ≤ (v - 1) * (120 / (v - 1)) = mul-le-mul_right (120 / (v - 1)) (omega arith) in
    let b = mul-div-le 120 (v - 1) in
    omega arith

pub fits_two : (back : Bool) → Fits back 2
unfolding piece_start line_delay wait_of
fits_two false = record { few = omega arith; short = delay_most 2; room = omega arith }
fits_two true = record { few = omega arith; short = λ l h. omega arith; room = omega arith }

pub fits_four : (back : Bool) → Fits back 4
unfolding piece_start line_delay wait_of
fits_four false = record { few = omega arith; short = delay_most 4; room = omega arith }
fits_four true = record { few = omega arith; short = λ l h. omega arith; room = omega arith }

pub fits_six : (back : Bool) → Fits back 6
unfolding piece_start line_delay wait_of
fits_six false = record { few = omega arith; short = delay_most 6; room = omega arith }
fits_six true = record { few = omega arith; short = λ l h. omega arith; room = omega arith }
