-- The digits of a number.
--     length_digits                        as many as are asked for
--     rest_none, rest_more, digit_here     the digit at a place, from what is left of the number when the lower ones
--                                          are gone
use mathlib.Core.Path.{◌≡◌, refl, sym, ap, ◌∙◌}
use Prim.Native.Nat.{ℕ, suc, ◌-◌, ◌/◌, ◌%◌, ◌^◌, ◌≤◌, ◌<◌}
use native.Mathlib.Nat.{pow-suc, div-div-eq-div-mul}
use native.Mathlib.Omega.{arith}
use lib.ListN.{length}
use Rattle.lists.proofs.Tabs.{length_tab}
use Rattle.hexadecimal.specs.Digits.{digit_of, digit_at, digits_of}

pub length_digits : (count number : ℕ) → length (digits_of count number) ≡ count
length_digits count number = unfold digits_of in length_tab count (λ place. digit_at number (count - 1 - place))

pub rest_none : (number count : ℕ) → number ≡ number / 16 ^ (count - count)
rest_none number count = let z : count - count ≡ 0 = omega arith in rw z (omega arith)

-- `left` of `count` digits are still to be written
pub rest_more : (number count left rest : ℕ) → 0 < left → left ≤ count → rest ≡ number / 16 ^ (count - left)
    → rest / 16 ≡ number / 16 ^ (count - (left - 1))
rest_more number count left rest some few e =
    let one : count - (left - 1) ≡ suc (count - left) = omega arith in
    ap (λ (r : ℕ). r / 16) e ∙ div-div-eq-div-mul number (16 ^ (count - left)) 16
    ∙ ap (λ (m : ℕ). number / m) (sym (pow-suc 16 (count - left)) ∙ ap (λ (k : ℕ). 16 ^ k) (sym one))

pub digit_here : (number count left rest : ℕ) → 0 < left → left ≤ count → rest ≡ number / 16 ^ (count - left)
    → digit_of (rest % 16) ≡ digit_at number (count - 1 - (left - 1))
digit_here number count left rest some few e =
    unfold digit_at in let place : count - 1 - (left - 1) ≡ count - left = omega arith in
    rw (place, e) refl
