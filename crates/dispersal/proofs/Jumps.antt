-- The register many words on, by a jump: a sum of registers a few steps on.
--     mixed_lt           a jump gives fifteen bits
--     steps_register     steps of the register
--     jumps              `JUMPS` of src/lib.rt
--     register_jump      number k of them goes 2 ^ k words on
--     register_again     after 32767 words the register is the same
use mathlib.Core.Path.{◌≡◌, refl, sym, ap, ap₂, ◌∙◌}
use mathlib.Core.List.{List, [], ◌∷◌}
use Prim.Native.Nat.{ℕ, zero, suc, ◌+◌, ◌-◌, ◌*◌, ◌/◌, ◌%◌, ◌^◌, ◌≤◌, ◌<◌}
use native.Mathlib.Nat.{zero-mul, one-mul, add-zero, pow-suc, mul_comm, mod-eq_of_lt, div-div-eq-div-mul}
use native.Mathlib.Numerals.{add-one}
use native.Mathlib.Omega.{arith}
use lib.Arith.{mod-mul}
use lib.Pow.{pow_pos}
use lib.Bits.{bit_xor, xor_block, xor_mod, xor_shr, xor_lt}
use lib.Dec.{eqb, eqb→eq}
use lib.ListN.{get_or}
use Rattle.lists.specs.Binary.{binary}
use Rattle.lists.proofs.Every.{at as each}
use Rattle.lists.proofs.Xor.{bit_cases, xor_exchange}
use Rattle.rules.specs.Dispersal.{load, held}
use Rattle.dispersal.specs.Register.{stages_of, register_from, generator_at}
use Rattle.dispersal.specs.Steps.{step, steps, mixed}
use Rattle.rules.proofs.Tape.{Digits}
use Rattle.rules.proofs.DispersedWords.{load_digits}
use Rattle.dispersal.proofs.Registers.{stages_digits, register_lt, register_step, register_ahead}
use Rattle.dispersal.proofs.Registers.{register_stages}

unfoldable pub jumps : List ℕ
jumps =
    10466 ∷ 19844 ∷ 8694 ∷ 19730 ∷ 24802 ∷ 11268 ∷ 6640 ∷ 21126 ∷ 9740 ∷ 6184 ∷ 960 ∷ 20510 ∷ 26452 ∷ 26990 ∷ 28114
    ∷ []

jump : ℕ → ℕ
jump k = get_or jumps k 0

-- ---- a step is linear

step_xor : (a b : ℕ) → step (bit_xor a b) ≡ bit_xor (step a) (step b)
unfolding step
step_xor a b =
    ap₂ (λ (x y : ℕ). x * 2 + y) (xor_mod a b 14) (ap₂ (λ (x y : ℕ). bit_xor x y) (digit 13) (digit 14)
    ∙ xor_exchange (a / 8192 % 2) (b / 8192 % 2) (a / 16384 % 2) (b / 16384 % 2))
    ∙ sym (xor_block 1 (a % 16384) (b % 16384) _ _ (small a) (small b))
  where
    digit : (k : ℕ) → bit_xor a b / 2 ^ k % 2 ≡ bit_xor (a / 2 ^ k % 2) (b / 2 ^ k % 2)
    digit k = ap (λ (x : ℕ). x % 2) (xor_shr a b k) ∙ xor_mod (a / 2 ^ k) (b / 2 ^ k) 1

    small : (c : ℕ) → bit_xor (c / 8192 % 2) (c / 16384 % 2) < 2
    small c = xor_lt 1 (c / 8192 % 2) (c / 16384 % 2) (omega arith) (omega arith)

step_zero : step 0 ≡ 0
step_zero = unfold step in refl

step_times : (x r : ℕ) → x < 2 → step (x * r) ≡ x * step r
step_times x r =
    bit_cases (λ (u : ℕ). step (u * r) ≡ u * step r) (ap step (zero-mul r) ∙ step_zero ∙ sym (zero-mul (step r)))
    (ap step (one-mul r) ∙ sym (one-mul (step r))) x

steps_later : (n register : ℕ) → steps n (step register) ≡ step (steps n register)
unfolding steps
steps_later zero register = refl
steps_later (suc n) register = ap step (steps_later n register)

mixed_step : (number i register : ℕ) → step (mixed number i register) ≡ mixed number i (step register)
unfolding mixed
mixed_step number zero register = step_zero
mixed_step number (suc i) register =
    step_xor (mixed number i register) (number / 2 ^ i % 2 * steps i register)
    ∙ ap₂ (λ (x y : ℕ). bit_xor x y) (mixed_step number i register)
    (step_times (number / 2 ^ i % 2) (steps i register) (omega arith)
    ∙ ap (λ (x : ℕ). number / 2 ^ i % 2 * x) (sym (steps_later i register)))

-- ---- on the register

pub steps_register : (start : List ℕ) → Digits start → (n m : ℕ)
    → steps m (register_from start n) ≡ register_from start (n + m)
unfolding steps
steps_register start digits n zero = ap (register_from start) (sym (add-zero n))
steps_register start digits n (suc m) =
    ap step (steps_register start digits n m) ∙ sym (register_step start digits (n + m))
    ∙ ap (register_from start) (omega arith)

register_load : register_from load 0 ≡ 169
register_load = unfold register_from held binary in refl

-- a number below 32768 is a register
itself : (register : ℕ) → register < 32768 → register_from (stages_of register) 0 ≡ register
itself register h = register_stages register ∙ mod-eq_of_lt h

pub steps_ahead : (register i : ℕ) → register < 32768 → i ≤ 14
    → (register * 16384 + bit_xor register (register / 2) % 16384) / 2 ^ (14 - i) % 32768 ≡ steps i register
steps_ahead register i h few =
    ap (λ (r : ℕ). (r * 16384 + bit_xor r (r / 2) % 16384) / 2 ^ (14 - i) % 32768) (sym (itself register h))
    ∙ register_ahead (stages_of register) (stages_digits register) 0 i few
    ∙ sym (steps_register (stages_of register) (stages_digits register) 0 i) ∙ ap (steps i) (itself register h)

pub bit_times_lt : (x a : ℕ) → x < 2 → a < 32768 → x * a < 32768
bit_times_lt x a h k = bit_cases (λ (u : ℕ). u * a < 32768) (omega arith) (omega arith) x h

pub mixed_lt : (number i register : ℕ) → register < 32768 → mixed number i register < 32768
unfolding mixed
mixed_lt number zero register h = omega arith
mixed_lt number (suc i) register h =
    xor_lt 15 (mixed number i register) (number / 2 ^ i % 2 * steps i register) (mixed_lt number i register h)
    (bit_times_lt (number / 2 ^ i % 2) (steps i register) (omega arith) small)
  where
    small : steps i register < 32768
    small =
        let e = ap (steps i) (sym (itself register h))
        ∙ steps_register (stages_of register) (stages_digits register) 0 i in
        rw e (register_lt (stages_of register) (stages_digits register) (0 + i))

-- what a number does to the load it does to every register of the frame
from_load : (number far : ℕ) → register_from load far ≡ mixed number 15 (register_from load 0)
    → (n : ℕ) → register_from load (n + far) ≡ mixed number 15 (register_from load n)
from_load number far e zero = ap (register_from load) (omega arith) ∙ e
from_load number far e (suc n) =
    ap (register_from load) (omega arith) ∙ register_step load load_digits (n + far) ∙ ap step
    (from_load number far e n)
    ∙ mixed_step number 15 (register_from load n)
    ∙ ap (mixed number 15) (sym (register_step load load_digits n) ∙ ap (register_from load) (add-one n))

-- ---- computed

tested_word : steps 1632 169 ≡ mixed (jump 0) 15 169
tested_word = unfold steps step mixed jump jumps in eqb→eq (steps 1632 169) (mixed (jump 0) 15 169) tt

-- each number goes twice as far as the one before it
tested_twice : (k : ℕ) → k < 14 → mixed (jump k) 15 (mixed (jump k) 15 169) ≡ mixed (jump (suc k)) 15 169
unfolding steps step mixed jump jumps
tested_twice k h =
    eqb→eq (mixed (jump k) 15 (mixed (jump k) 15 169)) (mixed (jump (suc k)) 15 169)
    (each (λ (i : ℕ). eqb (mixed (jump i) 15 (mixed (jump i) 15 169)) (mixed (jump (suc i)) 15 169)) 14 tt k h)

-- the load after the jumps below k
after_jumps : ℕ → ℕ
after_jumps zero = 169
after_jumps (suc k) = mixed (jump k) 15 (after_jumps k)

tested_again : after_jumps 15 ≡ 169
tested_again = unfold steps step mixed jump jumps after_jumps in eqb→eq (after_jumps 15) 169 tt

-- ---- words

-- number k goes 2 ^ k words on, of 1632 steps each
Goes : ℕ → Type 0
Goes k = (n : ℕ) → register_from load (n + 1632 * 2 ^ k) ≡ mixed (jump k) 15 (register_from load n)

goes_twice : (k : ℕ) → k < 14 → Goes k → Goes (suc k)
unfolding Goes
goes_twice k h goes =
    from_load (jump (suc k)) (1632 * 2 ^ suc k) (ap (register_from load) far ∙ goes (1632 * 2 ^ k)
    ∙ ap (mixed (jump k) 15) (ap (register_from load) (omega arith) ∙ goes 0 ∙ ap (mixed (jump k) 15) register_load)
    ∙ tested_twice k h ∙ ap (mixed (jump (suc k)) 15) (sym register_load))
  where
    far : 1632 * 2 ^ suc k ≡ 1632 * 2 ^ k + 1632 * 2 ^ k
    far = let e = pow-suc 2 k in omega arith

word_jump : (k : ℕ) → k < 15 → Goes k
unfolding Goes
word_jump zero h =
    from_load (jump 0) 1632 (sym (steps_register load load_digits 0 1632) ∙ ap (steps 1632) register_load
    ∙ tested_word ∙ ap (mixed (jump 0) 15) (sym register_load))
word_jump (suc k) h = goes_twice k (omega arith) (word_jump k (omega arith))

pub register_jump : (k place : ℕ) → k < 15 → generator_at (place + 2 ^ k)
    ≡ mixed (get_or jumps k 0) 15 (generator_at place)
unfolding generator_at jump Goes
register_jump k place h = ap (register_from load) (omega arith) ∙ word_jump k h (8 * (204 * place))

after_jumps_is : (k : ℕ) → k ≤ 15 → (place : ℕ) → place + 1 ≡ 2 ^ k → generator_at place ≡ after_jumps k
unfolding after_jumps generator_at jump
after_jumps_is zero h place e = ap (register_from load) (omega arith) ∙ register_load
after_jumps_is (suc k) h place e =
    let p = pow-suc 2 k in
    let q : place ≡ place - 2 ^ k + 2 ^ k = omega arith in
    ap generator_at q ∙ register_jump k (place - 2 ^ k) (omega arith)
    ∙ ap (mixed (jump k) 15) (after_jumps_is k (omega arith) (place - 2 ^ k) (omega arith))

-- the same again after 32767 words, from anywhere in the frame
again : (n : ℕ) → register_from load (n + 8 * (204 * 32767)) ≡ register_from load n
unfolding generator_at
again zero = after_jumps_is 15 (omega arith) 32767 refl ∙ tested_again ∙ sym register_load
again (suc n) =
    ap (register_from load) (omega arith) ∙ register_step load load_digits (n + 8 * (204 * 32767)) ∙ ap step (again n)
    ∙ sym (register_step load load_digits n) ∙ ap (register_from load) (add-one n)

rounds : (place q : ℕ) → generator_at (place + 32767 * q) ≡ generator_at place
unfolding generator_at
rounds place zero = ap (register_from load) (omega arith)
rounds place (suc q) =
    ap (register_from load) (omega arith) ∙ again (8 * (204 * (place + 32767 * q))) ∙ rounds place q

pub register_again : (place : ℕ) → generator_at (place % 32767) ≡ generator_at place
register_again place = sym (rounds (place % 32767) (place / 32767)) ∙ ap generator_at (omega arith)

-- ---- the jumps of a place's bits, one by one

pub at_start : (place : ℕ) → 169 ≡ generator_at (place % 2 ^ 0)
at_start place = unfold generator_at in sym register_load ∙ ap (register_from load) (omega arith)

bits_more : (place k : ℕ) → place % 2 ^ (k + 1) ≡ (place / 2 ^ k % 2) * 2 ^ k + place % 2 ^ k
bits_more place k =
    ap (λ (n : ℕ). place % n) (ap (λ (i : ℕ). 2 ^ i) (add-one k) ∙ pow-suc 2 k ∙ mul_comm (2 ^ k) 2)
    ∙ mod-mul place (omega arith) (pow_pos k)

module _ (place k left register : ℕ) (rest : left ≡ place / 2 ^ k)
    (here : register ≡ generator_at (place % 2 ^ k)) where
  pub at_jump : k < 15 → left % 2 ≡ 1 → mixed (get_or jumps k 0) 15 register ≡ generator_at (place % 2 ^ (k + 1))
  at_jump h one =
      ap (mixed (get_or jumps k 0) 15) here ∙ sym (register_jump k (place % 2 ^ k) h) ∙ ap generator_at (sym bits)
    where
      bits : place % 2 ^ (k + 1) ≡ place % 2 ^ k + 2 ^ k
      bits =
          bits_more place k ∙ ap (λ (b : ℕ). b * 2 ^ k + place % 2 ^ k) (ap (λ (n : ℕ). n % 2) (sym rest) ∙ one)
          ∙ omega arith

  pub at_stay : (left % 2 ≡ 1 → ⊥) → register ≡ generator_at (place % 2 ^ (k + 1))
  at_stay other = here ∙ ap generator_at (sym bits)
    where
      zero_bit : left % 2 ≡ 0
      zero_bit = omega arith

      bits : place % 2 ^ (k + 1) ≡ place % 2 ^ k
      bits =
          bits_more place k ∙ ap (λ (b : ℕ). b * 2 ^ k + place % 2 ^ k) (ap (λ (n : ℕ). n % 2) (sym rest) ∙ zero_bit)
          ∙ omega arith

  pub at_half : left / 2 ≡ place / 2 ^ (k + 1)
  at_half =
      ap (λ (n : ℕ). n / 2) rest ∙ div-div-eq-div-mul place (2 ^ k) 2
      ∙ ap (λ (n : ℕ). place / n) (sym (ap (λ (i : ℕ). 2 ^ i) (add-one k) ∙ pow-suc 2 k))

pub at_lt : (place register : ℕ) → register ≡ generator_at place → register < 32768
at_lt place register e = unfold generator_at in rw e (register_lt load load_digits (8 * (204 * place)))

pub at_end : (place : ℕ) → generator_at (place % 32767 % 2 ^ 15) ≡ generator_at place
at_end place = ap generator_at (omega arith) ∙ register_again place
