-- Windows of fifteen bits on a tape with the rule: what the register's arithmetic does to them.
--     next_byte_window         the byte that comes out next
--     next_register_window     eight steps
--     step_window              one step
--     ahead_window             fourteen bits more
--     ahead_part               a window in them
use mathlib.Core.Path.{◌≡◌, refl, sym, ap, ap₂, ◌∙◌}
use Prim.Native.Nat.{ℕ, ◌+◌, ◌-◌, ◌*◌, ◌/◌, ◌%◌, ◌^◌, ◌≤◌, ◌<◌}
use native.Mathlib.Nat.{mod-eq_of_lt}
use native.Mathlib.Omega.{arith}
use lib.Bits.{bit_xor, xor_mod}
use Rattle.lists.specs.Binary.{binary}
use Rattle.lists.proofs.Binaries.{binary_cong, binary_lt, binary_join, binary_front, binary_back, binary_digit}
use Rattle.lists.proofs.Binaries.{binary_xor}
use Rattle.dispersal.specs.Steps.{next_byte, next_register, step}
use Rattle.rules.proofs.Tape.{Rule}

last : (g : ℕ → ℕ) → binary 15 g ≡ binary 14 g * 2 + g 14
last g = unfold binary in refl

module _ (f : ℕ → ℕ) (bits : (m : ℕ) → f m < 2) (rule : Rule 15 1 f) where
  -- the sum of n bits and of those one place on, n at most 14, is the n bits behind the window
  summed : (n : ℕ) → bit_xor (binary n (λ l. f (1 + l))) (binary n f) ≡ binary n (λ l. f (15 + l))
  summed n =
      binary_xor n (λ l. f (1 + l)) f (λ l. bits (1 + l)) bits
      ∙ binary_cong n (λ l. bit_xor (f (1 + l)) (f l)) (λ l. f (15 + l))
      (λ l h. ap (λ (k : ℕ). bit_xor (f k) (f l)) (omega arith) ∙ sym (rule l) ∙ ap f (omega arith))

  pub next_byte_window : next_byte (binary 15 f) ≡ binary 8 (λ l. f (15 + l))
  unfolding next_byte
  next_byte_window =
      ap₂ (λ (x y : ℕ). bit_xor x y % 256) (binary_front 9 6 f bits) (binary_front 8 7 f bits)
      ∙ xor_mod (binary 9 f) (binary 8 f) 8
      ∙ ap₂ (λ (x y : ℕ). bit_xor x y) (binary_back 1 8 f bits) (mod-eq_of_lt (binary_lt 8 f bits)) ∙ summed 8

  pub next_register_window : next_register (binary 15 f) (binary 8 (λ l. f (15 + l))) ≡ binary 15 (λ l. f (8 + l))
  next_register_window =
      unfold next_register in ap₂ (λ (x y : ℕ). x * 256 + y) (binary_back 8 7 f bits)
      (binary_cong 8 (λ l. f (15 + l)) (λ l. f (8 + (7 + l))) (λ l h. ap f (omega arith)))
      ∙ sym (binary_join 7 8 (λ l. f (8 + l)))

  pub step_window : step (binary 15 f) ≡ binary 15 (λ l. f (1 + l))
  step_window =
      unfold step in ap₂ (λ (x y : ℕ). x * 2 + y) (binary_back 1 14 f bits)
      (ap₂ (λ (x y : ℕ). bit_xor x y) (binary_digit 1 13 f bits) (binary_digit 0 14 f bits) ∙ sym (rule 0))
      ∙ sym (last (λ l. f (1 + l)))

  pub ahead_window : binary 15 f * 16384 + bit_xor (binary 15 f) (binary 15 f / 2) % 16384 ≡ binary 29 f
  ahead_window =
      ap (λ (x : ℕ). binary 15 f * 16384 + x) (xor_mod (binary 15 f) (binary 15 f / 2) 14
      ∙ ap₂ (λ (x y : ℕ). bit_xor x y) (binary_back 1 14 f bits)
      (ap (λ (x : ℕ). x % 16384) (binary_front 14 1 f bits) ∙ mod-eq_of_lt (binary_lt 14 f bits)) ∙ summed 14)
      ∙ sym (binary_join 15 14 f)

  pub ahead_part : (i : ℕ) → i ≤ 14 → binary 29 f / 2 ^ (14 - i) % 32768 ≡ binary 15 (λ l. f (i + l))
  ahead_part i h =
      let e : 29 ≡ i + 15 + (14 - i) = omega arith in
      ap (λ (n : ℕ). binary n f / 2 ^ (14 - i) % 32768) e
      ∙ ap (λ (x : ℕ). x % 32768) (binary_front (i + 15) (14 - i) f bits) ∙ binary_back i 15 f bits
