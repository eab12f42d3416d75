-- The register as a number: its steps, its bytes, and that it is all the generator knows.
--     stages_digits                       a number's stages are digits
--     register_lt                         fifteen bits
--     register_step, register_next        after one step, and after eight
--     register_ahead                      the registers of the next steps, cut out of one number
--     byte_next                           the byte of the next eight steps
--     byte_rule, byte_rule_60             byte b + 15 is the sum of bytes b + 1 and b, and b + 60 that of b + 4 and b
--     register_stages                     a number's stages are the number
--     register_restart, byte_restart      from a register on come the same registers and bytes
use mathlib.Core.Path.{◌≡◌, sym, ap, ap₂, ◌∙◌}
use mathlib.Core.List.{List}
use Prim.Native.Nat.{ℕ, suc, ◌+◌, ◌-◌, ◌*◌, ◌/◌, ◌%◌, ◌^◌, ◌≤◌, ◌<◌}
use native.Mathlib.Omega.{arith}
use lib.Bits.{bit_xor}
use Rattle.lists.specs.Binary.{binary}
use Rattle.lists.proofs.Tabs.{length_tab, get_d_tab}
use Rattle.lists.proofs.Binaries.{binary_cong, binary_lt, binary_digit, binary_digits, binary_xor}
use Rattle.rules.specs.Dispersal.{held, byte_from}
use Rattle.dispersal.specs.Register.{stages_of, register_from}
use Rattle.dispersal.specs.Steps.{next_byte, next_register, step}
use Rattle.rules.proofs.DispersedWords.{fifteen_digits}
use Rattle.rules.proofs.Tape.{Digits, Rule, tape, tape_bit, tape_rule, tape_byte_rule, held_tape, output_tape}
use Rattle.rules.proofs.Tape.{rule_doubled, rule_agree}
use Rattle.dispersal.proofs.Windows.{next_byte_window, next_register_window, step_window, ahead_window}
use Rattle.dispersal.proofs.Windows.{ahead_part}

pub stages_digits : (register : ℕ) → Digits (stages_of register)
stages_digits register =
    unfold stages_of in fifteen_digits (stages_of register) (length_tab 15 _)
    (λ k h. rw (get_d_tab 15 (λ k. register / 2 ^ k % 2) k h) (omega arith))

-- ---- on the tape

-- the tape from bit n on
later : List ℕ → ℕ → ℕ → ℕ
later start n m = tape start (n + m)

module _ (start : List ℕ) where
  register_tape : (n : ℕ) → register_from start n ≡ binary 15 (later start n)
  unfolding register_from later
  register_tape n =
      binary_cong 15 (λ l. held start (15 - l) n) (λ l. tape start (n + l)) (λ l h. held_tape start l n (omega arith))

  byte_tape : (b : ℕ) → byte_from start b ≡ binary 8 (λ l. later start (8 * b) (15 + l))
  byte_tape b =
      unfold byte_from later in binary_cong 8 _ (λ l. tape start (8 * b + (15 + l)))
      (λ l h. output_tape start (8 * b + l) ∙ ap (tape start) (omega arith))

module _ (start : List ℕ) (digits : Digits start) where
  later_bit : (n m : ℕ) → later start n m < 2
  later_bit n m = unfold later in tape_bit start digits (n + m)

  later_rule : (n : ℕ) → Rule 15 1 (later start n)
  later_rule n m =
      unfold later in ap (tape start) (omega arith) ∙ tape_rule start digits (n + m)
      ∙ ap (λ (k : ℕ). bit_xor (tape start k) (tape start (n + m))) (omega arith)

  pub register_lt : (n : ℕ) → register_from start n < 32768
  register_lt n = rw (register_tape start n) (binary_lt 15 (later start n) (later_bit n))

  -- the window d bits on
  moved : (n d : ℕ) → binary 15 (λ l. later start n (d + l)) ≡ register_from start (n + d)
  moved n d =
      unfold later in binary_cong 15 (λ l. tape start (n + (d + l))) (λ l. tape start (n + d + l))
      (λ l h. ap (tape start) (omega arith)) ∙ sym (register_tape start (n + d))

  pub register_step : (n : ℕ) → register_from start (n + 1) ≡ step (register_from start n)
  register_step n =
      sym (ap step (register_tape start n) ∙ step_window (later start n) (later_bit n) (later_rule n) ∙ moved n 1)

  -- the register and its next fourteen bits hold the registers up to fourteen steps on
  pub register_ahead : (n i : ℕ) → i ≤ 14
      → (register_from start n * 16384 + bit_xor (register_from start n) (register_from start n / 2) % 16384)
      / 2 ^ (14 - i) % 32768 ≡ register_from start (n + i)
  register_ahead n i h =
      ap (λ (r : ℕ). (r * 16384 + bit_xor r (r / 2) % 16384) / 2 ^ (14 - i) % 32768) (register_tape start n)
      ∙ ap (λ (x : ℕ). x / 2 ^ (14 - i) % 32768) (ahead_window (later start n) (later_bit n) (later_rule n))
      ∙ ahead_part (later start n) (later_bit n) (later_rule n) i h ∙ moved n i

  pub byte_next : (b : ℕ) → next_byte (register_from start (8 * b)) ≡ byte_from start b
  byte_next b =
      ap next_byte (register_tape start (8 * b))
      ∙ next_byte_window (later start (8 * b)) (later_bit (8 * b)) (later_rule (8 * b)) ∙ sym (byte_tape start b)

  pub register_next : (b : ℕ)
      → next_register (register_from start (8 * b)) (byte_from start b) ≡ register_from start (8 * (b + 1))
  register_next b =
      ap₂ next_register (register_tape start (8 * b)) (byte_tape start b)
      ∙ next_register_window (later start (8 * b)) (later_bit (8 * b)) (later_rule (8 * b))
      ∙ moved (8 * b) 8 ∙ ap (register_from start) (omega arith)

  pub byte_rule : Rule 15 1 (byte_from start)
  byte_rule b =
      unfold later in byte_tape start (b + 15)
      ∙ binary_cong 8 _ (λ l. bit_xor (tape start (8 * (b + 1) + (15 + l))) (tape start (8 * b + (15 + l))))
      (λ l h. ap (tape start) (omega arith) ∙ tape_byte_rule start digits (8 * b + (15 + l))
      ∙ ap (λ (k : ℕ). bit_xor (tape start k) (tape start (8 * b + (15 + l)))) (omega arith))
      ∙ sym (ap₂ (λ (x y : ℕ). bit_xor x y) (byte_tape start (b + 1)) (byte_tape start b)
      ∙ binary_xor 8 (λ l. tape start (8 * (b + 1) + (15 + l))) (λ l. tape start (8 * b + (15 + l)))
      (λ l. tape_bit start digits _) (λ l. tape_bit start digits _))

  pub byte_rule_60 : Rule 60 4 (byte_from start)
  byte_rule_60 = rule_doubled (byte_from start) 30 2 (rule_doubled (byte_from start) 15 1 byte_rule)

-- ---- from a number on

stages_tape : (register m : ℕ) → m < 15 → tape (stages_of register) m ≡ register / 2 ^ (14 - m) % 2
unfolding held stages_of
stages_tape register m h =
    sym (held_tape (stages_of register) m 0 (omega arith) ∙ ap (tape (stages_of register)) (omega arith))
    ∙ get_d_tab 15 (λ k. register / 2 ^ k % 2) (15 - m - 1) (omega arith)
    ∙ ap (λ (k : ℕ). register / 2 ^ k % 2) (omega arith)

pub register_stages : (register : ℕ) → register_from (stages_of register) 0 ≡ register % 32768
unfolding later
register_stages register =
    register_tape (stages_of register) 0 ∙ binary_cong 15 _ (λ l. register / 2 ^ (15 - 1 - l) % 2)
    (λ l h. ap (tape (stages_of register)) (omega arith) ∙ stages_tape register l h)
    ∙ binary_digits 15 register

module _ (start : List ℕ) (digits : Digits start) where
  tape_restart : (n m : ℕ) → tape (stages_of (register_from start n)) m ≡ later start n m
  tape_restart n =
      rule_agree (tape stages) (later start n) (tape_rule stages (stages_digits register))
      (later_rule start digits n) first
    where
      register : ℕ
      register = register_from start n

      stages : List ℕ
      stages = stages_of register

      first : (m : ℕ) → m < 15 → tape stages m ≡ later start n m
      first m h =
          let e : 15 ≡ suc m + (14 - m) = omega arith in
          stages_tape register m h
          ∙ ap (λ (r : ℕ). r / 2 ^ (14 - m) % 2) (register_tape start n ∙ ap (λ (k : ℕ). binary k (later start n)) e)
          ∙ binary_digit m (14 - m) (later start n) (later_bit start digits n)

  pub register_restart : (n m : ℕ) → register_from (stages_of (register_from start n)) m ≡ register_from start (n + m)
  register_restart n m =
      unfold later in register_tape (stages_of (register_from start n)) m
      ∙ binary_cong 15 _ (λ l. later start n (m + l)) (λ l h. tape_restart n (m + l)) ∙ moved start digits n m

  pub byte_restart : (b j : ℕ) → byte_from (stages_of (register_from start (8 * b))) j ≡ byte_from start (b + j)
  byte_restart b j =
      unfold later in byte_tape (stages_of (register_from start (8 * b))) j
      ∙ binary_cong 8 _ (λ l. tape start (8 * (b + j) + (15 + l)))
      (λ l h. tape_restart (8 * b) (8 * j + (15 + l)) ∙ ap (tape start) (omega arith))
      ∙ sym (byte_tape start (b + j))
