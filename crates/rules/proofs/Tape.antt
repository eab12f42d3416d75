-- The bits of the register on a tape: the digits it started with, from stage 15 to stage 1, and then its output bits.
-- The stages are a window of fifteen bits on the tape, which moves on by one bit a step.
--     tape, tape_bit, tape_rule     the tape, whose bit m + 15 is the sum of bits m + 1 and m
--     held_tape, output_tape        what a stage holds, and an output bit, on the tape
--     rule_doubled, tape_byte_rule  the same rule for bits two and eight places apart
--     rule_agree                    two tapes with the rule and equal first fifteen bits are equal
use mathlib.Core.Path.{◌≡◌, sym, ap, ap₂, ◌∙◌}
use mathlib.Core.Bool.{Bool, true, false, cond}
use mathlib.Core.List.{List}
use Prim.Native.Nat.{ℕ, zero, suc, ◌+◌, ◌-◌, ◌≤◌, ◌<◌}
use native.Mathlib.Nat.{add-zero}
use native.Mathlib.Decide.{dec_lt}
use native.Mathlib.Omega.{arith}
use lib.Bits.{bit_xor}
use lib.Dec.{eqb}
use lib.ListN.{get_or}
use borrow.Author.Tests.{ne_eqb}
use Rattle.lists.proofs.Xor.{bit_sum, xor_middle}
use Rattle.rules.specs.Dispersal.{held, output}

abbrev pub Digits : List ℕ → Type 0
Digits start = (k : ℕ) → get_or start k 0 < 2

-- the rule with the distances of its bits
abbrev pub Rule : ℕ → ℕ → (ℕ → ℕ) → Type 0
Rule far near f = (m : ℕ) → f (m + far) ≡ bit_xor (f (m + near)) (f m)

unfoldable pub tape : List ℕ → ℕ → ℕ
tape start m = held start 15 m

held_bit : (start : List ℕ) → Digits start → (stage n : ℕ) → held start stage n < 2
unfolding held
held_bit start digits stage zero = digits (stage - 1)
held_bit start digits stage (suc n) =
    either (eqb stage 1) _ _ (omega arith) (held_bit start digits (stage - 1) n)
  where
    either : (b : Bool) (x y : ℕ) → x < 2 → y < 2 → cond b x y < 2
    either true x y h k = h
    either false x y h k = k

pub tape_bit : (start : List ℕ) → Digits start → (m : ℕ) → tape start m < 2
tape_bit start digits m = unfold tape in held_bit start digits 15 m

module _ (start : List ℕ) where
  held_on : (stage n : ℕ) → (stage ≡ 1 → ⊥) → held start stage (suc n) ≡ held start (stage - 1) n
  held_on stage n other = unfold held in rw (ne_eqb stage 1 other)

  pub held_tape : (k n : ℕ) → k ≤ 14 → held start (15 - k) n ≡ tape start (n + k)
  unfolding tape
  held_tape zero n h = ap (held start 15) (sym (add-zero n))
  held_tape (suc k) n h =
      ap (λ (s : ℕ). held start s n) (omega arith)
      ∙ sym (held_on (15 - k) n (λ e. omega arith)) ∙ held_tape k (suc n) (omega arith)
      ∙ ap (held start 15) (omega arith)

  pub output_tape : (n : ℕ) → output start n ≡ tape start (n + 15)
  output_tape n = unfold output in held_tape 14 (suc n) (omega arith) ∙ ap (tape start) (omega arith)

  pub tape_rule : Digits start → Rule 15 1 (tape start)
  unfolding output held
  tape_rule digits m =
      sym (output_tape m) ∙ bit_sum _ _ (held_bit start digits 14 m) (held_bit start digits 15 m)
      ∙ ap₂ (λ (x y : ℕ). bit_xor x y) (held_tape 1 m (omega arith))
      (held_tape 0 m (omega arith) ∙ ap (tape start) (add-zero m))

pub rule_doubled : (f : ℕ → ℕ) (far near : ℕ) → Rule far near f → Rule (far + far) (near + near) f
rule_doubled f far near rule m =
    ap f (omega arith) ∙ rule (m + far)
    ∙ ap₂ (λ (x y : ℕ). bit_xor x y) (ap f (omega arith) ∙ rule (m + near)) (rule m)
    ∙ xor_middle (f (m + near + near)) (f (m + near)) (f m) ∙ ap (λ (k : ℕ). bit_xor (f k) (f m)) (omega arith)

pub tape_byte_rule : (start : List ℕ) → Digits start → Rule 120 8 (tape start)
tape_byte_rule start digits =
    rule_doubled f 60 4 (rule_doubled f 30 2 (rule_doubled f 15 1 (tape_rule start digits)))
  where
    f : ℕ → ℕ
    f = tape start

pub rule_agree : (f g : ℕ → ℕ) → Rule 15 1 f → Rule 15 1 g → ((m : ℕ) → m < 15 → f m ≡ g m) → (m : ℕ) → f m ≡ g m
rule_agree f g rf rg first m = below m m (omega arith)
  where
    below : (n m : ℕ) → m < n + 15 → f m ≡ g m
    below zero m h = first m (omega arith)
    below (suc n) m h = elim (dec_lt m 15) [
      | yes small ↦ first m small
      | no large ↦
          let e : m ≡ m - 15 + 15 = omega arith in
          ap f e ∙ rf (m - 15)
          ∙ ap₂ (λ (x y : ℕ). bit_xor x y) (below n (m - 15 + 1) (omega arith)) (below n (m - 15) (omega arith))
          ∙ sym (rg (m - 15)) ∙ ap g (sym e)
    ]
