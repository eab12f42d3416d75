-- "message bits 8b to 8b+13": each of their kept bits does look at byte b of the stream. Both X and Y have taps at 0
-- and at 6 bits back, and of these one falls into the byte; where that bit alone is 1, the kept bit is 1.
--     Spot, spot     the bit of byte b that the coded bits of a message bit look at
--     kept_is_1      the kept bit, where that bit is 1 and all others near it are 0
use mathlib.Core.Path.{◌≡◌, refl, sym, ap, ◌∙◌}
use mathlib.Core.Bool.{Bool, true, false, cond}
use mathlib.Core.Logic.{◌⊎◌, inl, inr}
use Prim.Native.Nat.{ℕ, suc, ◌+◌, ◌-◌, ◌*◌, ◌/◌, ◌%◌, ◌^◌, ◌<◌, ◌≤◌}
use native.Mathlib.Nat.{zero-div, mod-mod}
use native.Mathlib.Decide.{ℕ_discrete, dec_lt, dec_le}
use native.Mathlib.Omega.{arith}
use lib.Count.{ones}
use lib.Dec.{eqb, eqb→eq}
use borrow.Author.Tests.{eq-eqb, ne_eqb}
use Rattle.lists.specs.Binary.{binary}
use Rattle.lists.proofs.Binaries.{binary_cong}
use Rattle.lists.proofs.Every.{every, at}
use Rattle.settings.specs.Patterns.{kept_below}
use Rattle.settings.proofs.LegalSettings.{LegalRate}
use Rattle.rules.specs.Code.{bit_back, window, parity, coded_x, coded_y}
use Rattle.rules.specs.Puncturing.{kept_bit}
use Rattle.rules.proofs.CodeWindows.{back_message, back_register}
use Rattle.rules.proofs.Punctured.{kept_is}
use Rattle.rules.proofs.Sources.{source_of, kept_is_x, indexed_bit, source_lt, source_ge}

-- the bit of byte b that is 0 or 6 places before message bit n
pub record Spot (b n : ℕ) : Type 0 where
  pub bit : ℕ
  pub back : ℕ
  pub tapped : (back ≡ 0) ⊎ (back ≡ 6)
  pub few : back ≤ 6
  pub is : bit + back ≡ n
  pub inside : bit / 8 ≡ b

pub spot : (b n : ℕ) → 8 * b ≤ n → n ≤ 8 * b + 13 → Spot b n
spot b n first last = elim (dec_lt n (8 * b + 8)) [
  | yes lt ↦ record {
    bit = n;
    back = 0;
    tapped = inl refl;
    few = omega arith;
    is = omega arith;
    inside = omega arith;
  }
  | no ge ↦ record {
    bit = n - 6;
    back = 6;
    tapped = inr refl;
    few = omega arith;
    is = omega arith;
    inside = omega arith;
  }
]

-- the digits of a byte of which one bit is 1
one_digit : (i t : ℕ) → i < 8 → t < 8 → 2 ^ (7 - i) / 2 ^ (7 - t) % 2 ≡ cond (eqb t i) 1 0
one_digit i t few less =
    eqb→eq (2 ^ (7 - i) / 2 ^ (7 - t) % 2) (cond (eqb t i) 1 0)
    (at (test i) 8 (at (λ (i : ℕ). every (test i) 8) 8 tt i few) t less)
  where
    test : ℕ → ℕ → Bool
    test i t = eqb (2 ^ (7 - i) / 2 ^ (7 - t) % 2) (cond (eqb t i) 1 0)

zero_digit : (e : ℕ) → 0 / 2 ^ e % 2 ≡ 0
zero_digit e = ap (λ (x : ℕ). x % 2) (zero-div (2 ^ e))

-- the stream's message bits, "highest of a byte first"
abbrev bits_of : (ℕ → ℕ) → ℕ → ℕ
bits_of stream n = stream (n / 8) / 2 ^ (7 - n % 8) % 2

-- of the seven bits one is 1
abbrev alone : ℕ → ℕ → ℕ
alone back k = cond (eqb k back) 1 0

-- both X and Y have taps there
tap_1 : (x : Bool) (back : ℕ) → (back ≡ 0) ⊎ (back ≡ 6)
    → cond x (parity 0o171 (binary 7 (alone back))) (parity 0o133 (binary 7 (alone back))) ≡ 1
unfolding parity binary ones
tap_1 true back (inl e) = rw e refl
tap_1 true back (inr e) = rw e refl
tap_1 false back (inl e) = rw e refl
tap_1 false back (inr e) = rw e refl

module _ (stream : ℕ → ℕ) (b n : ℕ) (here : Spot b n) (own : stream b ≡ 2 ^ (7 - here.bit % 8))
    (before : (t : ℕ) → suc t ≡ b → stream t ≡ 0) (after : stream (suc b) ≡ 0) where
  -- a message bit t that is k places before n, in the byte and outside it
  own_bit : (t k : ℕ) → t + k ≡ n → t / 8 ≡ b → bits_of stream t ≡ alone here.back k
  own_bit t k is e =
      ap (λ (x : ℕ). x / 2 ^ (7 - t % 8) % 2) (ap stream e ∙ own)
      ∙ one_digit (here.bit % 8) (t % 8) (omega arith) (omega arith)
      ∙ elim (ℕ_discrete k here.back) [
        | yes same ↦
            let digit : t % 8 ≡ here.bit % 8 = omega arith in
            rw (eq-eqb k here.back same, eq-eqb (t % 8) (here.bit % 8) digit) refl
        | no other ↦
            let digit : t % 8 ≡ here.bit % 8 → ⊥ = λ s. other (omega arith) in
            rw (ne_eqb k here.back other, ne_eqb (t % 8) (here.bit % 8) digit) refl
      ]

  near_zero : (t k : ℕ) → t + k ≡ n → k < 7 → (t / 8 ≡ b → ⊥) → stream (t / 8) ≡ 0
  near_zero t k is few ne = elim (ℕ_discrete (suc (t / 8)) b) [
    | yes e ↦ before (t / 8) e
    | no other ↦ let next : t / 8 ≡ suc b = omega arith in ap stream next ∙ after
  ]

  other_bit : (t k : ℕ) → t + k ≡ n → k < 7 → (t / 8 ≡ b → ⊥) → bits_of stream t ≡ alone here.back k
  other_bit t k is few ne =
      ap (λ (x : ℕ). x / 2 ^ (7 - t % 8) % 2) (near_zero t k is few ne) ∙ zero_digit (7 - t % 8)
      ∙ sym (rw (ne_eqb k here.back (λ e. ne (omega arith))) refl)

  back_alone : (k : ℕ) → k < 7 → bit_back 0 (bits_of stream) n k ≡ alone here.back k
  back_alone k few = elim (dec_le k n) [
    | yes le ↦
        let t : ℕ = n - k in
        let is : t + k ≡ n = omega arith in
        back_message 0 (bits_of stream) n k le ∙ mod-mod (stream (t / 8) / 2 ^ (7 - t % 8)) 2
        ∙ elim (ℕ_discrete (t / 8) b) [
          | yes e ↦ own_bit t k is e
          | no ne ↦ other_bit t k is few ne
        ]
    | no past ↦
        back_register 0 (bits_of stream) n k (omega arith) ∙ zero_digit (6 - (k - n))
        ∙ sym (rw (ne_eqb k here.back (λ e. past (omega arith))) refl)
  ]

  window_alone : window 0 (bits_of stream) n ≡ binary 7 (alone here.back)
  window_alone = unfold window in binary_cong 7 _ _ back_alone

  -- whichever of the two it is
  tapped_1 : (x : Bool) → cond x (coded_x 0 (bits_of stream) n) (coded_y 0 (bits_of stream) n) ≡ 1
  unfolding coded_x coded_y
  tapped_1 x =
      ap (λ (w : ℕ). cond x (parity 0o171 w) (parity 0o133 w)) window_alone ∙ tap_1 x here.back here.tapped

  pub kept_is_1 : {rate : ℕ} → LegalRate rate → (c : ℕ) → kept_below rate n ≤ c → c < kept_below rate (suc n)
      → kept_bit rate 0 (bits_of stream) c ≡ 1
  unfolding indexed_bit
  kept_is_1 {rate} legal c from to =
      let source : source_of rate c ≡ n
      = omega (arith, source_ge legal c n from, source_lt legal c (suc n) to) in
      kept_is legal 0 (bits_of stream) c
      ∙ ap (λ (m : ℕ). cond (kept_is_x rate c) (coded_x 0 (bits_of stream) m) (coded_y 0 (bits_of stream) m)) source
      ∙ tapped_1 (kept_is_x rate c)
