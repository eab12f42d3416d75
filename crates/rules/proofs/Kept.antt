-- A kept bit is a coded bit of one message bit.
--     kept_lt       it is 0 or 1
--     kept_every    messages that agree give one kept bit
--     kept_xor      it is linear
--     kept_same     windows that agree give one kept bit
--     kept_cong     it looks at no message bit behind its own
use mathlib.Core.Path.{◌≡◌, refl, sym, ap, ap₂, ◌∙◌}
use mathlib.Core.Bool.{Bool, cond}
use Prim.Native.Nat.{ℕ, zero, suc, ◌+◌, ◌-◌, ◌%◌, ◌≤◌, ◌<◌}
use native.Mathlib.Decide.{dec_lt}
use native.Mathlib.Omega.{arith}
use lib.Bits.{bit_xor}
use lib.ListN.{length, get_or, length-append}
use Rattle.lists.proofs.Join.{get_d_first, get_d_second}
use Rattle.settings.specs.Patterns.{Kept, XY, X, Y}
use Rattle.settings.proofs.LegalSettings.{LegalRate}
use Rattle.rules.specs.Code.{window, parity, coded_x, coded_y}
use Rattle.rules.specs.Puncturing.{pattern_at, kept_pair, punctured, kept_bit}
use Rattle.rules.proofs.CodeWindows.{window_cong}
use Rattle.rules.proofs.CodeParity.{parity_lt}
use Rattle.rules.proofs.CodeLinear.{coded_xor}
use Rattle.rules.proofs.Sources.{source_of, kept_is_x, indexed_bit}
use Rattle.rules.proofs.Punctured.{kept_is}

-- ---- for every number that a rate may be: the same coded bit of the same message bit, whatever the message

abbrev Bits : Type 0
Bits = ℕ → (ℕ → ℕ) → ℕ

data CodedBit (bit : Bits) : Type 0 where
  under : (taps n : ℕ)
      → ((register : ℕ) (message : ℕ → ℕ) → bit register message ≡ parity taps (window register message n))
      → CodedBit bit
  none : ((register : ℕ) (message : ℕ → ℕ) → bit register message ≡ 0) → CodedBit bit

same_bit : (one two : Bits) → ((register : ℕ) (message : ℕ → ℕ) → two register message ≡ one register message)
    → CodedBit one → CodedBit two
same_bit one two e (under taps n f) = under taps n (λ register message. e register message ∙ f register message)
same_bit one two e (none f) = none (λ register message. e register message ∙ f register message)

of_pair : (kept : Kept) (n i : ℕ)
    → CodedBit (λ register message. get_or (kept_pair kept (coded_x register message n) (coded_y register message n)) i
    0)
unfolding coded_x coded_y
of_pair XY n zero = under 0o171 n (λ register message. refl)
of_pair XY n (suc zero) = under 0o133 n (λ register message. refl)
of_pair XY n (suc (suc i)) = none (λ register message. refl)
of_pair X n zero = under 0o171 n (λ register message. refl)
of_pair X n (suc i) = none (λ register message. refl)
of_pair Y n zero = under 0o133 n (λ register message. refl)
of_pair Y n (suc i) = none (λ register message. refl)

pair_long : (kept : Kept) (x y x' y' : ℕ) → length (kept_pair kept x y) ≡ length (kept_pair kept x' y')
pair_long XY x y x' y' = refl
pair_long X x y x' y' = refl
pair_long Y x y x' y' = refl

module _ (rate : ℕ) where
  abbrev count : ℕ → ℕ
  count n = length (punctured rate 0 (λ i. 0) n)

  counted : (register : ℕ) (message : ℕ → ℕ) (n : ℕ) → length (punctured rate register message n) ≡ count n
  unfolding punctured
  counted register message zero = refl
  counted register message (suc n) =
      length-append (punctured rate register message n) _
      ∙ ap₂ (λ (a b : ℕ). a + b) (counted register message n) (pair_long (pattern_at rate n) _ _ _ _)
      ∙ sym (length-append (punctured rate 0 (λ i. 0) n) _)

  of_punctured : (n c : ℕ) → CodedBit (λ register message. get_or (punctured rate register message n) c 0)
  unfolding punctured
  of_punctured zero c = none (λ register message. refl)
  of_punctured (suc n) c = elim (dec_lt c (count n)) [
    | yes lt ↦ same_bit (λ register message. get_or (punctured rate register message n) c 0) _
        (λ register message. get_d_first (punctured rate register message n) _ c
        (omega (arith, counted register message n))) (of_punctured n c)
    | no ge ↦ same_bit (λ register message.
        get_or (kept_pair (pattern_at rate n) (coded_x register message n) (coded_y register message n))
        (c - count n) 0) _
        (λ register message. get_d_second (punctured rate register message n) _ c
        (omega (arith, counted register message n))
        ∙ ap (λ (size : ℕ). get_or (kept_pair (pattern_at rate n) (coded_x register message n)
        (coded_y register message n))
        (c - size) 0) (counted register message n)) (of_pair (pattern_at rate n) n (c - count n))
  ]

  of_kept : (c : ℕ) → CodedBit (λ register message. kept_bit rate register message c)
  of_kept c = unfold kept_bit in of_punctured (suc c) c

  pub kept_lt : (register : ℕ) (message : ℕ → ℕ) (c : ℕ) → kept_bit rate register message c < 2
  kept_lt register message c = elim (of_kept c) [
    | under taps n e ↦ omega (arith, e register message, parity_lt taps (window register message n))
    | none e ↦ omega (arith, e register message)
  ]

  pub kept_every : (r : ℕ) (f g : ℕ → ℕ) (c : ℕ) → ((i : ℕ) → f i % 2 ≡ g i % 2)
      → kept_bit rate r f c ≡ kept_bit rate r g c
  kept_every r f g c same = elim (of_kept c) [
    | under taps n e ↦ e r f ∙ ap (parity taps) (window_cong r f g n (λ i le. same i)) ∙ sym (e r g)
    | none e ↦ e r f ∙ sym (e r g)
  ]

  pub kept_xor : (r s : ℕ) (f g : ℕ → ℕ) (c : ℕ)
      → kept_bit rate (bit_xor r s) (λ i. bit_xor (f i) (g i)) c ≡ bit_xor (kept_bit rate r f c) (kept_bit rate s g c)
  kept_xor r s f g c = elim (of_kept c) [
    | under taps n e ↦ e _ _ ∙ coded_xor r s f g n taps ∙ sym (ap₂ bit_xor (e r f) (e s g))
    | none e ↦ e _ _ ∙ sym (ap₂ bit_xor (e r f) (e s g))
  ]

-- ---- for a rate: by its number in the pattern

module _ {rate : ℕ} (legal : LegalRate rate) where
  -- a kept bit is a matter of its window alone
  pub kept_same : (r s : ℕ) (f g : ℕ → ℕ) (c d : ℕ) → kept_is_x rate c ≡ kept_is_x rate d
      → window r f (source_of rate c) ≡ window s g (source_of rate d) → kept_bit rate r f c ≡ kept_bit rate s g d
  unfolding indexed_bit coded_x coded_y
  kept_same r s f g c d e w =
      kept_is legal r f c ∙ ap₂ (λ (b : Bool) (v : ℕ). cond b (parity 0o171 v) (parity 0o133 v)) e w
      ∙ sym (kept_is legal s g d)

  pub kept_cong : (r : ℕ) (f g : ℕ → ℕ) (c : ℕ) → ((i : ℕ) → i ≤ source_of rate c → f i % 2 ≡ g i % 2)
      → kept_bit rate r f c ≡ kept_bit rate r g c
  kept_cong r f g c same = kept_same r r f g c c refl (window_cong r f g (source_of rate c) same)
