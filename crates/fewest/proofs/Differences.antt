-- A message beside the one that was sent. The code is linear, so it disagrees with what was sent in as many bits as the
-- code of the difference has ones.
--     apart, apart_twice     1 where two bits differ
--     weight                 how many ones there are among the kept coded bits of a bit
--     next_apart             how the registers differ after two bits
--     differ_apart           in how many bits the pair sent for one bit disagrees with the other
use mathlib.Core.Path.{◌≡◌, refl, sym, ap, ap₂, ◌∙◌}
use mathlib.Core.Bool.{Bool, true, false, not}
use Prim.Native.Nat.{ℕ, ◌+◌, ◌/◌, ◌%◌, ◌<◌}
use native.Mathlib.Omega.{arith}
use lib.Bits.{bit_xor, xor_block, xor_shr}
use Rattle.lists.proofs.Xor.{bit_cases}
use Rattle.settings.specs.Patterns.{Kept, XY, X, Y}
use Rattle.rules.specs.Code.{parity}
use Rattle.rules.proofs.CodeParity.{parity_lt, parity_xor}
use Rattle.fewest.specs.Best.{seven, next, sent_x, sent_y, miss, differ}
use Rattle.fewest.proofs.Exact.{pair_sent, miss_none, x_lt, y_lt}

abbrev pub apart : Bool → Bool → Bool
apart false b = b
apart true b = not b

pub apart_twice : (d b : Bool) → apart (apart d b) b ≡ d
apart_twice false false = refl
apart_twice false true = refl
apart_twice true false = refl
apart_twice true true = refl

abbrev pub weight : Kept → ℕ → Bool → ℕ
weight XY register b = sent_x register b + sent_y register b
weight X register b = sent_x register b
weight Y register b = sent_y register b

-- a digit that is a bit
miss_apart : (x y : ℕ) → x < 2 → y < 2 → miss x y ≡ bit_xor y x
unfolding miss
miss_apart x y hx hy =
    bit_cases (λ (u : ℕ). miss u y ≡ bit_xor y u)
    (bit_cases (λ (u : ℕ). miss 0 u ≡ bit_xor u 0) refl refl y hy)
    (bit_cases (λ (u : ℕ). miss 1 u ≡ bit_xor u 1) refl refl y hy) x hx

-- bit c from one register, and bit b, which was sent, from another
module _ (register sender : ℕ) (h : register < 64) (g : sender < 64) where
  seven_apart : (c b : Bool) → seven (bit_xor register sender) (apart c b) ≡ bit_xor (seven register c) (seven sender b)
  unfolding seven
  seven_apart false false = sym (xor_block 6 0 0 register sender h g)
  seven_apart false true = sym (xor_block 6 0 1 register sender h g)
  seven_apart true false = sym (xor_block 6 1 0 register sender h g)
  seven_apart true true = sym (xor_block 6 1 1 register sender h g)

  module _ (c b : Bool) where
    pub next_apart : next (bit_xor register sender) (apart c b) ≡ bit_xor (next register c) (next sender b)
    next_apart =
        unfold next in ap (λ (n : ℕ). n / 2) (seven_apart c b) ∙ xor_shr (seven register c) (seven sender b) 1

    sent_apart : (taps : ℕ) → miss (parity taps (seven sender b)) (parity taps (seven register c))
        ≡ parity taps (seven (bit_xor register sender) (apart c b))
    sent_apart taps =
        miss_apart _ _ (parity_lt taps (seven sender b)) (parity_lt taps (seven register c))
        ∙ sym (ap (parity taps) (seven_apart c b) ∙ parity_xor taps (seven register c) (seven sender b))

    x_apart : miss (sent_x sender b) (sent_x register c) ≡ sent_x (bit_xor register sender) (apart c b)
    x_apart = unfold sent_x in sent_apart 0o171

    y_apart : miss (sent_y sender b) (sent_y register c) ≡ sent_y (bit_xor register sender) (apart c b)
    y_apart = unfold sent_y in sent_apart 0o133

    by_digits : (pair x y : ℕ) → pair / 3 ≡ x → pair % 3 ≡ y
        → differ pair register c ≡ miss x (sent_x register c) + miss y (sent_y register c)
    by_digits pair x y e f = unfold differ in rw (e, f) refl

    pub differ_apart : (kept : Kept) → differ (pair_sent kept (sent_x sender b) (sent_y sender b)) register c
        ≡ weight kept (bit_xor register sender) (apart c b)
    differ_apart XY =
        let hx = x_lt sender b in
        let hy = y_lt sender b in
        by_digits _ (sent_x sender b) (sent_y sender b) (omega arith) (omega arith) ∙ ap₂ ◌+◌ x_apart y_apart
    differ_apart X =
        let hx = x_lt sender b in
        let no-y = miss_none (sent_y register c) in
        by_digits _ (sent_x sender b) 2 (omega arith) (omega arith) ∙ omega (arith, x_apart)
    differ_apart Y =
        let hy = y_lt sender b in
        let no-x = miss_none (sent_x register c) in
        by_digits _ 2 (sent_y sender b) (omega arith) (omega arith) ∙ omega (arith, y_apart)
