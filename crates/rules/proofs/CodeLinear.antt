-- The code is linear: of the sum without carries of two messages, from the sum of two registers, it gives the sum.
--     back_xor, window_xor, register_xor     of a bit, the window, the register
--     coded_xor                              of a coded bit
use mathlib.Core.Path.{◌≡◌, sym, ap, ap₂, ◌∙◌}
use Prim.Native.Nat.{ℕ, suc, ◌-◌, ◌/◌, ◌%◌, ◌^◌, ◌≤◌, ◌<◌}
use native.Mathlib.Decide.{dec_le}
use native.Mathlib.Omega.{arith}
use lib.Bits.{bit_xor, xor_shr, xor_mod}
use Rattle.lists.proofs.Binaries.{binary_cong, binary_xor}
use Rattle.rules.specs.Code.{bit_back, window, parity, register_after}
use Rattle.rules.proofs.CodeParity.{parity_xor}
use Rattle.rules.proofs.CodeWindows.{back_lt, back_message, back_register}

-- of one binary digit of a number
pub digit_xor : (a b e : ℕ) → bit_xor a b / 2 ^ e % 2 ≡ bit_xor (a / 2 ^ e % 2) (b / 2 ^ e % 2)
digit_xor a b e = ap (λ (x : ℕ). x % 2) (xor_shr a b e) ∙ xor_mod (a / 2 ^ e) (b / 2 ^ e) 1

module _ (r s : ℕ) (f g : ℕ → ℕ) (n : ℕ) where
  pub back_xor : (k : ℕ)
      → bit_back (bit_xor r s) (λ i. bit_xor (f i) (g i)) n k ≡ bit_xor (bit_back r f n k) (bit_back s g n k)
  back_xor k = go (dec_le k n)
    where
      go : Dec (k ≤ n)
          → bit_back (bit_xor r s) (λ i. bit_xor (f i) (g i)) n k ≡ bit_xor (bit_back r f n k) (bit_back s g n k)
      go (yes h) =
          back_message (bit_xor r s) (λ i. bit_xor (f i) (g i)) n k h ∙ xor_mod (f (n - k)) (g (n - k)) 1
          ∙ ap₂ bit_xor (sym (back_message r f n k h)) (sym (back_message s g n k h))
      go (no h) =
          let late : n < k = omega arith in
          back_register (bit_xor r s) (λ i. bit_xor (f i) (g i)) n k late ∙ digit_xor r s (6 - (k - n))
          ∙ ap₂ bit_xor (sym (back_register r f n k late)) (sym (back_register s g n k late))

  pub window_xor : window (bit_xor r s) (λ i. bit_xor (f i) (g i)) n ≡ bit_xor (window r f n) (window s g n)
  window_xor =
      unfold window in binary_cong 7 _ _ (λ k lt. back_xor k)
      ∙ sym (binary_xor 7 (bit_back r f n) (bit_back s g n) (back_lt r f n) (back_lt s g n))

  pub register_xor
      : register_after (bit_xor r s) (λ i. bit_xor (f i) (g i)) n ≡ bit_xor (register_after r f n)
      (register_after s g n)
  unfolding register_after
  register_xor =
      binary_cong 6 _ _ (λ k lt. back_xor (suc k))
      ∙ sym (binary_xor 6 (λ k. bit_back r f n (suc k)) (λ k. bit_back s g n (suc k)) (λ k. back_lt r f n (suc k))
      (λ k. back_lt s g n (suc k)))

  pub coded_xor : (taps : ℕ) → parity taps (window (bit_xor r s) (λ i. bit_xor (f i) (g i)) n)
      ≡ bit_xor (parity taps (window r f n)) (parity taps (window s g n))
  coded_xor taps = ap (parity taps) window_xor ∙ parity_xor taps (window r f n) (window s g n)
