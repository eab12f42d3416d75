-- What a coded bit looks at.
--     back_lt                              a bit is 0 or 1
--     back_message, back_register          a bit of the message, and one of the register before it
--     back_shift                           one bit, named from a message bit further on
--     back_cong, window_cong               the code looks at the message bits up to n, and at none behind
--     back_from, window_from               it looks back six bits: the register after a bits stands for what went
--                                          before
--     register_start, register_more        the register, step by step
--     register_lt, register_cong, register_from
--     register_zero                        six bits of zero
use mathlib.Core.Path.{◌≡◌, refl, sym, ap, ap₂, ◌∙◌}
use Prim.Native.Nat.{ℕ, zero, suc, ◌+◌, ◌-◌, ◌*◌, ◌/◌, ◌%◌, ◌^◌, ◌≤◌, ◌<◌}
use native.Mathlib.Decide.{dec_le}
use native.Mathlib.Omega.{arith}
use borrow.Author.Tests.{le-leb, lt-leb}
use Rattle.lists.specs.Binary.{binary}
use Rattle.lists.proofs.Binaries.{binary_cong, binary_lt, binary_digit, binary_digits, binary_front}
use Rattle.rules.specs.Code.{bit_back, window, register_after}

module _ (register : ℕ) (message : ℕ → ℕ) (n k : ℕ) where
  pub back_message : k ≤ n → bit_back register message n k ≡ message (n - k) % 2
  back_message h = unfold bit_back in rw (le-leb k n h) refl

  pub back_register : n < k → bit_back register message n k ≡ register / 2 ^ (6 - (k - n)) % 2
  back_register h = unfold bit_back in rw (lt-leb k n h) refl

  pub back_lt : bit_back register message n k < 2
  back_lt = go (dec_le k n)
    where
      go : Dec (k ≤ n) → bit_back register message n k < 2
      go (yes h) = rw (back_message h) (omega arith)
      go (no h) = rw (back_register (omega arith)) (let r = register / 2 ^ (6 - (k - n)) in omega arith)

  -- the same bit, named from t message bits further on
  pub back_shift : (t : ℕ) → bit_back register message (n + t) (k + t) ≡ bit_back register message n k
  unfolding bit_back
  back_shift t = go (dec_le k n)
    where
      away : n + t - (k + t) ≡ n - k
      away = omega arith

      before : k + t - (n + t) ≡ k - n
      before = omega arith

      go : Dec (k ≤ n) → bit_back register message (n + t) (k + t) ≡ bit_back register message n k
      go (yes h) = rw (le-leb k n h, le-leb (k + t) (n + t) (omega arith), away) refl
      go (no h) = rw (lt-leb k n (omega arith), lt-leb (k + t) (n + t) (omega arith), before) refl

-- ---- nothing behind message bit n counts

module _ (register : ℕ) (f g : ℕ → ℕ) (n : ℕ) where
  pub back_cong : (k : ℕ) → (k ≤ n → f (n - k) % 2 ≡ g (n - k) % 2) → bit_back register f n k ≡ bit_back register g n k
  back_cong k same = go (dec_le k n)
    where
      go : Dec (k ≤ n) → bit_back register f n k ≡ bit_back register g n k
      go (yes h) = back_message register f n k h ∙ same h ∙ sym (back_message register g n k h)
      go (no h) = back_register register f n k (omega arith) ∙ sym (back_register register g n k (omega arith))

  pub window_cong : ((i : ℕ) → i ≤ n → f i % 2 ≡ g i % 2) → window register f n ≡ window register g n
  unfolding window
  window_cong same = binary_cong 7 _ _ (λ k lt. back_cong k (λ le. same (n - k) (omega arith)))

  pub register_cong : ((i : ℕ) → i < n → f i % 2 ≡ g i % 2) → register_after register f n ≡ register_after register g n
  unfolding register_after
  register_cong same = binary_cong 6 _ _ (λ k lt. back_cong (suc k) (λ le. same (n - suc k) (omega arith)))

-- ---- the register

module _ (register : ℕ) (message : ℕ → ℕ) where
  pub register_lt : (n : ℕ) → register_after register message n < 64
  register_lt n = unfold register_after in binary_lt 6 _ (λ k. back_lt register message n (suc k))

  pub register_start : register_after register message 0 ≡ register % 64
  unfolding register_after
  register_start =
      binary_cong 6 _ _ (λ k lt. back_register register message 0 (suc k) (omega arith)
      ∙ ap (λ (e : ℕ). register / 2 ^ e % 2) (let p : 6 - (suc k - 0) ≡ 6 - 1 - k = omega arith in p))
      ∙ binary_digits 6 register

  pub register_more : (n : ℕ) → register_after register message (suc n) ≡ window register message n / 2
  unfolding register_after window
  register_more n =
      binary_cong 6 _ _ (λ k lt. next k)
      ∙ sym (binary_front 6 1 (bit_back register message n) (back_lt register message n))
    where
      next : (k : ℕ) → bit_back register message (suc n) (suc k) ≡ bit_back register message n k
      next k =
          let p : suc n ≡ n + 1 = omega arith in
          let q : suc k ≡ k + 1 = omega arith in
          ap₂ (bit_back register message) p q ∙ back_shift register message n k 1

  -- ---- the code looks back six bits

  -- a bit of the register after a message bits
  back_held : (a k : ℕ) → 1 ≤ k → k ≤ 6
      → register_after register message a / 2 ^ (6 - k) % 2 ≡ bit_back register message a k
  back_held a k some few =
      unfold register_after in let digit : ℕ → ℕ = λ i. bit_back register message a (suc i) in
      let p : 6 ≡ suc (k - 1) + (6 - k) = omega arith in
      let q : suc (k - 1) ≡ k = omega arith in
      ap (λ (m : ℕ). binary m digit / 2 ^ (6 - k) % 2) p
      ∙ binary_digit (k - 1) (6 - k) digit (λ i. back_lt register message a (suc i))
      ∙ ap (bit_back register message a) q

  pub back_from : (a n k : ℕ) → k ≤ n + 6
      → bit_back (register_after register message a) (λ i. message (a + i)) n k ≡ bit_back register message (a + n) k
  back_from a n k few = go (dec_le k n)
    where
      later : ℕ → ℕ
      later i = message (a + i)

      go : Dec (k ≤ n) → bit_back (register_after register message a) (λ i. message (a + i)) n k
          ≡ bit_back register message (a + n) k
      go (yes h) =
          let p : a + (n - k) ≡ a + n - k = omega arith in
          back_message _ (λ i. message (a + i)) n k h ∙ ap (λ (i : ℕ). message i % 2) p
          ∙ sym (back_message register message (a + n) k (omega arith))
      go (no h) =
          let p : k ≡ k - n + n = omega arith in
          back_register _ (λ i. message (a + i)) n k (omega arith) ∙ back_held a (k - n) (omega arith) (omega arith)
          ∙ sym (back_shift register message a (k - n) n) ∙ ap (bit_back register message (a + n)) (sym p)

  pub window_from : (a n : ℕ)
      → window (register_after register message a) (λ i. message (a + i)) n ≡ window register message (a + n)
  window_from a n = unfold window in binary_cong 7 _ _ (λ k lt. back_from a n k (omega arith))

  pub register_from : (a n : ℕ) → register_after (register_after register message a) (λ i. message (a + i)) n
      ≡ register_after register message (a + n)
  register_from a n = unfold register_after in binary_cong 6 _ _ (λ k lt. back_from a n (suc k) (omega arith))

-- ---- where the bits are zero

binary_zero : (n : ℕ) → binary n (λ k. 0) ≡ 0
unfolding binary
binary_zero zero = refl
binary_zero (suc n) = ap (λ (x : ℕ). x * 2 + 0) (binary_zero n)

module _ (register : ℕ) (message : ℕ → ℕ) (n : ℕ) where
  pub register_zero : ((k : ℕ) → 1 ≤ k → k ≤ 6 → bit_back register message n k ≡ 0)
      → register_after register message n ≡ 0
  unfolding register_after
  register_zero none = binary_cong 6 _ (λ k. 0) (λ k lt. none (suc k) (omega arith) (omega arith)) ∙ binary_zero 6
