-- Bits of the stream that a word's blocks are taken from, as numbers.
--     bits_from                                  some of its bits as one number
--     five_bytes_is                              five bytes as one number
--     window_divisor, window_small, window_of    the bits of a block out of five bytes
use mathlib.Core.Path.{◌≡◌, refl, ap, ◌∙◌}
use mathlib.Core.List.{List}
use Prim.Native.Nat.{ℕ, ◌+◌, ◌-◌, ◌*◌, ◌/◌, ◌%◌, ◌^◌, ◌<◌, ◌≤◌}
use native.Mathlib.Nat.{add-zero, mod-lt, lt_of_lt_of_le}
use native.Mathlib.Omega.{arith}
use lib.ListN.{get_or}
use lib.Pow.{pow_pos, pow_mono}
use Rattle.lists.specs.Binary.{binary}
use Rattle.lists.proofs.Binaries.{binary_cong, binary_join, binary_slice, binary_digits}
use Rattle.dispersing_interleaver.specs.Stream.{stream_bit}
use Rattle.word_coder.proofs.Numbers.{shift_one}

-- ---- bits as one number

-- n bits of the stream from bit k on, the first one highest
abbrev pub bits_from : List ℕ → ℕ → ℕ → ℕ
bits_from stream k n = binary n (λ i. stream_bit stream (k + i))

stream_bit_lt : (stream : List ℕ) (i : ℕ) → stream_bit stream i < 2
stream_bit_lt stream i = unfold stream_bit in omega arith

module _ (stream : List ℕ) (k : ℕ) where
  -- a bit of byte k + j
  byte_bit : (j l : ℕ) → l < 8 → stream_bit stream (8 * k + (8 * j + l)) ≡ get_or stream (k + j) 0 / 2 ^ (8 - 1 - l) % 2
  byte_bit j l h =
      unfold stream_bit in let p : (8 * k + (8 * j + l)) / 8 ≡ k + j = omega arith in
      let q : (8 * k + (8 * j + l)) % 8 ≡ l = omega arith in
      rw (p, q) refl

  -- byte after byte
  byte_more : (j x : ℕ) → x ≡ get_or stream (k + j) 0 → x < 256
      → bits_from stream (8 * k) (8 * j + 8) ≡ bits_from stream (8 * k) (8 * j) * 256 + x
  byte_more j x e small =
      binary_join (8 * j) 8 (λ i. stream_bit stream (8 * k + i))
      ∙ ap (λ (y : ℕ). bits_from stream (8 * k) (8 * j) * 256 + y)
      (binary_cong 8 _ (λ l. get_or stream (k + j) 0 / 2 ^ (8 - 1 - l) % 2) (byte_bit j)
      ∙ binary_digits 8 (get_or stream (k + j) 0) ∙ omega arith)

  pub five_bytes_is : (a b c d e : ℕ) → (a ≡ get_or stream k 0) × (a < 256) → (b ≡ get_or stream (k + 1) 0) × (b < 256)
      → (c ≡ get_or stream (k + 2) 0) × (c < 256) → (d ≡ get_or stream (k + 3) 0) × (d < 256)
      → (e ≡ get_or stream (k + 4) 0) × (e < 256)
      → a * 0x1_0000_0000 + b * 0x100_0000 + c * 0x1_0000 + d * 0x100 + e ≡ bits_from stream (8 * k) 40
  five_bytes_is a b c d e p q r s t =
      unfold binary in let first = byte_more 0 a (simp add-zero p.0) p.1 in
      let second = byte_more 1 b q.0 q.1 in
      let third = byte_more 2 c r.0 r.1 in
      let fourth = byte_more 3 d s.0 s.1 in
      let fifth = byte_more 4 e t.0 t.1 in
      omega arith

-- ---- a window

module _ (size : ℕ) (few : size ≤ 21) where
  width : (1 * 2 ^ (size + 6)) % 2 ^ 64 ≡ 2 ^ (6 + size)
  width = shift_one (size + 6) 64 (omega arith) ∙ ap (λ (n : ℕ). 2 ^ n) (omega arith)

  pub window_divisor : 0 < (1 * 2 ^ (size + 6)) % 2 ^ 64
  window_divisor = rw width (pow_pos (6 + size))

  pub window_small : (x : ℕ) → x % ((1 * 2 ^ (size + 6)) % 2 ^ 64) < 2 ^ 32
  window_small x =
      let short : 6 + size ≤ 32 = omega arith in
      rw width (lt_of_lt_of_le (mod-lt x (pow_pos (6 + size))) (pow_mono short))

  pub window_of : (stream : List ℕ) (at bits : ℕ) → bits ≡ bits_from stream (8 * (at / 8)) 40
      → bits / 2 ^ (34 - size - at % 8) % ((1 * 2 ^ (size + 6)) % 2 ^ 64) ≡ bits_from stream at (6 + size)
  window_of stream at bits e =
      let long : 40 ≡ at % 8 + (6 + size) + (34 - size - at % 8) = omega arith in
      ap (λ (x : ℕ). bits / 2 ^ (34 - size - at % 8) % x) width
      ∙ ap (λ (x : ℕ). x / 2 ^ (34 - size - at % 8) % 2 ^ (6 + size)) (e ∙ ap (bits_from stream (8 * (at / 8))) long)
      ∙ binary_slice (at % 8) (6 + size) (34 - size - at % 8) (λ i. stream_bit stream (8 * (at / 8) + i))
      (λ i. stream_bit_lt stream (8 * (at / 8) + i))
      ∙ binary_cong (6 + size) _ (λ i. stream_bit stream (at + i)) (λ i lt. ap (stream_bit stream) (omega arith))
