-- Block s of a message, from its own bits and the six before them.
--     block_register, block_message     what the block's bits hold
--     block_is_kept                     the kept bits made from the block's bits are kept bits 24 s to 24 s + 23
use mathlib.Core.Path.{◌≡◌, sym, ap, ◌∙◌}
use Prim.Native.Nat.{ℕ, suc, ◌+◌, ◌-◌, ◌*◌, ◌/◌, ◌%◌, ◌^◌, ◌<◌}
use native.Mathlib.Nat.{mod-mod}
use native.Mathlib.Omega.{arith}
use Rattle.lists.specs.Binary.{binary}
use Rattle.lists.proofs.Binaries.{binary_cong, binary_front, binary_digit}
use Rattle.settings.specs.Sizes.{packets_by_rate}
use Rattle.settings.proofs.LegalSettings.{LegalRate}
use Rattle.rules.specs.Code.{bit_back, window, register_after}
use Rattle.convolutional_code.specs.CodeTable.{turned}
use Rattle.rules.proofs.CodeWindows.{back_lt, back_message, back_shift, window_cong, window_from}
use Rattle.rules.specs.Puncturing.{kept_bit}
use Rattle.puncturing.specs.Block.{block_bits, block_kept, block_of}
use Rattle.rules.proofs.Sources.{source_of, source_block, is_x_block, source_in_block}
use Rattle.rules.proofs.Kept.{kept_same}

module _ (rate register : ℕ) (message : ℕ → ℕ) (s : ℕ) where
  -- bit i of the block's bits, six of which lie before the block
  old : ℕ → ℕ
  old i = bit_back register message (packets_by_rate rate * s + i) 6

  old_lt : (i : ℕ) → old i < 2
  old_lt i = unfold old in back_lt register message (packets_by_rate rate * s + i) 6

  -- turned, the six oldest bits are the register before the block
  pub block_register : turned 6 (block_bits rate register message s / 2 ^ packets_by_rate rate)
      ≡ register_after register message (packets_by_rate rate * s)
  unfolding turned register_after block_bits old
  block_register =
      ap (turned 6) (binary_front 6 (packets_by_rate rate) old old_lt) ∙ binary_cong 6 _ _ place
    where
      place : (k : ℕ) → k < 6 → binary 6 old / 2 ^ k % 2 ≡ bit_back register message (packets_by_rate rate * s) (suc k)
      place k lt =
          let p : 6 ≡ suc (5 - k) + k = omega arith in
          let q : 6 ≡ suc k + (5 - k) = omega arith in
          ap (λ (m : ℕ). binary m old / 2 ^ k % 2) p ∙ binary_digit (5 - k) k old old_lt
          ∙ ap (bit_back register message (packets_by_rate rate * s + (5 - k))) q
          ∙ back_shift register message (packets_by_rate rate * s) (suc k) (5 - k)

  -- the others are its message bits
  pub block_message : (n : ℕ) → n < packets_by_rate rate
      → block_bits rate register message s / 2 ^ (packets_by_rate rate - 1 - n) % 2
      ≡ message (packets_by_rate rate * s + n) % 2
  unfolding block_bits old
  block_message n lt =
      let p : 6 + packets_by_rate rate ≡ suc (6 + n) + (packets_by_rate rate - 1 - n) = omega arith in
      let q : packets_by_rate rate * s + (6 + n) - 6 ≡ packets_by_rate rate * s + n = omega arith in
      ap (λ (m : ℕ). binary m old / 2 ^ (packets_by_rate rate - 1 - n) % 2) p
      ∙ binary_digit (6 + n) (packets_by_rate rate - 1 - n) old old_lt
      ∙ back_message register message (packets_by_rate rate * s + (6 + n)) 6 (omega arith)
      ∙ ap (λ (i : ℕ). message i % 2) q

-- The kept bits made from the block's bits are the frame's own.
pub block_is_kept : {rate : ℕ} → LegalRate rate → (register : ℕ) (message : ℕ → ℕ) (s : ℕ)
    → block_of rate (block_bits rate register message s) ≡ block_kept rate register message s
unfolding block_of block_kept
block_is_kept {rate} legal register message s = binary_cong 24 _ _ place
  where
    bits : ℕ
    bits = block_bits rate register message s

    own : ℕ → ℕ
    own n = bits / 2 ^ (packets_by_rate rate - 1 - n) % 2

    seen : (n : ℕ) → n < packets_by_rate rate
        → window (turned 6 (bits / 2 ^ packets_by_rate rate)) own n
        ≡ window register message (packets_by_rate rate * s + n)
    seen n lt =
        ap (λ (r : ℕ). window r own n) (block_register rate register message s)
        ∙ window_cong (register_after register message (packets_by_rate rate * s)) own
        (λ i. message (packets_by_rate rate * s + i)) n
        (λ i le. mod-mod (bits / 2 ^ (packets_by_rate rate - 1 - i)) 2
        ∙ block_message rate register message s i (omega arith))
        ∙ window_from register message (packets_by_rate rate * s) n

    place : (i : ℕ) → i < 24
        → kept_bit rate (turned 6 (bits / 2 ^ packets_by_rate rate)) own i ≡ kept_bit rate register message (24 * s + i)
    place i lt =
        kept_same legal _ register own message i (24 * s + i) (sym (is_x_block legal s i))
        (seen (source_of rate i) (source_in_block legal i lt)
        ∙ ap (window register message) (sym (source_block legal s i)))
