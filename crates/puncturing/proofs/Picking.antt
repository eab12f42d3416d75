-- The kept bits of a block are picked from the table of coded bits by the windows in the block's bits.
--     picked_is_block     so the 24 picked bits are the block's
use mathlib.Core.Path.{◌≡◌, refl, sym, ap, ap₂, ◌∙◌}
use mathlib.Core.Bool.{Bool, true, false, cond}
use mathlib.Core.List.{List}
use Prim.Native.Nat.{ℕ, ◌+◌, ◌-◌, ◌/◌, ◌%◌, ◌^◌, ◌≤◌, ◌<◌}
use native.Mathlib.Nat.{mod-mod, zero-add}
use native.Mathlib.Decide.{dec_le}
use native.Mathlib.Omega.{arith}
use lib.ListN.{get_or}
use lib.Pow.{shr-shr}
use borrow.Author.Tests.{lt-ltb, le-ltb}
use Rattle.lists.specs.Binary.{binary}
use Rattle.lists.specs.Tab.{tab}
use Rattle.lists.proofs.Binaries.{binary_cong}
use Rattle.lists.proofs.Tabs.{get_d_tab}
use Rattle.settings.specs.Sizes.{packets_by_rate}
use Rattle.settings.proofs.LegalSettings.{LegalRate}
use Rattle.rules.specs.Code.{bit_back, window, parity, coded_x, coded_y}
use Rattle.convolutional_code.specs.CodeTable.{turned, code_entry}
use Rattle.rules.proofs.CodeWindows.{back_message, back_register}
use Rattle.convolutional_code.proofs.Turning.{turned_digit, turned_mod}
use Rattle.rules.specs.Puncturing.{kept_bit}
use Rattle.puncturing.specs.Block.{block_of}
use Rattle.puncturing.specs.Steps.{shift_of, base_of, picked_bit}
use Rattle.rules.proofs.Sources.{source_of, kept_is_x, indexed_bit, source_in_block}
use Rattle.rules.proofs.Punctured.{kept_is}

-- the entry for a window that has its newest bit lowest
entry_y : (x : ℕ) → code_entry (x % 128) ≡ parity 0o133 (turned 7 x)
entry_y x = unfold code_entry in rw (lt-ltb (x % 128) 128 (omega arith)) (ap (parity 0o133) (turned_mod 7 x))

entry_x : (x : ℕ) → code_entry (128 + x % 128) ≡ parity 0o171 (turned 7 x)
entry_x x =
    unfold code_entry in let e : (128 + x % 128) % 2 ^ 7 ≡ x % 2 ^ 7 = omega arith in
    rw (le-ltb (128 + x % 128) 128 (omega arith))
    (ap (parity 0o171) (sym (turned_mod 7 (128 + x % 128)) ∙ ap (turned 7) e ∙ turned_mod 7 x))

-- ---- the window of message bit n in a block's bits

module _ (count bits n : ℕ) (lt : n < count) where
  own : ℕ → ℕ
  own i = bits / 2 ^ (count - 1 - i) % 2

  shifted : (k e : ℕ) → count - 1 - n + k ≡ e → bits / 2 ^ (count - 1 - n) / 2 ^ k % 2 ≡ bits / 2 ^ e % 2
  shifted k e p = ap (λ (x : ℕ). x % 2) (shr-shr bits (count - 1 - n) k) ∙ ap (λ (m : ℕ). bits / 2 ^ m % 2) p

  seen : (k : ℕ) → k < 7
      → bits / 2 ^ (count - 1 - n) / 2 ^ k % 2 ≡ bit_back (turned 6 (bits / 2 ^ count)) own n k
  unfolding own
  seen k few = go (dec_le k n)
    where
      go : Dec (k ≤ n) → bits / 2 ^ (count - 1 - n) / 2 ^ k % 2 ≡ bit_back (turned 6 (bits / 2 ^ count)) own n k
      go (yes h) =
          shifted k (count - 1 - (n - k)) (omega arith) ∙ sym (mod-mod (bits / 2 ^ (count - 1 - (n - k))) 2)
          ∙ sym (back_message (turned 6 (bits / 2 ^ count)) own n k h)
      go (no h) =
          let p : 6 - 1 - (k - n - 1) ≡ 6 - (k - n) = omega arith in
          shifted k (count + (k - n - 1)) (omega arith)
          ∙ ap (λ (x : ℕ). x % 2) (sym (shr-shr bits count (k - n - 1)))
          ∙ sym (turned_digit 6 (bits / 2 ^ count) (k - n - 1) (omega arith))
          ∙ ap (λ (e : ℕ). turned 6 (bits / 2 ^ count) / 2 ^ e % 2) p
          ∙ sym (back_register (turned 6 (bits / 2 ^ count)) own n k (omega arith))

  window_in_bits : turned 7 (bits / 2 ^ (count - 1 - n)) ≡ window (turned 6 (bits / 2 ^ count)) own n
  window_in_bits = unfold turned window in binary_cong 7 _ _ seen

inside : (b : Bool) (x : ℕ) → cond b 128 0 + x % 128 < 256
inside true x = omega arith
inside false x = omega arith

-- The 24 picked bits are the block's.
pub picked_is_block : {rate : ℕ} → LegalRate rate → (code shifts bases : List ℕ) (bits : ℕ) → code ≡ tab 256 code_entry
    → shifts ≡ tab 24 (shift_of rate) → bases ≡ tab 24 (base_of rate)
    → binary 24 (picked_bit code shifts bases bits) ≡ block_of rate bits
unfolding block_of own shift_of base_of picked_bit indexed_bit coded_x coded_y
picked_is_block {rate} legal code shifts bases bits codes shift base = binary_cong 24 _ _ place
  where
    message : ℕ → ℕ
    message n = bits / 2 ^ (packets_by_rate rate - 1 - n) % 2

    register : ℕ
    register = turned 6 (bits / 2 ^ packets_by_rate rate)

    at : ℕ → ℕ
    at i = bits / 2 ^ shift_of rate i

    same : (i : ℕ) → i < 24 → turned 7 (at i) ≡ window register message (source_of rate i)
    same i lt = window_in_bits (packets_by_rate rate) bits (source_of rate i) (source_in_block legal i lt)

    go : (i : ℕ) → i < 24 → (b : Bool) → kept_is_x rate i ≡ b → code_entry (cond b 128 0 + at i % 128)
        ≡ cond b (coded_x register message (source_of rate i)) (coded_y register message (source_of rate i))
    go i lt true e = entry_x (at i) ∙ ap (parity 0o171) (same i lt)
    go i lt false e = ap code_entry (zero-add (at i % 128)) ∙ entry_y (at i) ∙ ap (parity 0o133) (same i lt)

    place : (i : ℕ) → i < 24 → picked_bit code shifts bases bits i ≡ kept_bit rate register message i
    place i lt =
        ap₂ (λ (x y : ℕ). get_or code (x + bits / 2 ^ y % 128) 0)
        (ap (λ (l : List ℕ). get_or l i 0) base ∙ get_d_tab 24 (base_of rate) i lt)
        (ap (λ (l : List ℕ). get_or l i 0) shift ∙ get_d_tab 24 (shift_of rate) i lt)
        ∙ ap (λ (l : List ℕ). get_or l (base_of rate i + at i % 128) 0) codes
        ∙ get_d_tab 256 code_entry (base_of rate i + at i % 128) (inside (kept_is_x rate i) (at i))
        ∙ go i lt (kept_is_x rate i) refl ∙ sym (kept_is legal register message i)
