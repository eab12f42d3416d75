-- Bytes written as digits, and read back.
--     digit_value                 the digit of a value has that value
--     writes_bytes, read_back     a line of digits of bytes writes them: read, it is the bytes again
use mathlib.Core.Path.{◌≡◌, sym, ap, ap₂, ◌∙◌}
use mathlib.Core.Bool.{true}
use mathlib.Core.List.{List}
use Prim.Native.Nat.{ℕ, ◌+◌, ◌-◌, ◌*◌, ◌/◌, ◌%◌, ◌^◌, ◌<◌}
use native.Mathlib.Decide.{dec_lt}
use native.Mathlib.Omega.{arith}
use lib.Dec.{ltb}
use lib.ListN.{length, get_or}
use borrow.Author.Tests.{lt-ltb, le-ltb, eq-eqb}
use Rattle.lists.proofs.Betweens.{between_yes, between_above}
use Rattle.lists.proofs.AllBelows.{all_yes}
use Rattle.lists.proofs.Tabs.{get_d_tab, tab_ext}
use Rattle.hexadecimal.specs.Digits.{value_of, digit_of, digit_at}
use Rattle.hexadecimal.specs.Bytes.{all_digits, writes, byte_at, bytes_in, digits_of_bytes}
use Rattle.hexadecimal.proofs.Bytes.{length_digits_of_bytes}

pub digit_value : (value : ℕ) → value < 16 → value_of (digit_of value) ≡ value
unfolding digit_of value_of
digit_value value few = elim (dec_lt value 10) [
  | yes h ↦ rw (lt-ltb value 10 h, between_yes 48 57 (48 + value) (omega arith) (omega arith)) (omega arith)
  | no h ↦
      rw (
        le-ltb value 10 (omega arith),
        between_above 48 57 (55 + value) (omega arith),
        between_yes 65 70 (55 + value) (omega arith) (omega arith),
      ) (omega arith)
]

place_value : (n k : ℕ) → value_of (digit_at n k) ≡ n / 16 ^ k % 16
place_value n k = unfold digit_at in digit_value (n / 16 ^ k % 16) (omega arith)

module _ (bytes : List ℕ) where
  abbrev line : List ℕ
  line = digits_of_bytes (2 * length bytes) bytes

  long : length line ≡ 2 * length bytes
  long = length_digits_of_bytes (2 * length bytes) bytes

  -- the value of the digit at a place
  value_at : (i : ℕ) → i < 2 * length bytes
      → value_of (get_or line i 0) ≡ get_or bytes (i / 2) 0 / 16 ^ (1 - i % 2) % 16
  value_at i lt =
      unfold digits_of_bytes in
      ap value_of (get_d_tab (2 * length bytes) (λ k. digit_at (get_or bytes (k / 2) 0) (1 - k % 2)) i lt)
      ∙ place_value (get_or bytes (i / 2) 0) (1 - i % 2)

  pub writes_bytes : writes (length bytes) line ≡ true
  unfolding writes all_digits
  writes_bytes =
      rw (eq-eqb (length line) (2 * length bytes) long)
      (all_yes (length line) (λ i. ltb (value_of (get_or line i 0)) 16) (λ i lt.
      lt-ltb (value_of (get_or line i 0)) 16 (omega (arith, value_at i (omega (arith, long))))))

  -- "two each", the higher half first
  halves : (k : ℕ) → k < length bytes → get_or bytes k 0 < 256 → get_or bytes k 0 ≡ byte_at line k
  unfolding byte_at
  halves k lt few =
      let even : 2 * k / 2 ≡ k = omega arith in
      let odd : (2 * k + 1) / 2 ≡ k = omega arith in
      let upper : 1 - 2 * k % 2 ≡ 1 = omega arith in
      let lower : 1 - (2 * k + 1) % 2 ≡ 0 = omega arith in
      let one : value_of (get_or line (2 * k) 0) ≡ get_or bytes k 0 / 16 % 16 =
      value_at (2 * k) (omega arith)
      ∙ ap₂ (λ (place half : ℕ). get_or bytes place 0 / 16 ^ half % 16) even upper in
      let other : value_of (get_or line (2 * k + 1) 0) ≡ get_or bytes k 0 / 1 % 16 =
      value_at (2 * k + 1) (omega arith)
      ∙ ap₂ (λ (place half : ℕ). get_or bytes place 0 / 16 ^ half % 16) odd lower in
      omega (arith, one, other, few)

  pub read_back : ((k : ℕ) → get_or bytes k 0 < 256) → bytes_in line ≡ bytes
  read_back few =
      unfold bytes_in in let half : length line / 2 ≡ length bytes = omega (arith, long) in
      sym (tab_ext (length line / 2) (byte_at line) bytes (sym half)
      (λ k lt. halves k (omega (arith, half, lt)) (few k)))
