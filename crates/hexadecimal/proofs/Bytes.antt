-- Bytes as digits.
--     digit_none, digit_high, digit_low     the digit at a place: behind the last byte, of a byte's higher half, of
--                                           its lower half
--     digit_below                           the value of a digit of a line of digits
--     found, found_is                       what is read of a byte that is a digit
--     all_from_cases                        whether all bytes are digits, from what is known of each
--     reads, long_not, digits_not           whether a line writes so many bytes
--     area_read, area_stays                 what reading leaves then, and otherwise
--     length_bytes, length_digits_of_bytes  how many
use mathlib.Core.Path.{◌≡◌, refl, sym, ap}
use mathlib.Core.Bool.{Bool, true, false, ◌&&◌}
use mathlib.Core.List.{List}
use Prim.Native.Nat.{ℕ, ◌-◌, ◌*◌, ◌/◌, ◌%◌, ◌^◌, ◌<◌, ◌≤◌}
use native.Mathlib.Nat.{zero-div}
use native.Mathlib.Omega.{arith}
use Rattle.std.proofs.Common.{Option, Some, None, MatchBool}
use Rattle.std.specs.List.{AllWithin, HoldsAt}
use Rattle.std.specs.Option.{IsSome, MatchOption}
use lib.Dec.{eqb, ltb}
use lib.ListN.{length, get_or, get_or-eq_default}
use borrow.Author.Tests.{ltb-true, lt-ltb, le-ltb, eq-eqb, ne_eqb}
use Rattle.lists.proofs.AllBelows.{all_at, all_yes, all_no}
use Rattle.lists.proofs.Tabs.{length_tab}
use Rattle.hexadecimal.specs.Digits.{value_of, digit_of, digit_at}
use Rattle.hexadecimal.specs.Bytes.{all_digits, writes, byte_at, bytes_in, digits_of_bytes, read_into}

zero_digit : (k : ℕ) → 48 ≡ digit_at 0 k
zero_digit k = unfold digit_at digit_of in rw (zero-div (16 ^ k)) refl

pub digit_none : (bytes : List ℕ) (i : ℕ) → length bytes ≤ i / 2 → 48 ≡ digit_at (get_or bytes (i / 2) 0) (1 - i % 2)
digit_none bytes i h = rw (get_or-eq_default bytes 0 h) (zero_digit (1 - i % 2))

pub digit_high : (byte i : ℕ) → i % 2 ≡ 0 → digit_of (byte / 16 % 16) ≡ digit_at byte (1 - i % 2)
digit_high byte i e = unfold digit_at in rw e refl

pub digit_low : (byte i : ℕ) → (i % 2 ≡ 0 → ⊥) → digit_of (byte % 16) ≡ digit_at byte (1 - i % 2)
digit_low byte i ne =
    unfold digit_at in let one : 1 - i % 2 ≡ 0 = omega arith in
    let same : byte / 1 ≡ byte = omega arith in
    rw one (ap (λ (n : ℕ). digit_of (n % 16)) (sym same))

pub digit_below : (line : List ℕ) → all_digits line ≡ true → (i : ℕ) → i < length line → value_of (get_or line i 0) < 16
unfolding all_digits
digit_below line e i h = ltb-true _ 16 (all_at (length line) (λ k. ltb (value_of (get_or line k 0)) 16) e i h)

-- what `value` answers of a byte
abbrev pub Found : ℕ → Option ℕ → Type 0
Found byte answer = MatchOption answer (value_of byte ≡ 16) (λ v. (v ≡ value_of byte) × (v < 16))

pub found : (byte : ℕ) (answer : Option ℕ) → value_of byte < 16 → Found byte answer → IsSome answer
found byte None few none = absurd (omega arith)
found byte (Some v) few is = refl

pub found_is : (byte : ℕ) (answer : Option ℕ) (v : ℕ) → answer ≡ Some v → Found byte answer → v ≡ value_of byte
found_is byte None v e none = cc
found_is byte (Some w) v e is = cc (is.0)

pub all_from_cases : (r : Bool) (line : List ℕ)
    → MatchBool r (AllWithin (λ x. value_of x < 16) line 0 (length line))
    ((k : ℕ) × (k < length line) × HoldsAt (λ x. value_of x ≡ 16) line k) → r ≡ all_digits line
unfolding all_digits
all_from_cases true line all = sym (all_yes _ _ (λ k lt. lt-ltb _ 16 (all k 0 (omega arith) lt)))
all_from_cases false line one =
    sym (all_no _ _ one.0 one.1 (le-ltb _ 16 (let large = one.2 0 in omega arith)))

module _ (line area : List ℕ) where
  pub reads : length line ≡ 2 * length area → all_digits line ≡ true → writes (length area) line ≡ true
  reads e d = unfold writes in rw (eq-eqb (length line) (2 * length area) e) d

  pub long_not : (length line ≡ 2 * length area → ⊥) → writes (length area) line ≡ false
  long_not ne = unfold writes in rw (ne_eqb (length line) (2 * length area) ne) refl

  and_no : (a : Bool) → (a && false) ≡ false
  and_no true = refl
  and_no false = refl

  pub digits_not : all_digits line ≡ false → writes (length area) line ≡ false
  digits_not d = unfold writes in rw d (and_no (eqb (length line) (2 * length area)))

  pub area_stays : writes (length area) line ≡ false → area ≡ read_into line area
  area_stays e = unfold read_into in rw e refl

  pub area_read : writes (length area) line ≡ true → bytes_in line ≡ read_into line area
  area_read e = unfold read_into in rw e refl

pub length_bytes : (line : List ℕ) → length (bytes_in line) ≡ length line / 2
length_bytes line = unfold bytes_in in length_tab (length line / 2) (byte_at line)

pub length_digits_of_bytes : (count : ℕ) (bytes : List ℕ) → length (digits_of_bytes count bytes) ≡ count
unfolding digits_of_bytes
length_digits_of_bytes count bytes = length_tab count (λ i. digit_at (get_or bytes (i / 2) 0) (1 - i % 2))
