-- Entries of which the first are bits and the others zero, and those of them that are in range.
--     bit_fine, bit_few         an entry that is 0 or 1, and zero where it isn't used, is in range; one in range is 0
--                               or 1
--     bits_fine, bits_at        all entries are in range, and each of them is
--     zeros_fine                zeros are
use mathlib.Core.Path.{◌≡◌}
use mathlib.Core.Bool.{true}
use mathlib.Core.List.{List}
use Prim.Native.Nat.{ℕ, ◌<◌, ◌≤◌}
use native.Mathlib.Decide.{dec_lt}
use native.Mathlib.Omega.{arith}
use lib.ListN.{length, get_or, replicate, length-replicate, get_or-replicate, get_or-eq_default}
use borrow.Author.Tests.{lt-ltb, le-ltb, ltb-true}
use Rattle.lists.specs.Tests.{bit_or_zero, bits_then_zeros}
use Rattle.lists.proofs.AllBelows.{all_yes, all_at}

module _ (used : ℕ) (entries : List ℕ) where
  module _ (place : ℕ) where
    pub bit_fine : get_or entries place 0 < 2 → (used ≤ place → get_or entries place 0 ≡ 0)
        → bit_or_zero used entries place ≡ true
    bit_fine few zero = unfold bit_or_zero in elim (dec_lt place used) [
      | yes k ↦ rw (lt-ltb place used k) (lt-ltb (get_or entries place 0) 2 few)
      | no k ↦
          rw (le-ltb place used (omega arith)) (lt-ltb (get_or entries place 0) 1 (omega (arith, zero (omega arith))))
    ]

    pub bit_few : bit_or_zero used entries place ≡ true → get_or entries place 0 < 2
    bit_few e = unfold bit_or_zero in elim (dec_lt place used) [
      | yes h ↦ ltb-true (get_or entries place 0) 2 (rw (lt-ltb place used h) at e)
      | no h ↦ (let one = ltb-true (get_or entries place 0) 1
          (rw (le-ltb place used (omega arith)) at e) in omega arith)
    ]

  pub bits_fine : ((k : ℕ) → k < length entries → bit_or_zero used entries k ≡ true) → bits_then_zeros used entries
      ≡ true
  bits_fine = unfold bits_then_zeros in all_yes (length entries) (bit_or_zero used entries)

  -- behind the last entry too
  pub bits_at : bits_then_zeros used entries ≡ true → (k : ℕ) → bit_or_zero used entries k ≡ true
  bits_at e k = unfold bits_then_zeros in elim (dec_lt k (length entries)) [
    | yes h ↦ all_at (length entries) (bit_or_zero used entries) e k h
    | no h ↦
        let zero = get_or-eq_default entries 0 {n = k} (omega arith) in
        bit_fine k (omega arith) (λ unused. zero)
  ]

pub zeros_fine : (used n : ℕ) → bits_then_zeros used (replicate n 0) ≡ true
zeros_fine used n =
    bits_fine used (replicate n 0) (λ k lt.
    let zero = get_or-replicate n k 0 0 (omega (arith, length-replicate {A = ℕ} n 0)) in
    bit_fine used (replicate n 0) k (omega arith) (λ unused. zero))
