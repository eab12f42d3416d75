-- A dispersed word, byte by byte.
--     below, last, past     a byte before byte 203, byte 203, and one behind the word
use mathlib.Core.Path.{◌≡◌, sym}
use mathlib.Core.Bool.{cond}
use mathlib.Core.List.{List}
use Prim.Native.Nat.{ℕ, ◌<◌, ◌≤◌}
use native.Mathlib.Omega.{arith}
use lib.Bits.{bit_xor}
use lib.Dec.{ltb}
use lib.ListN.{get_or}
use borrow.Author.Tests.{lt-ltb, le-ltb}
use Rattle.std.proofs.lemmas.List.{get_or_past}
use Rattle.lists.proofs.Tabs.{length_tab, get_d_tab}
use Rattle.dispersal.specs.Register.{added}

module _ (word sequence : List ℕ) (j : ℕ) where
  byte : j < 204 → get_or (added word sequence) j 0
      ≡ cond (ltb j 203) (bit_xor (get_or word j 0) (get_or sequence j 0)) (get_or word j 0)
  byte h =
      unfold added in
      get_d_tab 204 (λ k. cond (ltb k 203) (bit_xor (get_or word k 0) (get_or sequence k 0)) (get_or word k 0)) j h

  pub below : j < 203 → bit_xor (get_or word j 0) (get_or sequence j 0) ≡ get_or (added word sequence) j 0
  below h = rw (byte (omega arith), lt-ltb j 203 h)

  pub last : j ≡ 203 → get_or word 203 0 ≡ get_or (added word sequence) j 0
  last e = rw (byte (omega arith), le-ltb j 203 (omega arith), e)

  pub past : 204 ≤ j → 0 ≡ get_or (added word sequence) j 0
  unfolding added
  past h =
      let long = length_tab 204
      (λ k. cond (ltb k 203) (bit_xor (get_or word k 0) (get_or sequence k 0)) (get_or word k 0)) in
      sym (get_or_past _ j 0 (omega arith))
