-- The 120 symbols before a frame.
--     bit_small, history_bit_lt                   their bits are bits
--     history_none, history_more, history_all     no digits, a digit more, all of them
--     history_small                               up to five digits are below 32
use mathlib.Core.Path.{◌≡◌, refl, sym, ap, ap₂, ◌∙◌}
use mathlib.Core.Bool.{Bool, true, false, cond}
use mathlib.Core.List.{List}
use Prim.Native.Nat.{ℕ, ◌+◌, ◌-◌, ◌*◌, ◌%◌, ◌<◌, ◌≤◌}
use native.Mathlib.Numerals.{add-one}
use native.Mathlib.Omega.{arith}
use lib.Dec.{ltb}
use lib.ListN.{get_or}
use lib.Pow.{pow_mono}
use Rattle.lists.specs.Binary.{binary}
use Rattle.lists.proofs.Binaries.{binary_lt}
use Rattle.rules.specs.Bits.{delay_of, first_entry}
use Rattle.bit_interleaver.specs.Symbols.{entry_before, history_bit}

chosen_lt : (test : Bool) (n : ℕ) → cond test 0 (n % 2) < 2
chosen_lt true n = omega arith
chosen_lt false n = omega arith

entry_before_lt : (lines : List ℕ) (at size i : ℕ) → entry_before lines at size i < 2
unfolding entry_before
entry_before_lt lines at size i = chosen_lt (ltb (i + size) 120) (get_or lines (at + (i + size - 120)) 0)

pub bit_small : {bit : ℕ} (lines : List ℕ) (at size i : ℕ) → bit ≡ entry_before lines at size i → bit < 2
bit_small lines at size i e = rw e (entry_before_lt lines at size i)

module _ (v : ℕ) (lines : List ℕ) (i : ℕ) where
  pub history_bit_lt : (l : ℕ) → history_bit v lines i l < 2
  history_bit_lt l = unfold history_bit in entry_before_lt lines (first_entry v l) (delay_of v l) i

  pub history_small : {symbol : ℕ} (l : ℕ) → symbol ≡ binary l (history_bit v lines i) → l ≤ 5 → symbol < 32
  history_small l e h =
      let p = pow_mono {i = l} {j = 5} h in
      let b = binary_lt l (history_bit v lines i) history_bit_lt in
      omega arith

  pub history_none : 0 ≡ binary 0 (history_bit v lines i)
  unfolding binary
  history_none = refl

  pub history_more : {at size symbol bit : ℕ} (l : ℕ) → at ≡ first_entry v l → size ≡ delay_of v l
      → symbol ≡ binary l (history_bit v lines i) → bit ≡ entry_before lines at size i
      → symbol * 2 + bit ≡ binary (l + 1) (history_bit v lines i)
  unfolding binary history_bit
  history_more l begins is e d =
      ap₂ (λ (x y : ℕ). x * 2 + y) e (d ∙ ap₂ (λ (a s : ℕ). entry_before lines a s i) begins is)
      ∙ ap (λ (n : ℕ). binary n (history_bit v lines i)) (sym (add-one l))

  pub history_all : {symbol : ℕ} (l : ℕ) → symbol ≡ binary l (history_bit v lines i) → l ≡ v
      → symbol ≡ binary v (history_bit v lines i)
  history_all l e same = e ∙ ap (λ (n : ℕ). binary n (history_bit v lines i)) same
