-- The slots that a frame gives, laid end to end.
--     slots_front     the front of an area whose slots are known, one by one
--     given_most      a frame gives at most P packets
use mathlib.Core.Path.{◌≡◌, refl, sym, ap, ap₂, ◌∙◌}
use mathlib.Core.List.{List, ◌++◌}
use Prim.Native.Nat.{ℕ, zero, suc, ◌+◌, ◌*◌, ◌<◌, ◌≤◌}
use native.Mathlib.Omega.{arith}
use lib.ListN.{length, get_or, take, length-take}
use lib.Seq.{get_or-take}
use Rattle.lists.specs.Tab.{tab, part_of, laid}
use Rattle.lists.proofs.Tabs.{tab_ext, tab_cong, tab_join}
use Rattle.receiving_answers.specs.Receiving.{slot_of}
use Rattle.demands.specs.Frames.{given_packets}
use Rattle.whole_texts.specs.ThereAndBack.{each_from}

module _ (slots : List ℕ) (row : ℕ → List ℕ) where
  -- slots i to i + n − 1, which are lists g to g + n − 1 of the row
  laid_from : (n i g : ℕ) → ((j : ℕ) → j < n → slot_of slots (i + j) ≡ row (g + j))
      → laid (each_from row g n) ≡ part_of slots (189 * i) (189 * n)
  unfolding laid each_from tab slot_of
  laid_from zero i g are = refl
  laid_from (suc n) i g are =
      let here : row g ≡ slot_of slots i =
      ap row (omega arith) ∙ sym (are 0 (omega arith)) ∙ ap (slot_of slots) (omega arith) in
      let place : (j : ℕ) → 189 * suc i + j ≡ 189 * i + (189 + j) = λ j. omega arith in
      let size : 189 * suc n ≡ 189 + 189 * n = omega arith in
      let then = laid_from n (suc i) (suc g) (λ j lt.
      ap (slot_of slots) (omega arith) ∙ are (suc j) (omega arith) ∙ ap row (omega arith)) in
      ap₂ (λ (x y : List ℕ). x ++ y) here
      (then ∙ tab_cong (189 * n) _ _ (λ k lt. ap (λ (p : ℕ). get_or slots p 0) (place k)))
      ∙ sym (tab_join 189 (189 * n) (λ k. get_or slots (189 * i + k) 0))
      ∙ ap (λ (m : ℕ). part_of slots (189 * i) m) (sym size)

  pub slots_front : (n g : ℕ) → 189 * n ≤ length slots → ((i : ℕ) → i < n → slot_of slots i ≡ row (g + i))
      → take (189 * n) slots ≡ laid (each_from row g n)
  slots_front n g room are =
      tab_ext (189 * n) _ (take (189 * n) slots) (omega (arith, length-take (189 * n) slots))
      (λ k lt. get_or-take (189 * n) slots k 0 lt ∙ ap (λ (p : ℕ). get_or slots p 0) (omega arith))
      ∙ sym (laid_from n 0 g (λ j lt. ap (slot_of slots) (omega arith) ∙ are j lt))

pub given_most : (count f : ℕ) → given_packets count f ≤ count
unfolding given_packets
given_most count zero = omega arith
given_most count (suc f) = omega arith
