-- The carriers that are shown: a part of an area that held zeros and was lent to the coder.
--     lent                                the part that is lent
--     shown_few, shown_is, shown_fits     what is shown of the area behind the call
use mathlib.Core.Path.{◌≡◌, refl, sym, ap, ap₂, ◌∙◌, subst}
use mathlib.Core.Bool.{Bool, true, false, cond}
use mathlib.Core.List.{List, ◌++◌}
use Prim.Native.Nat.{ℕ, ◌+◌, ◌-◌, ◌*◌, ◌≤◌}
use native.Mathlib.Omega.{arith}
use lib.Dec.{eqb}
use lib.ListN.{length, take, replicate, length-replicate, length-take, length-append}
use lib.Seq.{take-append-le}
use borrow.Author.Tests.{eq-eqb}
use Rattle.lists.proofs.Tabs.{length_tab}
use Rattle.settings.specs.Legal.{starting}
use Rattle.settings.specs.Sizes.{C, carriers_of}
use Rattle.coding_state.specs.declared.State.{State}
use Rattle.coding_answers.specs.Coding.{coding, carriers_of_frame, coded_into}
use Rattle.text_lines.specs.First.{small}
use Rattle.text_lines.proofs.Small.{small_legal, small_sizes}
use Rattle.text_lines.proofs.Areas.{blank_part}
use Rattle.coding_lines.specs.Lines.{blank_carriers, shown_of}

module _ (state : State) (packets area : List ℕ) (fine : small state.settings ≡ true)
    (is : area ≡ replicate 39168 0) where
  few : carriers_of state.settings ≤ 39168
  few = (small_sizes state.settings fine).1

  pub lent : (count : ℕ) → count ≡ carriers_of state.settings → take (count - 0) area ≡ blank_carriers state
  lent count e =
      unfold blank_carriers in let same : count - 0 ≡ carriers_of state.settings = omega arith in
      ap₂ (λ (n : ℕ) (l : List ℕ). take n l) same is ∙ blank_part 39168 (carriers_of state.settings) few

  -- as many as there are places for
  coded_long : length (coded_into state packets (blank_carriers state)) ≡ carriers_of state.settings
  unfolding coded_into carriers_of_frame blank_carriers carriers_of
  coded_long = go (eqb (coding state packets (blank_carriers state)) 0)
    where
      one : eqb (starting state.settings) 0 ≡ true
      one = eq-eqb (starting state.settings) 0 (small_legal state.settings fine).0

      go : (b : Bool)
          → length (cond b (carriers_of_frame state packets) (replicate (carriers_of state.settings) 0))
          ≡ carriers_of state.settings
      go true = length_tab (C state.settings) _ ∙ rw one refl
      go false = length-replicate {A = ℕ} (carriers_of state.settings) 0

  module _ (count number shown : ℕ) (last rest : List ℕ) (size : count ≡ carriers_of state.settings)
      (told : number ≡ coding state packets (take (count - 0) area))
      (coded : last ≡ coded_into state packets (take (count - 0) area))
      (many : shown ≡ shown_of number count) where
    told_is : number ≡ coding state packets (blank_carriers state)
    told_is = told ∙ ap (λ (l : List ℕ). coding state packets l) (lent count size)

    coded_is : last ≡ coded_into state packets (blank_carriers state)
    coded_is = coded ∙ ap (λ (l : List ℕ). coded_into state packets l) (lent count size)

    shown_most : shown ≤ count
    unfolding shown_of
    shown_most = subst (λ (n : ℕ). n ≤ count) (sym many) (go (eqb number 0))
      where
        go : (b : Bool) → cond b count 0 ≤ count
        go true = omega arith
        go false = omega arith

    long : length last ≡ count
    long = ap length coded_is ∙ coded_long ∙ sym size

    pub shown_few : shown ≤ length (last ++ rest)
    shown_few = omega (arith, length-append last rest, long, shown_most)

    pub shown_is : take (shown - 0) (last ++ rest)
        ≡ take (shown_of (coding state packets (blank_carriers state)) (carriers_of state.settings))
        (coded_into state packets (blank_carriers state))
    shown_is =
        let same : shown - 0 ≡ shown = omega arith in
        ap (λ (n : ℕ). take n (last ++ rest)) same ∙ take-append-le shown last rest (omega (arith, long, shown_most))
        ∙ ap₂ (λ (n : ℕ) (l : List ℕ). take n l) (many ∙ ap₂ shown_of told_is size) coded_is

    pub shown_fits : (room : ℕ) → 78339 ≤ room → 2 * length (take (shown - 0) (last ++ rest)) + 3 ≤ room
    shown_fits room enough = omega (arith, length-take (shown - 0) (last ++ rest), shown_most, few, size)
