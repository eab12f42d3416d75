-- The slots that are shown: a part of an area that held zeros and was lent to the receiver.
--     given_most                          a call gives at most P packets
--     lent                                the part that is lent
--     shown_few, shown_is, shown_fits     what is shown of the area behind the call
use mathlib.Core.Path.{◌≡◌, refl, ap, ap₂, ◌∙◌, subst}
use mathlib.Core.Bool.{true}
use mathlib.Core.List.{List, ◌++◌}
use Prim.Native.Nat.{ℕ, ◌+◌, ◌-◌, ◌*◌, ◌≤◌}
use native.Mathlib.Decide.{ℕ_discrete}
use native.Mathlib.Omega.{arith}
use lib.ListN.{length, take, replicate, length-replicate, length-take, length-append}
use lib.Seq.{take-append-le}
use borrow.Author.Tests.{eq-eqb, ne_eqb}
use Rattle.settings.specs.Legal.{starting}
use Rattle.settings.specs.Sizes.{P, packets_of}
use Rattle.receiving_state.specs.declared.State.{State}
use Rattle.receiving_answers.specs.Entry.{Received}
use Rattle.receiving_state.specs.State.{good_receiving_state}
use Rattle.receiving_answers.specs.Receiving.{receiving, given_of, count_received}
use Rattle.receiving_answers.specs.Entry.{Back}
use Rattle.receiving_answers.proofs.After.{accepted, first_counts, later_counts}
use Rattle.text_lines.specs.First.{small}
use Rattle.text_lines.proofs.Small.{small_legal, small_sizes}
use Rattle.text_lines.proofs.Areas.{blank_part}
use Rattle.receiving_lines.specs.Lines.{blank_slots}

module _ (state : State) (carriers : List ℕ) (fine : small state.settings ≡ true) where
  packets_are : packets_of state.settings ≡ P state.settings
  unfolding packets_of
  packets_are = rw (eq-eqb (starting state.settings) 0 (small_legal state.settings fine).0) refl

  few : packets_of state.settings ≤ 126
  few = (small_sizes state.settings fine).0

  given_of_is : good_receiving_state state ≡ true → given_of state ≤ P state.settings
  given_of_is good = elim (ℕ_discrete state.taken 0) [
    | yes e ↦ let is = (first_counts state good e).1 in omega (arith, is)
    | no ne ↦ let is = (later_counts state good ne).1 in omega (arith, is)
  ]

  given_most : (slots : List ℕ) (r : Received) (slots' : List ℕ) → Back state carriers slots r slots'
      → r.given ≤ packets_of state.settings
  unfolding count_received
  given_most slots r slots' back = elim (ℕ_discrete (receiving state carriers slots) 0) [
    | yes e ↦
        let count : r.given ≡ given_of state = back.given_is ∙ rw (eq-eqb (receiving state carriers slots) 0 e) refl in
        let most = given_of_is (accepted state carriers slots e).good in
        omega (arith, count, most, packets_are)
    | no ne ↦ let count : r.given ≡ 0 = back.given_is ∙ rw (ne_eqb (receiving state carriers slots) 0 ne) refl in
        omega (arith, count)
  ]

  module _ (area : List ℕ) (is : area ≡ replicate 23814 0) (count : ℕ)
      (size : count ≡ packets_of state.settings) where
    pub lent : take (189 * count - 0) area ≡ blank_slots state
    lent =
        unfold blank_slots in let same : 189 * count - 0 ≡ 189 * packets_of state.settings = omega arith in
        ap₂ (λ (n : ℕ) (l : List ℕ). take n l) same is
        ∙ blank_part 23814 (189 * packets_of state.settings) (omega (arith, few))

    module _ (r : Received) (last : List ℕ) (back : Back state carriers (take (189 * count - 0) area) r last) where
      pub back_blank : Back state carriers (blank_slots state) r last
      back_blank = subst (λ (l : List ℕ). Back state carriers l r last) lent back

      back_long : length last ≡ length (blank_slots state)
      back_long = elim (ℕ_discrete (receiving state carriers (blank_slots state)) 0) [
        | yes e ↦ (back_blank.slots_are e).long
        | no ne ↦ ap length (back_blank.slots_stay ne)
      ]

      long : length last ≡ 189 * packets_of state.settings
      long = unfold blank_slots in back_long ∙ length-replicate {A = ℕ} (189 * packets_of state.settings) 0

      pub given_few : r.given ≤ 126
      given_few = omega (arith, given_most _ _ _ back, few)

      -- so many slots are shown as the call gave
      module _ (rest : List ℕ) (shown : ℕ) (shows : shown ≡ r.given) where
        pub shown_few : 189 * shown ≤ length (last ++ rest)
        shown_few = omega (arith, length-append last rest, long, given_most _ _ _ back)

        pub shown_is : take (189 * shown - 0) (last ++ rest) ≡ take (189 * r.given) last
        shown_is =
            let same : 189 * shown - 0 ≡ 189 * r.given = omega arith in
            ap (λ (n : ℕ). take n (last ++ rest)) same
            ∙ take-append-le (189 * r.given) last rest (omega (arith, long, given_most _ _ _ back))

        pub shown_fits : (room : ℕ) → 47631 ≤ room → 2 * length (take (189 * shown - 0) (last ++ rest)) + 3 ≤ room
        shown_fits room enough = omega (arith, length-take (189 * shown - 0) (last ++ rest), given_few)
