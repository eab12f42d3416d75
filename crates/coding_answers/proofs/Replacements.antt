-- The replacement as the entry answers it, for every state, carriers, number and packets.
--     Accepted, accepted_of, answers_0     what an answer of 0 says, and that there is none other
--     accepted_with                        it says the same of other packets
--     replaces                             what an accepted call leaves
--     length_replaced                      a replacement leaves the number of carriers as it was
--     refused_stays                        what a refused one leaves
--     same_packet                          "Old equal to new flips nothing"
--     back_again                           replacing and replacing back
--     only_listed                          "no carrier outside the list in document 01 has altered"
use mathlib.Core.Path.{◌≡◌, refl, sym, ap, ◌∙◌}
use mathlib.Core.Bool.{true, ◌&&◌}
use mathlib.Core.List.{List}
use Prim.Native.Nat.{ℕ, ◌<◌}
use native.Mathlib.Decide.{ℕ_discrete, dec_lt}
use native.Mathlib.Omega.{arith}
use lib.Bits.{bit_xor}
use lib.Dec.{eqb, ltb}
use lib.ListN.{length, get_or, get_or-eq_default}
use borrow.Author.Tests.{eq-eqb, ne_eqb, lt-ltb, eqb-true, ltb-true}
use Rattle.lists.proofs.Bools.{and_both}
use Rattle.lists.proofs.Tabs.{length_tab}
use Rattle.settings.specs.declared.Settings.{Settings}
use Rattle.settings.specs.Sizes.{C, packets_of, carriers_of}
use Rattle.settings.proofs.LegalSettings.{legal_settings}
use Rattle.settings.proofs.Refusals.{passed}
use Rattle.rules.specs.Frame.{carrier_value}
use Rattle.coding_state.specs.declared.State.{State}
use Rattle.coding_state.specs.State.{good_coding_state}
use Rattle.coding_state.proofs.Good.{good_legal, carriers_are}
use Rattle.rules.specs.Bits.{carriers_in_range}
use Rattle.coding_answers.specs.Replacement.{difference_frame, replaced_carriers, replaced_state, begins}
use Rattle.coding_answers.specs.Replacement.{replacing, replaced_into, state_replaced}
use Rattle.coding_answers.specs.Listed.{Listed}
use Rattle.coding_answers.specs.Calls.{Sized, Replaces}
use Rattle.coding_answers.proofs.Undone.{nothing_flips, state_stays, back_carriers, back_state}
use Rattle.coding_answers.proofs.StaysGood.{replaced_good, replaced_in_range}
use Rattle.coding_answers.proofs.Outside.{outside_stays}

-- no reason for a refusal applies
pub record Accepted (state : State) (carriers : List ℕ) (number : ℕ) (old new : List ℕ) : Type 0 where
  pub good : good_coding_state state ≡ true
  pub room : length carriers ≡ carriers_of state.settings
  pub old_long : length old ≡ 188
  pub new_long : length new ≡ 188
  pub below : number < packets_of state.settings
  pub ranged : carriers_in_range state.settings.v carriers ≡ true
  pub old_begins : begins old ≡ true
  pub new_begins : begins new ≡ true

pub length_replaced : (settings : Settings) (number : ℕ) (old new carriers : List ℕ)
    → length (replaced_carriers settings number old new carriers) ≡ length carriers
length_replaced settings number old new carriers =
    unfold replaced_carriers in length_tab (length carriers)
    (λ k. bit_xor (get_or carriers k 0) (carrier_value (difference_frame settings number old new) k))

module _ (state : State) (carriers : List ℕ) (number : ℕ) (old new : List ℕ) where
  pub accepted_of : replacing state carriers number old new ≡ 0 → Accepted state carriers number old new
  accepted_of e =
      unfold replacing in let good = passed 6 (good_coding_state state) _ e in
      let room = passed 5 (eqb (length carriers) (carriers_of state.settings)) _ good.1 in
      let one = passed 4 (eqb (length old) 188) _ room.1 in
      let two = passed 4 (eqb (length new) 188) _ one.1 in
      let below = passed 8 (ltb number (packets_of state.settings)) _ two.1 in
      let ranged = passed 9 (carriers_in_range state.settings.v carriers) _ below.1 in
      let begun = passed 7 (begins old && begins new) _ ranged.1 in
      let both = and_both (begins old) (begins new) begun.0 in
      record {
        good = good.0;
        room = eqb-true (length carriers) (carriers_of state.settings) room.0;
        old_long = eqb-true (length old) 188 one.0;
        new_long = eqb-true (length new) 188 two.0;
        below = ltb-true number (packets_of state.settings) below.0;
        ranged = ranged.0;
        old_begins = both.0;
        new_begins = both.1;
      }

  -- naming other packets that begin with 47
  pub accepted_with : Accepted state carriers number old new → (old' new' : List ℕ) → length old' ≡ 188
      → length new' ≡ 188 → begins old' ≡ true → begins new' ≡ true → Accepted state carriers number old' new'
  accepted_with all old' new' long long' begun begun' =
      record {
        good = all.good;
        room = all.room;
        old_long = long;
        new_long = long';
        below = all.below;
        ranged = all.ranged;
        old_begins = begun;
        new_begins = begun';
      }

  pub answers_0 : Accepted state carriers number old new → replacing state carriers number old new ≡ 0
  answers_0 all =
      unfold replacing in rw (
        all.good,
        eq-eqb (length carriers) (carriers_of state.settings) all.room,
        eq-eqb (length old) 188 all.old_long,
        eq-eqb (length new) 188 all.new_long,
        lt-ltb number (packets_of state.settings) all.below,
        all.ranged,
        all.old_begins,
        all.new_begins,
      ) refl

  pub replaces : replacing state carriers number old new ≡ 0
      → Replaces state carriers number old new (replaced_carriers state.settings number old new carriers)
      (replaced_state state number old new)
  replaces e =
      unfold replaced_into state_replaced in let done = eq-eqb (replacing state carriers number old new) 0 e in
      record { done = e; carriers_are = rw done refl; state_is = rw done refl }

  -- "a refused call .. returns the state it was given and alters no byte that was lent"
  pub refused_stays : (replacing state carriers number old new ≡ 0 → ⊥)
      → (replaced_into state carriers number old new ≡ carriers)
      × (state_replaced state carriers number old new ≡ state)
  unfolding replaced_into state_replaced
  refused_stays ne =
      let refused = ne_eqb (replacing state carriers number old new) 0 ne in
      (rw refused refl, rw refused refl)

  pub only_listed : (k : ℕ) → (Listed state.settings number old new k → ⊥)
      → get_or (replaced_into state carriers number old new) k 0 ≡ get_or carriers k 0
  only_listed k outside = elim (ℕ_discrete (replacing state carriers number old new) 0) [
    | no ne ↦ ap (λ (l : List ℕ). get_or l k 0) (refused_stays ne).0
    | yes e ↦
        let all = accepted_of e in
        let room : length carriers ≡ C state.settings = all.room ∙ carriers_are state all.good in
        ap (λ (l : List ℕ). get_or l k 0) (replaces e).carriers_are
        ∙ elim (dec_lt k (C state.settings)) [
          | yes lt ↦
              outside_stays state.settings (good_legal state all.good) number old new k lt outside carriers room
          | no past ↦
              get_or-eq_default (replaced_carriers state.settings number old new carriers) 0 {n = k}
              (rw (length_replaced state.settings number old new carriers) (omega arith))
              ∙ sym (get_or-eq_default carriers 0 {n = k} (omega arith))
        ]
  ]

module _ (state : State) (sized : Sized state) (carriers : List ℕ) (number : ℕ) where
  pub same_packet : (packet : List ℕ) → (replaced_into state carriers number packet packet ≡ carriers)
      × (state_replaced state carriers number packet packet ≡ state)
  same_packet packet = elim (ℕ_discrete (replacing state carriers number packet packet) 0) [
    | no ne ↦ refused_stays state carriers number packet packet ne
    | yes e ↦
        let left = replaces state carriers number packet packet e in
        let good = (accepted_of state carriers number packet packet e).good in
        let bits = (legal_settings state.settings (good_legal state good)).bits in (
          left.carriers_are ∙ nothing_flips state.settings bits number packet carriers,
          left.state_is ∙ state_stays state bits sized number packet,
        )
  ]

  module _ (old new : List ℕ) where
    -- the call that replaces back is accepted where the first was
    accepted_back : Accepted state carriers number old new
        → Accepted (replaced_state state number old new) (replaced_carriers state.settings number old new carriers)
        number new old
    accepted_back all =
        unfold replaced_state in record {
          good = replaced_good state all.good number old new;
          room = length_replaced state.settings number old new carriers ∙ all.room;
          old_long = all.new_long;
          new_long = all.old_long;
          below = all.below;
          ranged = replaced_in_range state.settings number old new carriers all.ranged;
          old_begins = all.new_begins;
          new_begins = all.old_begins;
        }

    back_settings : (replaced_state state number old new).settings ≡ state.settings
    back_settings = unfold replaced_state in refl

    back_left : Accepted state carriers number old new
        → Replaces (replaced_state state number old new) (replaced_carriers state.settings number old new carriers)
        number new old carriers state
    back_left all =
        let after = replaced_state state number old new in
        let carriers' = replaced_carriers state.settings number old new carriers in
        let done = answers_0 after carriers' number new old (accepted_back all) in
        let left = replaces after carriers' number new old done in
        record {
          done = left.done;
          carriers_are = left.carriers_are
              ∙ ap (λ (s : Settings). replaced_carriers s number new old carriers') back_settings
              ∙ back_carriers state.settings number old new carriers;
          state_is = left.state_is ∙ back_state state sized number old new;
        }

    pub back_again : replacing state carriers number old new ≡ 0
        → Replaces (state_replaced state carriers number old new) (replaced_into state carriers number old new)
        number new old carriers state
    back_again e =
        let left = replaces state carriers number old new e in
        rw (left.carriers_are, left.state_is) (back_left (accepted_of state carriers number old new e))
