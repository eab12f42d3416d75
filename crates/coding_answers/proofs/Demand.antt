-- Demand 3 over the entries: a frame is coded, and one packet of it replaced in the carriers and the state that coding
-- left.
--     coded_sized                   the arrays of the state that such a frame leaves have their lengths
--     packet_begins                 each packet of it begins with 47
--     replacing_is_coding_again     the call is done, and leaves what coding the frame with the new packet leaves
--     following_is_recoded          so does the following frame, coded from the replaced state
use mathlib.Core.Path.{◌≡◌, refl, sym, ap, ◌∙◌}
use mathlib.Core.Bool.{true}
use mathlib.Core.List.{List}
use Prim.Native.Nat.{ℕ, ◌+◌, ◌*◌, ◌<◌}
use native.Mathlib.Omega.{arith}
use lib.Dec.{eqb}
use lib.ListN.{length, get_or}
use borrow.Author.Tests.{eq-eqb}
use Rattle.rules.proofs.Packets.{length_packet}
use Rattle.lists.proofs.AllBelows.{all_at}
use Rattle.lists.proofs.Tabs.{length_tab, get_d_tab}
use Rattle.settings.specs.declared.Settings.{Settings}
use Rattle.settings.specs.Sizes.{C, packets_of}
use Rattle.rules.specs.Word.{packet_at}
use Rattle.rules.specs.Frame.{carrier_value}
use Rattle.coding_state.specs.declared.State.{State}
use Rattle.coding_answers.specs.Coding.{frame_of, all_begin, coding, carriers_of_frame, coding_state_behind}
use Rattle.coding_answers.specs.Coding.{coded_into, state_coded}
use Rattle.coding_state.proofs.Good.{carriers_are}
use Rattle.coding_answers.proofs.Codings.{Accepted as Tested, accepted_of as tests-passed}
use Rattle.coding_answers.specs.Listed.{DifferOnlyIn}
use Rattle.coding_answers.specs.Replacement.{replaced_carriers, begins, state_replaced}
use Rattle.coding_answers.specs.Calls.{Sized, Replaces}
use Rattle.coding_answers.proofs.Replacements.{Accepted, answers_0, replaces}
use Rattle.coding_answers.proofs.Again.{carriers_again, state_again}
use Rattle.coding_answers.proofs.StaysGood.{left_sized, good_behind, coded_in_range}

-- ---- a frame that is coded

record Coded (state : State) (packets carriers : List ℕ) : Type 0 where
  pub accepted : Tested state packets carriers
  pub carriers_are : coded_into state packets carriers ≡ carriers_of_frame state packets
  pub state_is : state_coded state packets carriers ≡ coding_state_behind state packets

coded_of : (state : State) (packets carriers : List ℕ) → coding state packets carriers ≡ 0
    → Coded state packets carriers
coded_of state packets carriers e =
    unfold coded_into state_coded in let done = eq-eqb (coding state packets carriers) 0 e in
    record { accepted = tests-passed state packets carriers e; carriers_are = rw done refl; state_is = rw done refl }

-- the arrays of the state that such a frame leaves have their lengths
pub coded_sized : (state : State) (packets carriers : List ℕ) → coding state packets carriers ≡ 0
    → Sized (state_coded state packets carriers)
coded_sized state packets carriers e =
    let coded = coded_of state packets carriers e in
    rw coded.state_is (left_sized state coded.accepted.good packets)

-- "Each packet begins with 47"
pub packet_begins : (count : ℕ) (packets : List ℕ) → all_begin count packets ≡ true → (p : ℕ) → p < count
    → begins (packet_at packets p) ≡ true
packet_begins count packets begun p lt =
    unfold packet_at all_begin in let first : 188 * p + 0 ≡ 188 * p = omega arith in
    ap (λ (b : ℕ). eqb b 0x47)
    (get_d_tab 188 (λ j. get_or packets (188 * p + j) 0) 0 (omega arith) ∙ ap (λ (k : ℕ). get_or packets k 0) first)
    ∙ all_at count (λ p. eqb (get_or packets (188 * p) 0) 0x47) begun p lt

length_coded : (state : State) (packets : List ℕ) → length (carriers_of_frame state packets) ≡ C state.settings
unfolding carriers_of_frame
length_coded state packets = length_tab (C state.settings) (carrier_value (frame_of state packets))

-- ---- its replacement

module _ (state : State) (sized : Sized state) (number : ℕ) (less : number < packets_of state.settings)
    (packets packets' carriers : List ℕ) (differ : DifferOnlyIn number packets packets')
    (first : coding state packets carriers ≡ 0) (again : coding state packets' carriers ≡ 0) where
  abbrev old : List ℕ
  old = packet_at packets number

  abbrev new : List ℕ
  new = packet_at packets' number

  -- no reason for a refusal applies
  accepted : Accepted (coding_state_behind state packets) (carriers_of_frame state packets) number old new
  unfolding coding_state_behind
  accepted =
      let coded = coded_of state packets carriers first in
      let recoded = coded_of state packets' carriers again in
      record {
        good = good_behind state coded.accepted.good packets;
        room = length_coded state packets ∙ sym (carriers_are state coded.accepted.good);
        old_long = length_packet packets number;
        new_long = length_packet packets' number;
        below = less;
        ranged = coded_in_range state coded.accepted.good sized.lines_long packets;
        old_begins = packet_begins (packets_of state.settings) packets coded.accepted.begun number less;
        new_begins = packet_begins (packets_of state.settings) packets' recoded.accepted.begun number less;
      }

  same_settings : (coding_state_behind state packets).settings ≡ state.settings
  same_settings = unfold coding_state_behind in refl

  -- "If the packet named as old is the one that was coded and the new one too begins with 47, both are then equal to
  -- coding the frame again with the new packet": for every packet of the frame and every good state, since coding is
  -- refused from any other.
  pub replacing_is_coding_again
      : Replaces (state_coded state packets carriers) (coded_into state packets carriers) number
      (packet_at packets number)
      (packet_at packets' number) (coded_into state packets' carriers) (state_coded state packets' carriers)
  replacing_is_coding_again =
      let coded = coded_of state packets carriers first in
      let recoded = coded_of state packets' carriers again in
      let left = replaces (coding_state_behind state packets) (carriers_of_frame state packets) number old new
      (answers_0 (coding_state_behind state packets) (carriers_of_frame state packets) number old new accepted) in
      rw (coded.carriers_are, coded.state_is, recoded.carriers_are, recoded.state_is)
      (record {
        done = left.done;
        carriers_are = left.carriers_are
            ∙ ap (λ (s : Settings). replaced_carriers s number old new (carriers_of_frame state packets)) same_settings
            ∙ carriers_again state coded.accepted.good sized number packets packets' differ;
        state_is = left.state_is ∙ state_again state coded.accepted.good sized number packets packets' differ;
      })

  -- the state that the replacement leaves
  abbrev left : State
  left =
      state_replaced (state_coded state packets carriers) (coded_into state packets carriers) number
      (packet_at packets number) (packet_at packets' number)

  -- "as long as the following frame is coded from the replaced state": what coding it answers and leaves
  pub following_is_recoded : (following area : List ℕ)
      → (coding left following area ≡ coding (state_coded state packets' carriers) following area)
      × (coded_into left following area ≡ coded_into (state_coded state packets' carriers) following area)
      × (state_coded left following area ≡ state_coded (state_coded state packets' carriers) following area)
  following_is_recoded following area =
      let same = replacing_is_coding_again.state_is in (
        ap (λ (s : State). coding s following area) same,
        ap (λ (s : State). coded_into s following area) same,
        ap (λ (s : State). state_coded s following area) same,
      )
