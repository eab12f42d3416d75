-- Demand 3 with the new packet given: any of 188 bytes that begins with 47.
--     length_with, byte_own, byte_other     the frame's packets with one exchanged: its length, and its bytes
--     differ_only                           they differ from the frame's packets in that one alone
--     own_packet, other_packet              that packet is the new one, and every other is as it was
--     coded_again                           coding the frame again with the new packet is done
--     replacing_by_a_new_packet             and replacing leaves the carriers and the state that it leaves
use mathlib.Core.Path.{◌≡◌, refl, sym, ap, ◌∙◌}
use mathlib.Core.Bool.{true}
use mathlib.Core.List.{List}
use Prim.Native.Nat.{ℕ, ◌+◌, ◌*◌, ◌/◌, ◌%◌, ◌<◌}
use native.Mathlib.Decide.{ℕ_discrete}
use native.Mathlib.Omega.{arith}
use lib.Dec.{eqb}
use lib.ListN.{length, get_or}
use borrow.Author.Tests.{eq-eqb, ne_eqb}
use Rattle.lists.proofs.Tabs.{length_tab, get_d_tab, tab_ext}
use Rattle.lists.proofs.AllBelows.{all_yes, all_at}
use Rattle.settings.specs.Sizes.{packets_of}
use Rattle.rules.specs.Word.{packet_at}
use Rattle.coding_state.specs.declared.State.{State}
use Rattle.coding_answers.specs.Coding.{all_begin, coding, coded_into, state_coded}
use Rattle.coding_answers.specs.Listed.{DifferOnlyIn}
use Rattle.coding_answers.specs.Packets.{with_packet}
use Rattle.coding_answers.specs.Replacement.{begins}
use Rattle.coding_answers.specs.Calls.{Sized, Replaces}
use Rattle.coding_answers.proofs.Codings.{accepted_of, answers_0}
use Rattle.coding_answers.proofs.Demand.{replacing_is_coding_again}
use Rattle.coding_answers.proofs.Difference.{packet_alike}

-- ---- the packets

module _ (packets : List ℕ) (number : ℕ) (new : List ℕ) where
  pub length_with : length (with_packet packets number new) ≡ length packets
  length_with = unfold with_packet in length_tab (length packets) _

  pub byte_own : (k : ℕ) → k < length packets → k / 188 ≡ number
      → get_or (with_packet packets number new) k 0 ≡ get_or new (k % 188) 0
  unfolding with_packet
  byte_own k lt e = get_d_tab (length packets) _ k lt ∙ rw (eq-eqb (k / 188) number e) refl

  pub byte_other : (k : ℕ) → k < length packets → (k / 188 ≡ number → ⊥)
      → get_or (with_packet packets number new) k 0 ≡ get_or packets k 0
  unfolding with_packet
  byte_other k lt ne = get_d_tab (length packets) _ k lt ∙ rw (ne_eqb (k / 188) number ne) refl

  pub differ_only : DifferOnlyIn number packets (with_packet packets number new)
  differ_only = record { long = length_with; alike = λ k lt ne. sym (byte_other k lt ne) }

  pub other_packet : (q : ℕ) → (q ≡ number → ⊥) → packet_at (with_packet packets number new) q ≡ packet_at packets q
  other_packet q ne = sym (packet_alike number packets (with_packet packets number new) differ_only q ne)

  module _ (count : ℕ) (size : length packets ≡ 188 * count) (less : number < count) where
    pub own_packet : length new ≡ 188 → packet_at (with_packet packets number new) number ≡ new
    unfolding packet_at
    own_packet long =
        sym (tab_ext 188 (λ j. get_or (with_packet packets number new) (188 * number + j) 0) new long (λ j lt.
        let place : (188 * number + j) / 188 ≡ number = omega arith in
        let rest : (188 * number + j) % 188 ≡ j = omega arith in
        sym (byte_own (188 * number + j) (omega arith) place ∙ ap (λ (i : ℕ). get_or new i 0) rest)))

    begin_with : all_begin count packets ≡ true → begins new ≡ true
        → all_begin count (with_packet packets number new) ≡ true
    unfolding all_begin
    begin_with all own =
        all_yes count (λ p. eqb (get_or (with_packet packets number new) (188 * p) 0) 0x47)
        (λ p lt. elim (ℕ_discrete p number) [
          | yes e ↦
              let place : 188 * p / 188 ≡ number = omega arith in
              let rest : 188 * p % 188 ≡ 0 = omega arith in
              ap (λ (b : ℕ). eqb b 0x47) (byte_own (188 * p) (omega arith) place ∙ ap (λ (i : ℕ). get_or new i 0) rest)
              ∙ own
          | no ne ↦
              ap (λ (b : ℕ). eqb b 0x47) (byte_other (188 * p) (omega arith) (λ e. ne (omega arith)))
              ∙ all_at count (λ p. eqb (get_or packets (188 * p) 0) 0x47) all p lt
        ])

-- ---- the calls

module _ (state : State) (packets carriers : List ℕ) (first : coding state packets carriers ≡ 0)
    (number : ℕ) (less : number < packets_of state.settings) (new : List ℕ) (long : length new ≡ 188)
    (begun : begins new ≡ true) where
  -- Coding the frame again with the new packet is done.
  pub coded_again : coding state (with_packet packets number new) carriers ≡ 0
  coded_again =
      let all = accepted_of state packets carriers first in
      answers_0 state (with_packet packets number new) carriers (record {
        good = all.good;
        long = length_with packets number new ∙ all.long;
        room = all.room;
        begun = begin_with packets number new (packets_of state.settings) all.long less all.begun begun;
      })

  -- "If the packet named as old is the one that was coded and the new one too begins with 47, both are then equal to
  -- coding the frame again with the new packet": for any new packet.
  pub replacing_by_a_new_packet : Sized state
      → Replaces (state_coded state packets carriers) (coded_into state packets carriers) number
      (packet_at packets number) new (coded_into state (with_packet packets number new) carriers)
      (state_coded state (with_packet packets number new) carriers)
  replacing_by_a_new_packet sized =
      let all = accepted_of state packets carriers first in
      let own = own_packet packets number new (packets_of state.settings) all.long less long in
      let whole = replacing_is_coding_again state sized number less packets (with_packet packets number new) carriers
      (differ_only packets number new) first coded_again in
      rw own at whole
