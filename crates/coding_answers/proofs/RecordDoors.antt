-- Demand 3 at the doors for C, over the lent bytes of a coding record: a frame of the named layer is coded, any doors
-- are called with the other two layers, and then one packet of the frame is replaced.
--     door_replacing_is_coding            a replacement that is coding other packets in the layer alone is so at the
--                                         doors
--     door_replacing_is_coding_again      demand 3, for any new packet
--     door_codes_the_sum                  and the sum of three packets where a wrong one is named as old
--     did_done                            what a call has done that is done and leaves this
--     called_is_coding_again              demand 3 by what three doors have done, as their contracts say it
--     code_door, replace_door,
--     disperse_interleave_door            the calls that the doors' contracts name are those of the demands
use mathlib.Core.Path.{◌≡◌, refl, sym, ap, subst, ◌∙◌}
use mathlib.Core.Bool.{true}
use mathlib.Core.List.{List}
use Prim.Native.Nat.{ℕ, ◌<◌}
use lib.ListN.{length}
use Rattle.settings.specs.Sizes.{packets_of}
use Rattle.rules.specs.Word.{packet_at}
use Rattle.layers.specs.Record.{Three}
use Rattle.layers.specs.Calls.{Call, Did, in_layer}
use Rattle.layers.specs.Areas.{record_in, in_area}
use Rattle.layers.specs.Rows.{NamedEntry, Elsewhere}
use Rattle.layers.proofs.Areas.{in_sized}
use Rattle.layers.proofs.AreaRows.{again_at_the_door}
use Rattle.layers.proofs.RecordBytes.{sized_named}
use Rattle.coding_state.specs.declared.State.{State}
use Rattle.coding_answers.specs.Coding.{coding, coded_into, state_coded}
use Rattle.coding_answers.specs.Packets.{with_packet, sum_of_three}
use Rattle.coding_answers.specs.Replacement.{begins}
use Rattle.coding_answers.specs.Calls.{Sized, Replaces}
use Rattle.coding_answers.specs.Layers.{coding_kind, codes, replaces, disperses_interleaves}
use Rattle.coding_answers.specs.Entries.{CodingEntry, code, replace, disperse_interleave, coding_call, coding_lent}
use Rattle.coding_answers.specs.Records.{layer_in, layer_in_area, in_record, at_door, through_doors}
use Rattle.coding_answers.specs.Records.{DoneLeaving, ReplacingIsCoding}
use Rattle.coding_answers.proofs.Layers.{coding_lawful, codes_lawful, replaces_lawful, entries_lawful}
use Rattle.coding_answers.proofs.NewPacket.{coded_again, replacing_by_a_new_packet}
use Rattle.coding_answers.proofs.RecordDemand.{good_record_is, used_layer, coded_alone, coded_in_record}
use Rattle.coding_answers.proofs.RecordDemand.{sum_coded}
use Rattle.coding_answers.proofs.Story.{wrong_old_codes_the_sum}

module _ (name : ℕ) (area packets carriers : List ℕ)
    (first : (at_door name (code packets carriers)).number area ≡ 0) where
  abbrev three : Three State
  three = record_in coding_kind area

  abbrev alone : State
  alone = layer_in three name

  first_in : (in_record name (code packets carriers)).number three ≡ 0
  first_in = unfold in_area in first

  done_alone : coding alone packets carriers ≡ 0
  done_alone = coded_alone name three packets carriers first_in

  layer_sized : Sized alone
  layer_sized = sized_named coding_lawful three (in_sized coding_lawful area) name

  -- coding at the door leaves what the layer alone leaves
  coded_at_door : (packets' : List ℕ) → coding alone packets' carriers ≡ 0
      → DoneLeaving (at_door name (code packets' carriers)) area ((at_door name (code packets' carriers)).after area)
      (coded_into alone packets' carriers)
  unfolding in_area
  coded_at_door packets' done =
      let is = coded_in_record name three packets carriers first_in packets' done in
      record { done = is.done; after_is = refl; left_is = is.left_is }

  module _ (between : List (NamedEntry CodingEntry)) (elsewhere : Elsewhere name between) (number : ℕ) where
    -- A replacement that is coding other packets in the layer alone is so at the doors.
    pub door_replacing_is_coding : (packets' old new : List ℕ) → coding alone packets' carriers ≡ 0
        → Replaces (state_coded alone packets carriers) (coded_into alone packets carriers) number old new
        (coded_into alone packets' carriers) (state_coded alone packets' carriers)
        → ReplacingIsCoding (at_door name) (through_doors between) area alone packets packets' carriers number old new
    door_replacing_is_coding packets' old new again is =
        let instead = again_at_the_door (codes_lawful packets carriers) (codes_lawful packets' carriers)
        (replaces_lawful (coded_into alone packets carriers) number old new) name area
        (good_record_is name three packets carriers first_in)
        (used_layer name three packets carriers first_in) coding_call
        coding_lent entries_lawful between elsewhere is.done is.state_is in
        record {
          coded = coded_at_door packets done_alone;
          recoded = coded_at_door packets' again;
          replaced = record {
            done = instead.done;
            after_is = instead.area_is;
            left_is = λ other. (
              λ leaves. instead.leaves other leaves ∙ is.carriers_are,
              λ same. instead.may_leave other (same ∙ sym is.carriers_are),
            );
          };
        }

    module _ (less : number < packets_of (layer_in_area area name).settings)
        (new : List ℕ) (long : length new ≡ 188) (begun : begins new ≡ true) where
      -- "both are then equal to coding the frame again with the new packet", byte for byte.
      pub door_replacing_is_coding_again
          : ReplacingIsCoding (at_door name) (through_doors between) area
          (layer_in_area area name) packets (with_packet packets number new) carriers
          number (packet_at packets number) new
      door_replacing_is_coding_again =
          door_replacing_is_coding (with_packet packets number new) (packet_at packets number) new
          (coded_again alone packets carriers done_alone number less new long begun)
          (replacing_by_a_new_packet alone packets carriers done_alone number less new long begun layer_sized)

      -- The letter's story at the doors: whatever packet is named as old.
      pub door_codes_the_sum : (old : List ℕ) → length old ≡ 188 → begins old ≡ true
          → ReplacingIsCoding (at_door name) (through_doors between) area
          (layer_in_area area name) packets
          (with_packet packets number (sum_of_three (packet_at packets number) old new)) carriers number old new
      door_codes_the_sum old old_long old_begins =
          door_replacing_is_coding (with_packet packets number (sum_of_three (packet_at packets number) old new)) old
          new
          (sum_coded alone packets carriers done_alone number less old new old_long long old_begins begun)
          (wrong_old_codes_the_sum alone layer_sized packets carriers done_alone number less old new old_long long
          old_begins begun)

-- ---- what was done

-- A call that is done and leaves this has done so, whatever it has answered and left.
pub did_done : {Before Lent : Type 0} (call : Call Before Lent) (before after : Before) (left : Lent)
    → DoneLeaving call before after left → (number : ℕ) (after' : Before) (left' : Lent)
    → Did call before number after' left' → (number ≡ 0) × (after' ≡ after) × (left' ≡ left)
did_done call before after left is number after' left' did =
    (did.number_is ∙ is.done, did.state_is ∙ is.after_is, (is.left_is left').0 did.lent_is)

module _ (name : ℕ) (area packets carriers : List ℕ) (between : List (NamedEntry CodingEntry))
    (elsewhere : Elsewhere name between) (number : ℕ) (less : number < packets_of (layer_in_area area name).settings)
    (new : List ℕ) (long : length new ≡ 188) (begun : begins new ≡ true) where
  -- What three doors have done, as their contracts say it: coding, replacing behind any calls in the other layers, and
  -- coding again instead.
  pub called_is_coding_again : (first shown : List ℕ) → Did (at_door name (code packets carriers)) area 0 first shown
      → (answer : ℕ) (last left : List ℕ)
      → Did (at_door name (replace shown number (packet_at packets number) new)) (through_doors between first) answer
      last
      left
      → (answer' : ℕ) (instead left' : List ℕ)
      → Did (at_door name (code (with_packet packets number new) carriers)) area answer' instead left'
      → (answer ≡ 0) × (answer' ≡ 0) × (left ≡ left') × (last ≡ through_doors between instead)
  called_is_coding_again first shown coded answer last left replaced answer' instead left' again =
      let is = door_replacing_is_coding_again name area packets carriers (sym coded.number_is) between elsewhere
      number less new long begun in
      let was = did_done (at_door name (code packets carriers)) area _ _ is.coded 0 first shown coded in
      let call : List ℕ → Call (List ℕ) (List ℕ) = λ s. at_door name
      (replace s number (packet_at packets number) new) in
      let then = did_done _ _ _ _ is.replaced answer last left
      (subst (λ (s : List ℕ). Did (call s) (through_doors between ((at_door name (code packets carriers)).after area))
      answer last left) was.2
      (subst (λ (a : List ℕ). Did (call shown) (through_doors between a) answer last left) was.1 replaced)) in
      let other = did_done _ _ _ _ is.recoded answer' instead left' again in (
        then.0,
        other.0,
        then.2 ∙ sym other.2,
        then.1 ∙ ap (through_doors between) (sym other.1),
      )

-- ---- the calls that the doors' contracts name

module _ (name : ℕ) where
  pub code_door : (packets carriers : List ℕ)
      → at_door name (code packets carriers)
      ≡ in_area coding_kind (in_layer coding_kind (codes packets carriers) carriers name)
  code_door packets carriers = refl

  pub replace_door : (carriers : List ℕ) (number : ℕ) (old new : List ℕ)
      → at_door name (replace carriers number old new)
      ≡ in_area coding_kind (in_layer coding_kind (replaces carriers number old new) carriers name)
  replace_door carriers number old new = refl

  pub disperse_interleave_door : (place : ℕ) (word out : List ℕ)
      → at_door name (disperse_interleave place word out)
      ≡ in_area coding_kind (in_layer coding_kind (disperses_interleaves place word out) out name)
  disperse_interleave_door place word out = refl
