-- Demand 3 in a record of three layers: "Demand 3 names the layer." A frame of the named layer is coded, any calls in
-- the other two layers follow, and then one packet of the frame is replaced.
--     good_record_is, used_layer,         where coding in a layer of a record is done, the record is good, the layer
--     coded_alone                         used, and coding in the layer alone is done
--     coded_in_record                     coding in the named layer leaves what the layer alone leaves
--     layer_replacing_is_coding           a replacement that is coding other packets in the layer alone is so in the
--                                         record
--     sum_coded                           coding the frame that holds the sum of three packets is done
--     record_replacing_is_coding_again    demand 3, for any new packet
--     record_codes_the_sum                and the sum of three packets where a wrong one is named as old
--     record_only_listed                  no carrier outside the list of the named layer alters
--     alike_from                          any call from equal records is the same
use mathlib.Core.Path.{◌≡◌, refl, sym, ap, ◌∙◌}
use mathlib.Core.Bool.{true, false}
use mathlib.Core.List.{List}
use Prim.Native.Nat.{ℕ, ◌<◌}
use native.Mathlib.Decide.{ℕ_discrete}
use lib.ListN.{length, get_or}
use Rattle.settings.specs.Sizes.{packets_of}
use Rattle.rules.specs.Word.{packet_at}
use Rattle.rules.proofs.Packets.{length_packet}
use Rattle.layers.specs.Record.{Three, unused, good_record}
use Rattle.layers.specs.Calls.{Call, asked, in_layer}
use Rattle.layers.specs.Rows.{NamedEntry, Elsewhere}
use Rattle.layers.proofs.InLayer.{number_alone, number_some, asked_none, leaves_alone, alone_leaves}
use Rattle.layers.proofs.Again.{again_in_layer}
use Rattle.coding_state.specs.declared.State.{State}
use Rattle.coding_answers.specs.Coding.{coding, coded_into, state_coded}
use Rattle.coding_answers.specs.Listed.{Listed}
use Rattle.coding_answers.specs.Packets.{with_packet, sum_of_three}
use Rattle.coding_answers.specs.Replacement.{begins}
use Rattle.coding_answers.specs.Calls.{Sized, Replaces}
use Rattle.coding_answers.specs.Layers.{coding_kind, codes}
use Rattle.coding_answers.specs.Entries.{CodingEntry, code, replace, coding_call, coding_lent}
use Rattle.coding_answers.specs.Records.{layer_in, in_record, through_record, DoneLeaving}
use Rattle.coding_answers.specs.Records.{ReplacingIsCoding, Alike}
use Rattle.coding_answers.proofs.Codings.{accepted_of}
use Rattle.coding_answers.proofs.Demand.{packet_begins}
use Rattle.coding_answers.proofs.Layers.{coding_lawful, codes_lawful, replaces_lawful, entries_lawful}
use Rattle.coding_answers.proofs.NewPacket.{coded_again, replacing_by_a_new_packet}
use Rattle.coding_answers.proofs.Replacements.{only_listed}
use Rattle.coding_answers.proofs.Story.{length_sum, sum_begins, wrong_old_codes_the_sum}

-- ---- coding in a layer

module _ (name : ℕ) (three : Three State) (packets carriers : List ℕ)
    (first : (in_record name (code packets carriers)).number three ≡ 0) where
  -- nothing is asked of a record in which a call is done
  nothing_asked : asked coding_kind name three ≡ 0
  nothing_asked = elim (ℕ_discrete (asked coding_kind name three) 0) [
    | yes none ↦ none
    | no some ↦ sym (number_some coding_kind (codes packets carriers) carriers name three some) ∙ first
  ]

  pub good_record_is : good_record coding_kind three ≡ true
  good_record_is = (asked_none coding_kind name three nothing_asked).0

  pub used_layer : unused coding_kind (layer_in three name) ≡ false
  used_layer = (asked_none coding_kind name three nothing_asked).1

  pub coded_alone : coding (layer_in three name) packets carriers ≡ 0
  coded_alone =
      sym (number_alone coding_lawful (codes packets carriers) carriers name three good_record_is used_layer) ∙ first

  -- Coding in the named layer leaves what the layer alone leaves.
  pub coded_in_record : (packets' : List ℕ) → coding (layer_in three name) packets' carriers ≡ 0
      → DoneLeaving (in_record name (code packets' carriers)) three ((in_record name (code packets' carriers)).after
      three)
      (coded_into (layer_in three name) packets' carriers)
  coded_in_record packets' done =
      let call = codes packets' carriers in
      record {
        done = number_alone coding_lawful call carriers name three good_record_is used_layer ∙ done;
        after_is = refl;
        left_is = λ other. (
          leaves_alone coding_lawful call carriers name three good_record_is used_layer other,
          alone_leaves coding_lawful call carriers name three good_record_is used_layer other,
        );
      }

  -- A replacement that is coding other packets in the layer alone is so in the record.
  pub layer_replacing_is_coding : (between : List (NamedEntry CodingEntry)) → Elsewhere name between
      → (packets' : List ℕ) (number : ℕ) (old new : List ℕ)
      → coding (layer_in three name) packets' carriers ≡ 0
      → Replaces (state_coded (layer_in three name) packets carriers)
      (coded_into (layer_in three name) packets carriers) number old new
      (coded_into (layer_in three name) packets' carriers)
      (state_coded (layer_in three name) packets' carriers)
      → ReplacingIsCoding (in_record name) (through_record between) three (layer_in three name)
      packets packets' carriers number old new
  layer_replacing_is_coding between elsewhere packets' number old new again is =
      let shown = coded_into (layer_in three name) packets carriers in
      let instead = again_in_layer (codes packets' carriers) carriers (codes_lawful packets carriers)
      (replaces_lawful shown number old new) name three good_record_is used_layer coding_call coding_lent entries_lawful
      between elsewhere is.done is.state_is in
      record {
        coded = coded_in_record packets coded_alone;
        recoded = coded_in_record packets' again;
        replaced = record {
          done = instead.done;
          after_is = instead.record_is;
          left_is = λ other. (
            λ leaves. instead.leaves other leaves ∙ is.carriers_are,
            λ same. instead.may_leave other (same ∙ sym is.carriers_are),
          );
        };
      }

-- ---- the demand

-- the frame that holds the sum of three packets is coded
pub sum_coded : (state : State) (packets carriers : List ℕ) → coding state packets carriers ≡ 0
    → (number : ℕ) → number < packets_of state.settings → (old new : List ℕ) → length old ≡ 188 → length new ≡ 188
    → begins old ≡ true → begins new ≡ true
    → coding state (with_packet packets number (sum_of_three (packet_at packets number) old new)) carriers ≡ 0
sum_coded state packets carriers first number less old new old_long long old_begins begun =
    let coded = packet_at packets number in
    let coded_long = length_packet packets number in
    let coded-begins = packet_begins (packets_of state.settings) packets
    (accepted_of state packets carriers first).begun number less in
    coded_again state packets carriers first number less (sum_of_three coded old new)
    (length_sum coded old new coded_long old_long long)
    (sum_begins coded old new coded_long old_long long coded-begins old_begins begun)

module _ (name : ℕ) (three : Three State) (sized : Sized (layer_in three name))
    (packets carriers : List ℕ) (first : (in_record name (code packets carriers)).number three ≡ 0)
    (between : List (NamedEntry CodingEntry)) (elsewhere : Elsewhere name between) (number : ℕ)
    (less : number < packets_of (layer_in three name).settings) (new : List ℕ)
    (long : length new ≡ 188) (begun : begins new ≡ true) where
  abbrev alone : State
  alone = layer_in three name

  done_alone : coding alone packets carriers ≡ 0
  done_alone = coded_alone name three packets carriers first

  -- "both are then equal to coding the frame again with the new packet", in the layer that is named.
  pub record_replacing_is_coding_again
      : ReplacingIsCoding (in_record name) (through_record between) three (layer_in three name) packets
      (with_packet packets number new) carriers number (packet_at packets number) new
  record_replacing_is_coding_again =
      layer_replacing_is_coding name three packets carriers first between elsewhere (with_packet packets number new)
      number (packet_at packets number) new
      (coded_again alone packets carriers done_alone number less new long begun)
      (replacing_by_a_new_packet alone packets carriers done_alone number less new long begun sized)

  -- The letter's story in a record: whatever packet is named as old.
  pub record_codes_the_sum : (old : List ℕ) → length old ≡ 188 → begins old ≡ true
      → ReplacingIsCoding (in_record name) (through_record between) three (layer_in three name) packets
      (with_packet packets number (sum_of_three (packet_at packets number) old new)) carriers number old new
  record_codes_the_sum old old_long old_begins =
      layer_replacing_is_coding name three packets carriers first between elsewhere
      (with_packet packets number (sum_of_three (packet_at packets number) old new)) number old new
      (sum_coded alone packets carriers done_alone number less old new old_long long old_begins begun)
      (wrong_old_codes_the_sum alone sized packets carriers done_alone number less old new old_long long old_begins
      begun)

-- "no carrier outside the list in document 01 has altered", whatever the record and the call.
pub record_only_listed : (name : ℕ) (three : Three State) (carriers : List ℕ) (number : ℕ) (old new left : List ℕ)
    → (in_record name (replace carriers number old new)).Leaves three left → (k : ℕ)
    → (Listed (layer_in three name).settings number old new k → ⊥) → get_or left k 0 ≡ get_or carriers k 0
unfolding in_layer
record_only_listed name three carriers number old new left leaves k outside =
    elim (ℕ_discrete (asked coding_kind name three) 0) [
      | yes none ↦
          ap (λ (l : List ℕ). get_or l k 0) (leaves.0 none)
          ∙ only_listed (layer_in three name) carriers number old new k outside
      | no some ↦ ap (λ (l : List ℕ). get_or l k 0) (leaves.1 some)
    ]

-- ---- what follows

pub alike_from : {Before Lent : Type 0} (call : Call Before Lent) {one two : Before} → one ≡ two → Alike call one two
alike_from call same =
    record {
      same_number = ap call.number same;
      same_after = ap call.after same;
      same_left = λ left. (rw same (λ leaves. leaves), rw same (λ leaves. leaves));
    }
