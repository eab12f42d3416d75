-- Demand 3, clause by clause.
--     demand_3
use mathlib.Core.Path.{ap}
use Rattle.layers.proofs.InLayer.{mode_stays, others_stay}
use Rattle.layers.proofs.Areas.{area_length_stays, bytes_stay}
use Rattle.coding_state.specs.declared.State.{State}
use Rattle.coding_answers.specs.Coding.{coding, coded_into, state_coded}
use Rattle.coding_answers.specs.Layers.{coding_kind}
use Rattle.coding_answers.specs.Entries.{coding_call, coding_lent}
use Rattle.coding_answers.specs.Records.{in_record, through_record}
use Rattle.coding_answers.proofs.NewPacket.{own_packet, other_packet, coded_again, replacing_by_a_new_packet}
use Rattle.coding_answers.proofs.Codings.{accepted_of}
use Rattle.coding_answers.proofs.Replacements.{only_listed}
use Rattle.coding_answers.proofs.Minimal.{equal_packets_list_nothing, each_can_alter}
use Rattle.coding_answers.proofs.Layers.{entries_lawful}
use Rattle.coding_answers.proofs.RecordDemand.{record_replacing_is_coding_again, record_codes_the_sum}
use Rattle.coding_answers.proofs.RecordDemand.{record_only_listed, alike_from}
use Rattle.coding_answers.proofs.RecordDoors.{door_replacing_is_coding_again, door_codes_the_sum}
use Rattle.coding_answers.proofs.RecordDoors.{called_is_coding_again}
use Rattle.coding_answers.proofs.Several.{several_are_coding_again}
use Rattle.coding_answers.proofs.Story.{wrong_old_codes_the_sum, new_exactly_for_the_coded}
use Rattle.demands.specs.Demand3.{Demand3}
use Rattle.demands.proofs.ReadBack.{coded_of, held_by_both}
use Rattle.demands.proofs.Spoiled.{spoiled_is_taken}
use Rattle.demands.proofs.SpoiledLayers.{spoiled_in_layer}
use Rattle.settings.specs.Sizes.{packets_of}

pub demand_3 : Demand3
demand_3 =
    record {
      equal = λ state packets carriers frame number new is.
          replacing_by_a_new_packet state packets carriers frame.coded number is.below new is.long
          is.begun frame.sized;
      again = λ state packets carriers frame number new is. (
        coded_again state packets carriers frame.coded number is.below new is.long is.begun,
        own_packet packets number new (packets_of state.settings)
            (accepted_of state packets carriers frame.coded).long is.below is.long,
        other_packet packets number new,
      );
      outside = only_listed;
      nothing_listed = λ state number packet k. equal_packets_list_nothing state.settings number packet k;
      no_larger = each_can_alter;
      following = λ state packets carriers frame number new is next area.
          let same =
          (replacing_by_a_new_packet state packets carriers frame.coded number is.below new is.long
          is.begun frame.sized).state_is in (
            ap (λ (s : State). coding s next area) same,
            ap (λ (s : State). coded_into s next area) same,
            ap (λ (s : State). state_coded s next area) same,
          );
      several = λ state packets carriers frame exchanges fit.
          several_are_coding_again state frame.sized carriers exchanges fit packets frame.coded;
      wrong_old = λ state packets carriers frame number old new named is.
          wrong_old_codes_the_sum state frame.sized packets carriers frame.coded number is.below old new
          named.long is.long named.begun is.begun;
      right_old_alone = new_exactly_for_the_coded;
      held_by_both = λ one other packets others carriers room frame beside bytes small same_carriers same_state.
          held_by_both one other packets others carriers room
          (coded_of one packets carriers frame.sized frame.coded bytes)
          (coded_of other others room beside.sized beside.coded small) frame.coded beside.coded
          same_carriers same_state;
      taken_as_good = spoiled_is_taken;
      in_a_record = λ name three packets carriers frame between elsewhere number new is.
          record_replacing_is_coding_again name three frame.sized packets carriers frame.coded between elsewhere
          number is.below new is.long is.begun;
      record_outside = record_only_listed;
      record_following = λ name three packets carriers frame between elsewhere number new is more next.
          let same = (record_replacing_is_coding_again name three frame.sized packets carriers frame.coded between
          elsewhere number is.below new is.long is.begun).replaced.after_is in
          alike_from (in_record next.name next.entry) (ap (through_record more) same);
      record_wrong_old = λ name three packets carriers frame between elsewhere number old new named is.
          record_codes_the_sum name three frame.sized packets carriers frame.coded between elsewhere number
          is.below new is.long is.begun old named.long named.begun;
      record_taken_as_good = λ start sized good packets given long f number less old new old_long new_long old_begins
          new_begins old-bytes new-bytes.
          spoiled_in_layer start (record { good = good; lines_long = sized.lines_long }) packets f number old new
          (spoiled_is_taken start sized good packets given long f number less old new old_long new_long old_begins
          new_begins old-bytes new-bytes);
      other_layers_stay = λ name entry three. (
        mode_stays coding_kind (coding_call entry) (coding_lent entry) name three,
        others_stay coding_kind (coding_call entry) (coding_lent entry) name three,
      );
      others_stay = λ name entry area. (
        area_length_stays (entries_lawful entry) name area,
        bytes_stay (entries_lawful entry) name area,
      );
      doors = λ name area packets carriers coded between elsewhere number new is.
          door_replacing_is_coding_again name area packets carriers coded between elsewhere number is.below new
          is.long is.begun;
      doors_called = λ name area packets carriers between elsewhere number new is.
          called_is_coding_again name area packets carriers between elsewhere number is.below new is.long
          is.begun;
      doors_wrong_old = λ name area packets carriers coded between elsewhere number old new named is.
          door_codes_the_sum name area packets carriers coded between elsewhere number is.below new is.long
          is.begun old named.long named.begun;
    }
