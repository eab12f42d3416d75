-- Calls over a coding record, each in the layer that it names, and what a replacement in a layer is: "Demand 3 names
-- the layer."
--     layer_in, layer_in_area          the state of the named layer of a record, and of the record that an area is
--     in_record, at_door               an entry in the named layer of a record, and over the lent bytes of a record
--     through_record, through_doors    what calls in a row leave of a record, and of its lent bytes
--     DoneLeaving                      a call is done, and leaves this and nothing else
--     ReplacingIsCoding                a replacement behind a coded frame is coding other packets
--     Alike                            a call answers and leaves the same from either of two
-- `record_replacing_is_coding_again` in proofs/RecordDemand.antt and `door_replacing_is_coding_again` in
-- proofs/RecordDoors.antt: it is coding the frame with the new packet.
use Rattle.std.specs.Prelude.{◌≡◌, ◌↔◌, List, ℕ}
use Rattle.layers.specs.Record.{Three, layer_named}
use Rattle.layers.specs.Calls.{Call}
use Rattle.layers.specs.Areas.{record_in}
use Rattle.layers.specs.Rows.{over_record, over_bytes, NamedEntry, through, through_area}
use Rattle.coding_state.specs.declared.State.{State}
use Rattle.coding_answers.specs.Coding.{coded_into}
use Rattle.coding_answers.specs.Layers.{coding_kind}
use Rattle.coding_answers.specs.Entries.{CodingEntry, code, replace, coding_call, coding_lent}

abbrev pub layer_in : Three State → ℕ → State
layer_in three name = layer_named coding_kind three name

abbrev pub layer_in_area : List ℕ → ℕ → State
layer_in_area area name = layer_in (record_in coding_kind area) name

abbrev pub in_record : ℕ → CodingEntry → Call (Three State) (List ℕ)
in_record name entry = over_record coding_kind coding_call coding_lent name entry

abbrev pub at_door : ℕ → CodingEntry → Call (List ℕ) (List ℕ)
at_door name entry = over_bytes coding_kind coding_call coding_lent name entry

abbrev pub through_record : List (NamedEntry CodingEntry) → Three State → Three State
through_record row three = through coding_kind coding_call coding_lent row three

abbrev pub through_doors : List (NamedEntry CodingEntry) → List ℕ → List ℕ
through_doors row area = through_area coding_kind coding_call coding_lent row area

pub record DoneLeaving {Before Lent : Type 0} (call : Call Before Lent) (before after : Before) (left : Lent)
    : Type 0 where
  pub done : call.number before ≡ 0
  pub after_is : call.after before ≡ after
  pub left_is : (other : Lent) → call.Leaves before other ↔ (other ≡ left)

-- `call` is an entry in the named layer, of a record or over its lent bytes, `alone` is that layer's state before the
-- frame, and `between` tells what calls in the other layers leave that come between coding and replacing
pub record ReplacingIsCoding {Before : Type 0} (call : CodingEntry → Call Before (List ℕ)) (between : Before → Before)
    (before : Before) (alone : State) (packets packets' carriers : List ℕ) (number : ℕ) (old new : List ℕ)
    : Type 0 where
  -- "whose carriers are what that layer alone would give"
  pub coded : DoneLeaving (call (code packets carriers)) before ((call (code packets carriers)).after before)
      (coded_into alone packets carriers)
  pub recoded : DoneLeaving (call (code packets' carriers)) before ((call (code packets' carriers)).after before)
      (coded_into alone packets' carriers)
  -- "both are then equal to coding the frame again": the carriers and what is left behind
  pub replaced : DoneLeaving (call (replace (coded_into alone packets carriers) number old new))
      (between ((call (code packets carriers)).after before))
      (between ((call (code packets' carriers)).after before))
      (coded_into alone packets' carriers)

pub record Alike {Before Lent : Type 0} (call : Call Before Lent) (one two : Before) : Type 0 where
  pub same_number : call.number one ≡ call.number two
  pub same_after : call.after one ≡ call.after two
  pub same_left : (left : Lent) → call.Leaves one left ↔ call.Leaves two left
