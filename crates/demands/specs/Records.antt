-- What is asked of a record of three layers, whatever the states of its layers are: of the entries over a record, and
-- of the doors for C over its lent bytes.
--     Refused                   a call whose number is another than 0
--     CallsAnswer               demand 1 of the calls, clause by clause
--     StartsAnswer              demand 1 of a start
--     LayerAlone                "Each call names its layer, whose carriers are what that layer alone would give."
-- proofs/Records.antt: `calls_answer`, `doors_answer`, `starts_answer`, `layer_alone`, `door_alone`, of any states and
-- entries that keep what layers/proofs/Laws.antt asks.
use Rattle.std.specs.Prelude.{◌≡◌, true, false, ◌↔◌, List, ℕ, ◌≤◌, length, replicate}
use Rattle.settings.specs.Reasons.{Reason, GivenFirst}
use Rattle.layers.specs.declared.Layer.{Layer}
use Rattle.layers.specs.Record.{Kind, Three, unused, unused_layer, layer_named, empty_record, good_record}
use Rattle.layers.specs.Good.{GoodRecord}
use Rattle.layers.specs.Start.{no_layer, settings_in, layer_of, starting_record, started_record}
use Rattle.layers.specs.Calls.{Call, Did}
use Rattle.layers.specs.Areas.{record_size, record_bytes, record_in, area_with, starting_into}
use Rattle.layers.specs.Rows.{NamedEntry, own_entries, alone_behind}
use Rattle.layers.specs.Reasons.{behind_first, record_reasons, start_record_reasons, start_into_reasons}

abbrev pub Refused : ℕ → Type 0
Refused number = number ≡ 0 → ⊥

-- `call` is an entry over a record or over its lent bytes (`over_record`, `over_bytes`), and `record_of` the record
-- that it is given
pub record CallsAnswer (kind : Kind) {Entry Lent Before : Type 0} (record_of : Before → Three kind.State)
    (call : ℕ → Entry → Call Before Lent) (lent_of : Entry → Lent) (reasons_of : Entry → kind.State → List {1} Reason)
    : Type 1 where
  -- "A refused call carries its number": "7 asks this of the whole record", "13 after 7", and then the layer's own
  -- refusals in their order
  pub answers : (name : ℕ) (entry : Entry) (before : Before)
      → GivenFirst (record_reasons kind name (record_of before)
      (behind_first (reasons_of entry (layer_named kind (record_of before) name)))) ((call name entry).number before)
  -- "Layers are named 0, 1, 2 for A, B, C. Any other name is a layer that isn't used: 13."
  pub other_name : (name : ℕ) → 3 ≤ name → (entry : Entry) (before : Before)
      → good_record kind (record_of before) ≡ true → (call name entry).number before ≡ 13
  -- ".. returns the state it was given and alters no byte that was lent"
  pub leaves : (name : ℕ) (entry : Entry) (before : Before) → Refused ((call name entry).number before)
      → ((call name entry).after before ≡ before)
      × ((left : Lent) → (call name entry).Leaves before left → left ≡ lent_of entry)
  -- a good record stays good through every call, whatever it answers
  pub stays_good : (name : ℕ) (entry : Entry) (before : Before) → good_record kind (record_of before) ≡ true
      → good_record kind (record_of ((call name entry).after before)) ≡ true
  -- ".. so closely that any two results it allows are shown equal"
  pub one_result : (name : ℕ) (entry : Entry) (before : Before) (number number' : ℕ) (after after' : Before)
      (left left' : Lent) → Did (call name entry) before number after left
      → Did (call name entry) before number' after' left' → (number ≡ number') × (after ≡ after') × (left ≡ left')
  -- "Coding or replacing in one layer alters no byte of the other two": so calls in two different layers commute. They
  -- leave the same, whichever goes first, and the second answers and hands out what it does without the first
  pub commute : (name other : ℕ) → (name ≡ other → ⊥) → (one two : Entry) (before : Before)
      → ((call other two).after ((call name one).after before) ≡ (call name one).after ((call other two).after before))
      × ((call other two).number ((call name one).after before) ≡ (call other two).number before)
      × ((left : Lent)
      → (call other two).Leaves ((call name one).after before) left ↔ (call other two).Leaves before left)

pub record StartsAnswer (kind : Kind) : Type 1 where
  -- "A start tests the layers in the order A, B, C."; "an area of another length is left alone and answered with 7,
  -- after 1 to 4 and 12"
  pub answers : (layers : Three Layer) → GivenFirst (start_record_reasons layers) (starting_record layers)
  pub door_answers : (layers : Three Layer) (area : List ℕ)
      → GivenFirst (start_into_reasons kind layers area) (starting_into kind layers area)
  pub left_alone : (layers : Three Layer) (area : List ℕ) → (length area ≡ record_size kind → ⊥)
      → area_with kind (started_record kind layers) area ≡ area
  -- "A layer repeats the record's mode; an unused one is all zero", and a used one is what its own start gives
  pub started_used : (layers : Three Layer) → starting_record layers ≡ 0 → (name : ℕ)
      → no_layer (layer_of layers name) ≡ false → layer_named kind (started_record kind layers) name
      ≡ kind.fresh (settings_in layers.mode (layer_of layers name))
  pub started_unused : (layers : Three Layer) → starting_record layers ≡ 0 → (name : ℕ)
      → no_layer (layer_of layers name) ≡ true → layer_named kind (started_record kind layers) name ≡ unused_layer kind
  -- so a start that is done gives a good record, and it leaves it in the area
  pub started_good : (layers : Three Layer) → starting_record layers ≡ 0
      → good_record kind (started_record kind layers) ≡ true
  pub door_started : (layers : Three Layer) (area : List ℕ) → starting_into kind layers area ≡ 0
      → record_in kind (area_with kind (started_record kind layers) area) ≡ started_record kind layers
  -- "a refused start gives zeros throughout"
  pub refused : (layers : Three Layer) → Refused (starting_record layers)
      → started_record kind layers ≡ empty_record kind
  pub door_refused : (layers : Three Layer) (area : List ℕ) → length area ≡ record_size kind
      → Refused (starting_into kind layers area)
      → area_with kind (started_record kind layers) area ≡ replicate (record_size kind) 0
  -- and that is a record of zeros, which isn't good
  pub zeros : record_bytes kind (empty_record kind) ≡ replicate (record_size kind) 0
  pub empty_not_good : good_record kind (empty_record kind) ≡ false
  -- "A record is good if its mode is legal, each layer is either good in that mode or unused and all zero, and the
  -- segments are at most 13 in all"
  pub good : (three : Three kind.State) → (good_record kind three ≡ true) ↔ GoodRecord kind three

-- of a used layer of a good record; `behind` tells what calls in a row leave
pub record LayerAlone (kind : Kind) {Entry Lent Before : Type 0} (record_of : Before → Three kind.State)
    (call : ℕ → Entry → Call Before Lent) (behind : List (NamedEntry Entry) → Before → Before)
    (call_of : Entry → Call kind.State Lent) : Type 0 where
  -- one call
  pub alone : (name : ℕ) (entry : Entry) (before : Before) → good_record kind (record_of before) ≡ true
      → unused kind (layer_named kind (record_of before) name) ≡ false
      → (number : ℕ) (after : Before) (left : Lent) → Did (call name entry) before number after left
      → Did (call_of entry) (layer_named kind (record_of before) name) number
      (layer_named kind (record_of after) name) left
  -- and the state behind any calls, each in the layer that it names: the layer's own calls alone count
  pub in_turn : (name : ℕ) (row : List (NamedEntry Entry)) (before : Before)
      → good_record kind (record_of before) ≡ true → unused kind (layer_named kind (record_of before) name) ≡ false
      → layer_named kind (record_of (behind row before)) name
      ≡ alone_behind call_of (own_entries name row) (layer_named kind (record_of before) name)
