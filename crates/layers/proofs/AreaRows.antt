-- Calls in a row over a lent area: doors for C, each in the layer that it names.
--     through_in, area_through     the record in the area behind them is the record behind the calls, and the area is
--                                  that record put in
--     layer_bytes_stay             calls elsewhere alter no byte of the named layer
--     DoorInstead                  a door is done, and leaves this area, and in the others what its call leaves alone
--     again_at_the_door            demand 3's shape, with doors in other layers between
use mathlib.Core.Path.{◌≡◌, refl, sym, ap, ◌∙◌}
use mathlib.Core.Bool.{true, false}
use mathlib.Core.List.{List, [], ◌∷◌}
use Prim.Native.Nat.{ℕ, ◌+◌, ◌*◌, ◌<◌, ◌≤◌}
use native.Mathlib.Decide.{dec_lt}
use native.Mathlib.Nat.{mul-le-mul_left}
use native.Mathlib.Omega.{arith}
use lib.ListN.{get_or}
use Rattle.layers.specs.Record.{Kind, Three, unused, layer_named, good_record}
use Rattle.layers.specs.Calls.{Call, in_layer}
use Rattle.layers.specs.Areas.{record_in, area_with, in_area}
use Rattle.layers.specs.Rows.{NamedEntry, through, through_area, Elsewhere}
use Rattle.layers.proofs.Laws.{LawfulKind, Lawful}
use Rattle.layers.proofs.Areas.{in_sized, area_kept, put_over, record_sized, after_in, bytes_stay}
use Rattle.layers.proofs.Again.{DoneInstead, again_in_layer}

-- a byte of one layer is none of another
apart : (size name other k : ℕ) → (other ≡ name → ⊥) → 1 + size * name ≤ k → k < 1 + size * name + size
    → 1 + size * other ≤ k → k < 1 + size * other + size → ⊥
apart size name other k differ from to from' to' = elim (dec_lt name other) [
  | yes less ↦ (let more = mul-le-mul_left size less in omega arith)
  | no most ↦
      let less : other < name = omega arith in
      let more = mul-le-mul_left size less in
      omega arith
]

-- ---- any row

module _ {kind : Kind} {laws : LawfulKind kind} {Lent : Type 0} {call : Call kind.State Lent} {lent : Lent}
    (lawful : Lawful laws call lent) (name : ℕ) (area : List ℕ) where
  -- any record put into the area that a call leaves
  put_behind : (three : Three kind.State)
      → area_with kind three ((in_area kind (in_layer kind call lent name)).after area) ≡ area_with kind three area
  unfolding in_area
  put_behind three =
      put_over laws area ((in_layer kind call lent name).after (record_in kind area))
      (record_sized lawful name (record_in kind area) (in_sized laws area)) three

module _ {kind : Kind} {laws : LawfulKind kind} {Entry Lent : Type 0} (call_of : Entry → Call kind.State Lent)
    (lent_of : Entry → Lent) (lawful : (entry : Entry) → Lawful laws (call_of entry) (lent_of entry)) where
  abbrev door_after : NamedEntry Entry → List ℕ → List ℕ
  door_after one = (in_area kind (in_layer kind (call_of one.entry) (lent_of one.entry) one.name)).after

  pub through_in : (row : List (NamedEntry Entry)) (area : List ℕ)
      → record_in kind (through_area kind call_of lent_of row area)
      ≡ through kind call_of lent_of row (record_in kind area)
  unfolding through through_area
  through_in [] area = refl
  through_in (one ∷ more) area =
      through_in more (door_after one area)
      ∙ ap (through kind call_of lent_of more) (after_in (lawful one.entry) one.name area)

  put_through : (row : List (NamedEntry Entry)) (area : List ℕ) (three : Three kind.State)
      → area_with kind three (through_area kind call_of lent_of row area) ≡ area_with kind three area
  unfolding through_area
  put_through [] area three = refl
  put_through (one ∷ more) area three =
      put_through more (door_after one area) three ∙ put_behind (lawful one.entry) one.name area three

  pub area_through : (row : List (NamedEntry Entry)) (area : List ℕ)
      → through_area kind call_of lent_of row area
      ≡ area_with kind (through kind call_of lent_of row (record_in kind area)) area
  area_through row area =
      sym (area_kept laws (through_area kind call_of lent_of row area))
      ∙ put_through row area (record_in kind (through_area kind call_of lent_of row area))
      ∙ ap (λ (r : Three kind.State). area_with kind r area) (through_in row area)

  -- ---- a row elsewhere

  -- "Coding or replacing in one layer alters no byte of the other two."
  pub layer_bytes_stay : (name k : ℕ) → 1 + kind.size * name ≤ k → k < 1 + kind.size * name + kind.size
      → (row : List (NamedEntry Entry)) → Elsewhere name row → (area : List ℕ)
      → get_or (through_area kind call_of lent_of row area) k 0 ≡ get_or area k 0
  unfolding through_area
  layer_bytes_stay name k from to [] elsewhere area = refl
  layer_bytes_stay name k from to (one ∷ more) elsewhere area =
      layer_bytes_stay name k from to more elsewhere.1 (door_after one area)
      ∙ bytes_stay (lawful one.entry) one.name area k
      (apart kind.size name one.name k elsewhere.0 from to)

-- ---- demand 3's shape

pub record DoorInstead (kind : Kind) {Lent : Type 0} (call : Call kind.State Lent) (lent : Lent) (name : ℕ)
    (before after : List ℕ) (alone : kind.State) : Type 0 where
  pub done : (in_area kind (in_layer kind call lent name)).number before ≡ 0
  pub area_is : (in_area kind (in_layer kind call lent name)).after before ≡ after
  pub leaves : (left : Lent) → (in_area kind (in_layer kind call lent name)).Leaves before left → call.Leaves alone left
  pub may_leave : (left : Lent) → call.Leaves alone left
      → (in_area kind (in_layer kind call lent name)).Leaves before left

-- a door over an area, by its call over the record that the area is
door_by : (kind : Kind) {Lent : Type 0} (call : Call kind.State Lent) (lent : Lent) (name : ℕ)
    (before after : List ℕ) (alone : kind.State) (three three' : Three kind.State) → record_in kind before ≡ three
    → area_with kind three' before ≡ after → DoneInstead kind call lent name three three' alone
    → DoorInstead kind call lent name before after alone
unfolding in_area
door_by kind call lent name before after alone three three' is put instead = record {
  done = ap (in_layer kind call lent name).number is ∙ instead.done;
  area_is =
      ap (λ (r : Three kind.State). area_with kind ((in_layer kind call lent name).after r) before) is
      ∙ ap (λ (r : Three kind.State). area_with kind r before) instead.record_is
      ∙ put;
  leaves = λ left leaves. instead.leaves left (rw (← is) leaves);
  may_leave = λ left leaves. rw is (instead.may_leave left leaves);
}

module _ {kind : Kind} {laws : LawfulKind kind} {First Other Then : Type 0} {first : Call kind.State First}
    {first-lent : First} {other : Call kind.State Other} {other-lent : Other} {then : Call kind.State Then}
    {then-lent : Then} (lawful-first : Lawful laws first first-lent) (lawful-other : Lawful laws other other-lent)
    (Lawful-then : Lawful laws then then-lent) (name : ℕ) (area : List ℕ)
    (good : good_record kind (record_in kind area) ≡ true)
    (used : unused kind (layer_named kind (record_in kind area) name) ≡ false) where
  -- Two doors in a layer, with any doors in other layers between, leave what another would have left in its turn.
  pub again_at_the_door : {Entry Lent : Type 0} (call_of : Entry → Call kind.State Lent) (lent_of : Entry → Lent)
      → ((entry : Entry) → Lawful laws (call_of entry) (lent_of entry)) → (row : List (NamedEntry Entry))
      → Elsewhere name row → then.number (first.after (layer_named kind (record_in kind area) name)) ≡ 0
      → then.after (first.after (layer_named kind (record_in kind area) name))
      ≡ other.after (layer_named kind (record_in kind area) name)
      → DoorInstead kind then then-lent name
      (through_area kind call_of lent_of row ((in_area kind (in_layer kind first first-lent name)).after area))
      (through_area kind call_of lent_of row ((in_area kind (in_layer kind other other-lent name)).after area))
      (first.after (layer_named kind (record_in kind area) name))
  again_at_the_door call_of lent_of lawful row elsewhere done instead =
      let once = (in_area kind (in_layer kind first first-lent name)).after area in
      let turn = (in_area kind (in_layer kind other other-lent name)).after area in
      door_by kind then then-lent name _ _ _ _ _
      (through_in call_of lent_of lawful row once
      ∙ ap (through kind call_of lent_of row) (after_in lawful-first name area))
      (put_through call_of lent_of lawful row once _
      ∙ put_behind lawful-first name area _
      ∙ sym (put_behind lawful-other name area _)
      ∙ ap (λ (r : Three kind.State). area_with kind (through kind call_of lent_of row r) turn)
      (sym (after_in lawful-other name area))
      ∙ sym (area_through call_of lent_of lawful row turn))
      (again_in_layer other other-lent lawful-first Lawful-then name
      (record_in kind area) good used call_of lent_of lawful
      row elsewhere done instead)
