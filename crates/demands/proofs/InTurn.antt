-- A door for C in one layer of a record, behind calls of the doors in other layers.
--     LayerIs          the bytes are a good record, whose named layer is used and is this state
--     InTurn           a call is what the layer's own entry does to that state, and leaves such bytes
--     call_in_turn     and so is a call behind any calls in other layers
use mathlib.Core.Path.{◌≡◌, ap, subst, ◌∙◌}
use mathlib.Core.Bool.{true, false}
use mathlib.Core.List.{List}
use Prim.Native.Nat.{ℕ}
use Rattle.layers.specs.Record.{Kind, Three, unused, layer_named, good_record}
use Rattle.layers.specs.Calls.{Call, Did}
use Rattle.layers.specs.Areas.{record_in}
use Rattle.layers.specs.Rows.{over_bytes, NamedEntry, through_area, Elsewhere}
use Rattle.layers.proofs.Laws.{LawfulKind, Lawful}
use Rattle.layers.proofs.Areas.{door_did}
use Rattle.layers.proofs.Commute.{good_same, unused_same}
use Rattle.layers.proofs.Between.{through_good, through_unused, through_other}
use Rattle.layers.proofs.AreaRows.{through_in}
use Rattle.demands.proofs.Records.{door_alone}

pub record LayerIs (kind : Kind) (name : ℕ) (area : List ℕ) (state : kind.State) : Type 0 where
  pub good : good_record kind (record_in kind area) ≡ true
  pub used : unused kind (layer_named kind (record_in kind area) name) ≡ false
  pub state_is : layer_named kind (record_in kind area) name ≡ state

pub record InTurn (kind : Kind) {Lent : Type 0} (call : Call kind.State Lent) (name : ℕ) (state : kind.State)
    (number : ℕ) (after : List ℕ) (left : Lent) : Type 0 where
  pub number_is : number ≡ call.number state
  pub left_is : call.Leaves state left
  pub next : LayerIs kind name after (call.after state)

module _ {kind : Kind} {laws : LawfulKind kind} {Entry Lent : Type 0} (call_of : Entry → Call kind.State Lent)
    (lent_of : Entry → Lent) (lawful : (entry : Entry) → Lawful laws (call_of entry) (lent_of entry)) (name : ℕ) where
  -- calls elsewhere leave the layer
  behind_others : (row : List (NamedEntry Entry)) → Elsewhere name row → (area : List ℕ) (state : kind.State)
      → LayerIs kind name area state → LayerIs kind name (through_area kind call_of lent_of row area) state
  behind_others row elsewhere area state is =
      let three = record_in kind area in
      let same = through_in call_of lent_of lawful row area in
      record {
        good = ap (good_record kind) same ∙ through_good call_of lent_of lawful row three ∙ is.good;
        used = ap (λ (r : Three kind.State). unused kind (layer_named kind r name)) same
            ∙ through_unused call_of lent_of lawful row three name
            ∙ is.used;
        state_is = ap (λ (r : Three kind.State). layer_named kind r name) same
            ∙ through_other call_of lent_of lawful name row elsewhere three
            ∙ is.state_is;
      }

  -- a call in the layer
  own_call : (entry : Entry) (area : List ℕ) (state : kind.State) → LayerIs kind name area state
      → (number : ℕ) (after : List ℕ) (left : Lent)
      → Did (over_bytes kind call_of lent_of name entry) area number after left
      → InTurn kind (call_of entry) name state number after left
  own_call entry area state is number after left did =
      let alone = subst
      (λ (s : kind.State). Did (call_of entry) s number (layer_named kind (record_in kind after) name) left)
      is.state_is
      ((door_alone call_of lent_of lawful).alone name entry area is.good is.used number after left did) in
      let three = record_in kind area in
      let same = (door_did (lawful entry) name area number after left did).state_is in
      record {
        number_is = alone.number_is;
        left_is = alone.lent_is;
        next = record {
          good = ap (good_record kind) same ∙ good_same (lawful entry) name three ∙ is.good;
          used = ap (λ (r : Three kind.State). unused kind (layer_named kind r name)) same
              ∙ unused_same (lawful entry) name three name
              ∙ is.used;
          state_is = alone.state_is;
        };
      }

  pub call_in_turn : (row : List (NamedEntry Entry)) → Elsewhere name row → (entry : Entry) (area : List ℕ)
      (state : kind.State) → LayerIs kind name area state → (number : ℕ) (after : List ℕ) (left : Lent)
      → Did (over_bytes kind call_of lent_of name entry) (through_area kind call_of lent_of row area) number after left
      → InTurn kind (call_of entry) name state number after left
  call_in_turn row elsewhere entry area state is =
      own_call entry (through_area kind call_of lent_of row area) state (behind_others row elsewhere area state is)
