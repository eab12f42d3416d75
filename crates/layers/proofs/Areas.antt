-- Records in lent areas, and calls over them: a door for C does to a record's bytes what its call does to the record.
--     long_in, long_with              an area as long as a record: the record that it is, and one put in
--     left_alone                      an area of another length is left alone,
--     other_area, other_seven         isn't good, and every call answers it with 7
--     in_sized                        the record that an area is has sized layers
--     area_kept                       an area into which the record that it is is put
--     length_stays, area_long         an area into which a record was put: its length,
--     left_in, put_over               the record that it is, and another put in
--     record_sized                    a call keeps sized layers
--     door_refused,
--     door_refused_left               a refused call leaves the area, and what was lent besides
--     area_length_stays               the area's length stays
--     after_in, door_did              the record in the area that a call leaves is the record that the call leaves
--     bytes_stay                      a call alters no byte but the named layer's
--     door_one_result                 two results of a call over an area are equal
use mathlib.Core.Path.{◌≡◌, refl, sym, ap, ◌∙◌}
use mathlib.Core.Bool.{false}
use mathlib.Core.List.{List}
use Prim.Native.Nat.{ℕ, ◌+◌, ◌*◌, ◌<◌, ◌≤◌}
use native.Mathlib.Decide.{ℕ_discrete}
use native.Mathlib.Omega.{arith}
use lib.ListN.{length, get_or}
use borrow.Author.Tests.{eq-eqb, ne_eqb}
use Rattle.layers.specs.Record.{Kind, Three, layer_named, with_layer, empty_record, good_record}
use Rattle.layers.specs.Calls.{Call, Did, asked, in_layer}
use Rattle.layers.specs.Areas.{record_size, record_of, record_bytes, record_in, area_with, in_area}
use Rattle.layers.proofs.Laws.{LawfulKind, Lawful}
use Rattle.layers.proofs.Good.{empty_not_good}
use Rattle.layers.proofs.InLayer.{after_fine, after_some, not_good_seven, refused_record, refused_left}
use Rattle.layers.proofs.InLayer.{OneResult, layer_one_result}
use Rattle.layers.proofs.RecordBytes.{SizedRecord, sized_named, sized_with, empty_sized, read_sized}
use Rattle.layers.proofs.RecordBytes.{length_record, record_back, area_back, outside_same}

-- ---- areas by their lengths

module _ (kind : Kind) (area : List ℕ) (long : length area ≡ record_size kind) where
  pub long_in : record_in kind area ≡ record_of kind area
  long_in = unfold record_in in rw (eq-eqb (length area) (record_size kind) long) refl

  pub long_with : (three : Three kind.State) → area_with kind three area ≡ record_bytes kind three
  long_with three = unfold area_with in rw (eq-eqb (length area) (record_size kind) long) refl

module _ (kind : Kind) (area : List ℕ) (short : length area ≡ record_size kind → ⊥) where
  other_in : record_in kind area ≡ empty_record kind
  other_in = unfold record_in in rw (ne_eqb (length area) (record_size kind) short) refl

  -- "an area of another length is left alone"
  pub left_alone : (three : Three kind.State) → area_with kind three area ≡ area
  left_alone three = unfold area_with in rw (ne_eqb (length area) (record_size kind) short) refl

  -- "An area of another length than a state's is a state that isn't good"
  pub other_area : good_record kind (record_in kind area) ≡ false
  other_area = ap (good_record kind) other_in ∙ empty_not_good kind

  pub other_seven : {Lent : Type 0} (call : Call kind.State Lent) (lent : Lent) (name : ℕ)
      → (in_area kind (in_layer kind call lent name)).number area ≡ 7
  unfolding in_area
  other_seven call lent name = not_good_seven kind call lent name (record_in kind area) other_area

-- ---- a record put into an area

module _ {kind : Kind} (laws : LawfulKind kind) (area : List ℕ) where
  pub in_sized : SizedRecord laws (record_in kind area)
  in_sized = elim (ℕ_discrete (length area) (record_size kind)) [
    | yes long ↦ rw (long_in kind area long) (read_sized laws area)
    | no short ↦ rw (other_in kind area short) (empty_sized laws)
  ]

  pub area_kept : area_with kind (record_in kind area) area ≡ area
  area_kept = elim (ℕ_discrete (length area) (record_size kind)) [
    | yes long ↦
        long_with kind area long (record_in kind area)
        ∙ ap (record_bytes kind) (long_in kind area long)
        ∙ area_back laws area long
    | no short ↦ left_alone kind area short (record_in kind area)
  ]

  module _ (three : Three kind.State) (sized : SizedRecord laws three) where
    pub length_stays : length (area_with kind three area) ≡ length area
    length_stays = elim (ℕ_discrete (length area) (record_size kind)) [
      | yes long ↦ ap length (long_with kind area long three) ∙ length_record laws three sized ∙ sym long
      | no short ↦ ap length (left_alone kind area short three)
    ]

    pub area_long : length area ≡ record_size kind → length (area_with kind three area) ≡ record_size kind
    area_long long = length_stays ∙ long

    pub left_in : length area ≡ record_size kind → record_in kind (area_with kind three area) ≡ three
    left_in long =
        long_in kind (area_with kind three area) (area_long long)
        ∙ ap (record_of kind) (long_with kind area long three)
        ∙ record_back laws three sized

    pub put_over : (other : Three kind.State)
        → area_with kind other (area_with kind three area) ≡ area_with kind other area
    put_over other = elim (ℕ_discrete (length area) (record_size kind)) [
      | yes long ↦
          long_with kind (area_with kind three area) (area_long long) other ∙ sym (long_with kind area long other)
      | no short ↦ ap (area_with kind other) (left_alone kind area short three)
    ]

-- ---- a call in a layer, over an area

put_outside : {kind : Kind} (laws : LawfulKind kind) (area : List ℕ) (three : Three kind.State)
    → SizedRecord laws three → (name : ℕ) (state : kind.State) → laws.Sized state → (k : ℕ)
    → (1 + kind.size * name ≤ k → k < 1 + kind.size * name + kind.size → ⊥)
    → get_or (area_with kind (with_layer three name state) area) k 0 ≡ get_or (area_with kind three area) k 0
put_outside {kind} laws area three sized name state is k outside =
    elim (ℕ_discrete (length area) (record_size kind)) [
      | yes long ↦
          rw (long_with kind area long (with_layer three name state), long_with kind area long three)
          (outside_same laws three sized name state is k outside)
      | no short ↦
          rw (left_alone kind area short (with_layer three name state), left_alone kind area short three) refl
    ]

module _ {kind : Kind} {laws : LawfulKind kind} {Lent : Type 0} {call : Call kind.State Lent} {lent : Lent}
    (lawful : Lawful laws call lent) (name : ℕ) where
  pub record_sized : (three : Three kind.State) → SizedRecord laws three
      → SizedRecord laws ((in_layer kind call lent name).after three)
  record_sized three sized = elim (ℕ_discrete (asked kind name three) 0) [
    | yes fine ↦
        let there = layer_named kind three name in
        rw (after_fine kind call lent name three fine)
        (sized_with laws three sized name (call.after there)
        (lawful.keeps_sized there (sized_named laws three sized name)))
    | no some ↦ rw (after_some kind call lent name three some) sized
  ]

  module _ (area : List ℕ) where
    left_sized : SizedRecord laws ((in_layer kind call lent name).after (record_in kind area))
    left_sized = record_sized (record_in kind area) (in_sized laws area)

    -- A refused call leaves the area, and what was lent besides.
    pub door_refused : ((in_area kind (in_layer kind call lent name)).number area ≡ 0 → ⊥)
        → (in_area kind (in_layer kind call lent name)).after area ≡ area
    unfolding in_area
    door_refused refused =
        ap (λ (r : Three kind.State). area_with kind r area) (refused_record lawful name (record_in kind area) refused)
        ∙ area_kept laws area

    pub door_refused_left : ((in_area kind (in_layer kind call lent name)).number area ≡ 0 → ⊥) → (left : Lent)
        → (in_area kind (in_layer kind call lent name)).Leaves area left → left ≡ lent
    unfolding in_area
    door_refused_left refused = refused_left lawful name (record_in kind area) refused

    pub area_length_stays : length ((in_area kind (in_layer kind call lent name)).after area) ≡ length area
    unfolding in_area
    area_length_stays = length_stays laws area ((in_layer kind call lent name).after (record_in kind area)) left_sized

    -- The record in the area that a call leaves is the record that the call leaves.
    pub after_in : record_in kind ((in_area kind (in_layer kind call lent name)).after area)
        ≡ (in_layer kind call lent name).after (record_in kind area)
    unfolding in_area
    after_in = elim (ℕ_discrete (length area) (record_size kind)) [
      | yes long ↦ left_in laws area ((in_layer kind call lent name).after (record_in kind area)) left_sized long
      | no short ↦
          let answer = not_good_seven kind call lent name (record_in kind area) (other_area kind area short) in
          ap (record_in kind) (left_alone kind area short ((in_layer kind call lent name).after (record_in kind area)))
          ∙ sym (refused_record lawful name (record_in kind area) (λ done. omega arith))
    ]

    -- A door for C does to the bytes of a record what its call does to the record.
    pub door_did : (number : ℕ) (after : List ℕ) (left : Lent)
        → Did (in_area kind (in_layer kind call lent name)) area number after left
        → Did (in_layer kind call lent name) (record_in kind area) number (record_in kind after) left
    unfolding in_area
    door_did number after left did = record {
      number_is = did.number_is;
      state_is = ap (record_in kind) did.state_is ∙ after_in;
      lent_is = did.lent_is;
    }

    -- "Coding or replacing in one layer alters no byte of the other two."
    pub bytes_stay : (k : ℕ) → (1 + kind.size * name ≤ k → k < 1 + kind.size * name + kind.size → ⊥)
        → get_or ((in_area kind (in_layer kind call lent name)).after area) k 0 ≡ get_or area k 0
    unfolding in_area
    bytes_stay k outside = elim (ℕ_discrete (asked kind name (record_in kind area)) 0) [
      | yes fine ↦
          let there = layer_named kind (record_in kind area) name in
          let sized = in_sized laws area in
          rw (after_fine kind call lent name (record_in kind area) fine)
          (put_outside laws area (record_in kind area) sized name (call.after there)
          (lawful.keeps_sized there (sized_named laws (record_in kind area) sized name)) k outside
          ∙ ap (λ (l : List ℕ). get_or l k 0) (area_kept laws area))
      | no some ↦
          rw (after_some kind call lent name (record_in kind area) some)
          (ap (λ (l : List ℕ). get_or l k 0) (area_kept laws area))
    ]

  pub door_one_result : OneResult (in_area kind (in_layer kind call lent name))
  unfolding in_area
  door_one_result area = layer_one_result lawful name (record_in kind area)
