-- What is asked of records, of any states and entries that are lawful.
--     calls_answer, doors_answer     demand 1 of the entries over a record, and of the doors for C
--     other_length                   a door given an area of another length
--     starts_answer                  demand 1 of a start
--     layer_alone, door_alone        a call in a layer is what it is in that layer alone
use mathlib.Core.Path.{◌≡◌, sym, ap, ◌∙◌}
use mathlib.Core.Bool.{true}
use mathlib.Core.Logic.{◌↔◌}
use mathlib.Core.List.{List, [], ◌∷◌}
use Prim.Native.Nat.{ℕ}
use native.Mathlib.Decide.{ℕ_discrete}
use native.Mathlib.Omega.{arith}
use lib.ListN.{length}
use Rattle.settings.specs.Reasons.{Reason, ◌unless◌, GivenFirst}
use Rattle.layers.specs.declared.Layer.{Layer}
use Rattle.layers.specs.Record.{Kind, Three, layer_named, good_record}
use Rattle.layers.specs.Start.{starting_record}
use Rattle.layers.specs.Calls.{Call, Did}
use Rattle.layers.specs.Areas.{record_size, record_in, area_with, in_area, starting_into}
use Rattle.layers.specs.Rows.{over_record, over_bytes, NamedEntry, through, through_area}
use Rattle.layers.specs.Reasons.{behind_first}
use Rattle.layers.proofs.Laws.{LawfulKind, Lawful}
use Rattle.layers.proofs.Good.{empty_not_good}
use Rattle.layers.proofs.GoodWords.{good_words}
use Rattle.layers.proofs.InLayer.{refused_record, refused_left, record_stays_good, OneResult, same_result}
use Rattle.layers.proofs.InLayer.{other_name_thirteen, layer_one_result, did_alone}
use Rattle.layers.proofs.Commute.{number_same, leaves_same, same_leaves, calls_commute}
use Rattle.layers.proofs.Between.{layer_through}
use Rattle.layers.proofs.RecordBytes.{zero_record}
use Rattle.layers.proofs.Areas.{left_alone, other_seven, after_in, door_refused, door_refused_left, door_did}
use Rattle.layers.proofs.Areas.{door_one_result}
use Rattle.layers.proofs.AreaRows.{through_in, area_through}
use Rattle.layers.proofs.StartAreas.{into_refused, into_long, into_seven, started_in, start_zeros}
use Rattle.layers.proofs.Starts.{started_unused, started_fresh, started_good, start_empty}
use Rattle.layers.proofs.Reasons.{record_answers_once, start_record_answers, start_into_answers}
use Rattle.demands.specs.Records.{CallsAnswer, StartsAnswer, LayerAlone}

-- two results of a call, part by part
results : {Before Lent : Type 0} (call : Call Before Lent) → OneResult call → (before : Before)
    (number number' : ℕ) (after after' : Before) (left left' : Lent)
    → Did call before number after left → Did call before number' after' left'
    → (number ≡ number') × (after ≡ after') × (left ≡ left')
results call one before number number' after after' left left' did did' =
    let same = same_result call one before did did' in
    (same.same_number, same.same_after, same.same_left)

module _ {kind : Kind} {laws : LawfulKind kind} {Entry Lent : Type 0} (call_of : Entry → Call kind.State Lent)
    (lent_of : Entry → Lent) (lawful : (entry : Entry) → Lawful laws (call_of entry) (lent_of entry)) where
  -- ---- two calls over lent bytes, in different layers

  abbrev named : ℕ → Entry → NamedEntry Entry
  named name entry = record { name = name; entry = entry }

  -- what both leave
  both_leave : (name other : ℕ) (one two : Entry) (area : List ℕ)
      → (over_bytes kind call_of lent_of other two).after ((over_bytes kind call_of lent_of name one).after area)
      ≡ area_with kind ((over_record kind call_of lent_of other two).after
      ((over_record kind call_of lent_of name one).after (record_in kind area))) area
  unfolding through_area through
  both_leave name other one two area = area_through call_of lent_of lawful (named name one ∷ named other two ∷ []) area

  module _ (name other : ℕ) (differ : name ≡ other → ⊥) (one two : Entry) (area : List ℕ) where
    behind_first_is : record_in kind ((over_bytes kind call_of lent_of name one).after area)
        ≡ (over_record kind call_of lent_of name one).after (record_in kind area)
    behind_first_is = after_in (lawful one) name area

    doors_commute : ((over_bytes kind call_of lent_of other two).after ((over_bytes kind call_of lent_of name
        one).after area)
        ≡ (over_bytes kind call_of lent_of name one).after ((over_bytes kind call_of lent_of other two).after area))
        × ((over_bytes kind call_of lent_of other two).number ((over_bytes kind call_of lent_of name one).after area)
        ≡ (over_bytes kind call_of lent_of other two).number area)
        × ((left : Lent)
        → (over_bytes kind call_of lent_of other two).Leaves ((over_bytes kind call_of lent_of name one).after area)
        left
        ↔ (over_bytes kind call_of lent_of other two).Leaves area left)
    unfolding in_area
    doors_commute = (
      both_leave name other one two area
          ∙ ap (λ (r : Three kind.State). area_with kind r area)
          (calls_commute (lawful one) (lawful two) name other differ (record_in kind area))
          ∙ sym (both_leave other name two one area),
      ap (over_record kind call_of lent_of other two).number behind_first_is
          ∙ number_same (lawful one) name (record_in kind area) other differ (call_of two) (lent_of two),
      λ left. (
        λ leaves. leaves_same (lawful one) name (record_in kind area) other differ (call_of two) (lent_of two) left
            (rw (← behind_first_is) leaves),
        λ leaves. rw behind_first_is
            (same_leaves (lawful one) name (record_in kind area) other differ (call_of two) (lent_of two) left leaves),
      ),
    )

  module _ (reasons_of : Entry → kind.State → List {1} Reason)
      (answer : (entry : Entry) (state : kind.State)
      → GivenFirst ((7 unless (kind.good state ≡ true)) ∷ behind_first (reasons_of entry state))
      ((call_of entry).number state)) where
    -- ---- over a record

    pub calls_answer : CallsAnswer kind (λ three. three) (over_record kind call_of lent_of) lent_of reasons_of
    calls_answer = record {
      answers = λ name entry three.
          record_answers_once kind (call_of entry) (lent_of entry) name three _ laws
          (answer entry (layer_named kind three name));
      other_name = λ name above entry three good.
          other_name_thirteen kind (call_of entry) (lent_of entry) name three laws good above;
      leaves = λ name entry three refused.
          (refused_record (lawful entry) name three refused, refused_left (lawful entry) name three refused);
      stays_good = λ name entry three. record_stays_good (lawful entry) name three;
      one_result = λ name entry.
          results (over_record kind call_of lent_of name entry) (layer_one_result (lawful entry) name);
      commute = λ name other differ one two three. (
        calls_commute (lawful one) (lawful two) name other differ three,
        number_same (lawful one) name three other differ (call_of two) (lent_of two),
        λ left. (
          leaves_same (lawful one) name three other differ (call_of two) (lent_of two) left,
          same_leaves (lawful one) name three other differ (call_of two) (lent_of two) left,
        ),
      );
    }

    -- ---- over its lent bytes

    pub doors_answer : CallsAnswer kind (record_in kind) (over_bytes kind call_of lent_of) lent_of reasons_of
    unfolding in_area
    doors_answer = record {
      answers = λ name entry area. calls_answer.answers name entry (record_in kind area);
      other_name = λ name above entry area. calls_answer.other_name name above entry (record_in kind area);
      leaves = λ name entry area refused.
          (door_refused (lawful entry) name area refused, door_refused_left (lawful entry) name area refused);
      stays_good = λ name entry area good.
          ap (good_record kind) (after_in (lawful entry) name area)
          ∙ record_stays_good (lawful entry) name (record_in kind area) good;
      one_result = λ name entry.
          results (over_bytes kind call_of lent_of name entry) (door_one_result (lawful entry) name);
      commute = doors_commute;
    }

  -- "An area of another length than a state's is a state that isn't good: 7, and it is left alone."
  pub other_length : (area : List ℕ) → (length area ≡ record_size kind → ⊥) → (name : ℕ) (entry : Entry)
      → ((over_bytes kind call_of lent_of name entry).number area ≡ 7)
      × ((over_bytes kind call_of lent_of name entry).after area ≡ area)
  unfolding in_area
  other_length area short name entry =
      (other_seven kind area short (call_of entry) (lent_of entry) name, left_alone kind area short _)

  -- ---- a layer alone

  pub layer_alone : LayerAlone kind (λ three. three) (over_record kind call_of lent_of) (through kind call_of lent_of)
      call_of
  layer_alone = record {
    alone = λ name entry three good used.
        did_alone laws (call_of entry) (lent_of entry) name three good used;
    in_turn = layer_through call_of lent_of lawful;
  }

  pub door_alone : LayerAlone kind (record_in kind) (over_bytes kind call_of lent_of) (through_area kind call_of
      lent_of)
      call_of
  door_alone = record {
    alone = λ name entry area good used number after left did.
        did_alone laws (call_of entry) (lent_of entry) name (record_in kind area) good used number
        (record_in kind after)
        left (door_did (lawful entry) name area number after left did);
    in_turn = λ name row area good used.
        ap (λ (r : Three kind.State). layer_named kind r name) (through_in call_of lent_of lawful row area)
        ∙ layer_through call_of lent_of lawful name row (record_in kind area) good used;
  }

-- ---- a start

module _ {kind : Kind} (laws : LawfulKind kind) where
  -- a start into an area is done where the area is as long as a record
  into_done : (layers : Three Layer) (area : List ℕ) → starting_into kind layers area ≡ 0
      → length area ≡ record_size kind
  into_done layers area done = elim (ℕ_discrete (length area) (record_size kind)) [
    | yes long ↦ long
    | no short ↦ elim (ℕ_discrete (starting_record layers) 0) [
      | yes fine ↦ absurd (let seven = into_seven kind layers area fine short in omega arith)
      | no refused ↦ absurd (refused (sym (into_refused kind layers area refused) ∙ done))
    ]
  ]

  pub starts_answer : StartsAnswer kind
  starts_answer = record {
    answers = start_record_answers;
    door_answers = λ layers. start_into_answers layers kind;
    left_alone = λ layers area short. left_alone kind area short _;
    started_used = started_fresh laws;
    started_unused = started_unused laws;
    started_good = started_good laws;
    door_started = λ layers area done. started_in laws layers area (into_done layers area done);
    refused = start_empty kind;
    door_refused = λ layers area long refused.
        start_zeros laws layers area long (λ done. refused (into_long kind layers area long ∙ done));
    zeros = zero_record laws;
    empty_not_good = empty_not_good kind;
    good = good_words kind;
  }
