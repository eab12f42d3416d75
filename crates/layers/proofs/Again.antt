-- Demand 3's shape in a record: a call that takes a layer where another would have taken it, with calls in other layers
-- between: "Coding or replacing in one layer alters no byte of the other two."
--     DoneInstead        a call in a layer is done, and leaves this record, and in the lent areas what it leaves alone
--     again_in_layer     of three calls, behind a row of calls in other layers
use mathlib.Core.Path.{◌≡◌, sym, ap, ◌∙◌}
use mathlib.Core.Bool.{true, false}
use mathlib.Core.List.{List}
use Prim.Native.Nat.{ℕ}
use Rattle.layers.specs.Record.{Kind, Three, unused, layer_named, with_layer, good_record}
use Rattle.layers.specs.Calls.{Call, in_layer}
use Rattle.layers.specs.Rows.{NamedEntry, through, Elsewhere}
use Rattle.layers.proofs.Laws.{LawfulKind, Lawful}
use Rattle.layers.proofs.Named.{with_again}
use Rattle.layers.proofs.InLayer.{after_alone, layer_alone, number_alone, leaves_alone, alone_leaves}
use Rattle.layers.proofs.InLayer.{record_stays_good}
use Rattle.layers.proofs.Commute.{unused_same}
use Rattle.layers.proofs.Between.{through_number, through_leaves, leaves_through, through_commute}

pub record DoneInstead (kind : Kind) {Lent : Type 0} (call : Call kind.State Lent) (lent : Lent) (name : ℕ)
    (before after : Three kind.State) (alone : kind.State) : Type 0 where
  pub done : (in_layer kind call lent name).number before ≡ 0
  pub record_is : (in_layer kind call lent name).after before ≡ after
  pub leaves : (left : Lent) → (in_layer kind call lent name).Leaves before left → call.Leaves alone left
  pub may_leave : (left : Lent) → call.Leaves alone left → (in_layer kind call lent name).Leaves before left

module _ {kind : Kind} {laws : LawfulKind kind} {First Other Then : Type 0} {first : Call kind.State First}
    {first-lent : First} (other : Call kind.State Other) (other-lent : Other) {then : Call kind.State Then}
    {then-lent : Then} (lawful-first : Lawful laws first first-lent) (Lawful-then : Lawful laws then then-lent)
    (name : ℕ) (three : Three kind.State) (good : good_record kind three ≡ true)
    (used : unused kind (layer_named kind three name) ≡ false) where
  -- the record between the two calls
  abbrev between : Three kind.State
  between = (in_layer kind first first-lent name).after three

  between_good : good_record kind between ≡ true
  between_good = record_stays_good lawful-first name three good

  between_used : unused kind (layer_named kind between name) ≡ false
  between_used = unused_same lawful-first name three name ∙ used

  between_layer : layer_named kind between name ≡ first.after (layer_named kind three name)
  between_layer = layer_alone laws first first-lent name three good used

  -- the record behind both
  behind_both : then.after (first.after (layer_named kind three name)) ≡ other.after (layer_named kind three name)
      → (in_layer kind then then-lent name).after between ≡ (in_layer kind other other-lent name).after three
  behind_both instead =
      after_alone laws then then-lent name between between_good between_used
      ∙ ap (λ (r : Three kind.State). with_layer r name (then.after (layer_named kind between name)))
      (after_alone laws first first-lent name three good used)
      ∙ with_again three name (first.after (layer_named kind three name)) (then.after (layer_named kind between name))
      ∙ ap (λ (s : kind.State). with_layer three name (then.after s)) between_layer
      ∙ ap (with_layer three name) instead
      ∙ sym (after_alone laws other other-lent name three good used)

  -- Two calls in a layer, with any calls in other layers between, leave what another call would have left in its turn.
  pub again_in_layer : {Entry Lent : Type 0} (call_of : Entry → Call kind.State Lent) (lent_of : Entry → Lent)
      → ((entry : Entry) → Lawful laws (call_of entry) (lent_of entry)) → (row : List (NamedEntry Entry))
      → Elsewhere name row → then.number (first.after (layer_named kind three name)) ≡ 0
      → then.after (first.after (layer_named kind three name)) ≡ other.after (layer_named kind three name)
      → DoneInstead kind then then-lent name
      (through kind call_of lent_of row ((in_layer kind first first-lent name).after three))
      (through kind call_of lent_of row ((in_layer kind other other-lent name).after three))
      (first.after (layer_named kind three name))
  again_in_layer call_of lent_of lawful row elsewhere done instead = record {
    done =
        through_number call_of lent_of lawful then then-lent name row elsewhere between
        ∙ number_alone laws then then-lent name between between_good between_used
        ∙ ap then.number between_layer
        ∙ done;
    record_is =
        through_commute call_of lent_of lawful Lawful-then name row elsewhere between
        ∙ ap (through kind call_of lent_of row) (behind_both instead);
    leaves = λ left leaves.
        rw (← between_layer) (leaves_alone laws then then-lent name between between_good between_used left
        (through_leaves call_of lent_of lawful then then-lent name row elsewhere between left leaves));
    may_leave = λ left leaves.
        leaves_through call_of lent_of lawful then then-lent name row elsewhere between left
        (alone_leaves laws then then-lent name between between_good between_used left (rw between_layer leaves));
  }
