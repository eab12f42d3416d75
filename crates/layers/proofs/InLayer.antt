-- A call in a named layer of a record, by the call in that layer alone: "Each call names its layer, whose carriers are
-- what that layer alone would give."
--     nothing_asked, asked_none                  of a used layer of a good record nothing is asked, and of that alone
--     number_fine, after_fine                    what is answered and left where nothing is asked of the record,
--     number_some, after_some                    and where something is
--     not_good_seven                             a record that isn't good is answered with 7,
--     unused_thirteen, other_name_thirteen       an unused layer of a good one with 13, and so is any name from 3 on
--     number_alone, layer_alone                  in a used layer of a good record, the number and the state are the
--                                                layer's own
--     after_alone                                and the record is as it was, but for that layer
--     leaves_alone, alone_leaves                 what is left in the lent areas is what the layer alone leaves
--     did_alone                                  all of this of a call that was done
--     others_stay, mode_stays                    any other layer, and the mode, whatever is answered
--     refused_record, refused_left               a refused call leaves the record and the lent areas
--     record_stays_good                          a good record stays good, whatever is answered
--     OneResult, same_result, layer_one_result   two results of a call are equal
use mathlib.Core.Path.{◌≡◌, refl, sym, ap, ◌∙◌}
use mathlib.Core.Bool.{Bool, true, false, cond, not}
use Prim.Native.Nat.{ℕ, ◌≤◌}
use native.Mathlib.Decide.{ℕ_discrete}
use native.Mathlib.Omega.{arith}
use borrow.Author.Tests.{eq-eqb, ne_eqb}
use Rattle.layers.specs.Record.{Kind, Three, unused, layer_named, with_layer, good_record}
use Rattle.layers.specs.Calls.{Call, Did, asked, in_layer}
use Rattle.layers.proofs.Laws.{LawfulKind, none_set, Lawful}
use Rattle.layers.proofs.Named.{mode_with, named_with, named_other, with_named, other_name, used_below}
use Rattle.layers.proofs.Good.{used_good, good_with}

-- ---- what is asked of the record

asked_by : (good none : Bool) → cond {A = ℕ} (not good) 7 (cond none 13 0) ≡ 0 → (good ≡ true) × (none ≡ false)
asked_by true true e = absurd (omega arith)
asked_by true false e = (refl, refl)
asked_by false none e = absurd (omega arith)

module _ (kind : Kind) (name : ℕ) (three : Three kind.State) where
  asked_seven : good_record kind three ≡ false → asked kind name three ≡ 7
  asked_seven bad = unfold asked in rw bad refl

  asked_thirteen : good_record kind three ≡ true → unused kind (layer_named kind three name) ≡ true
      → asked kind name three ≡ 13
  asked_thirteen good none = unfold asked in rw (good, none) refl

  pub nothing_asked : good_record kind three ≡ true → unused kind (layer_named kind three name) ≡ false
      → asked kind name three ≡ 0
  nothing_asked good used = unfold asked in rw (good, used) refl

  pub asked_none : asked kind name three ≡ 0
      → (good_record kind three ≡ true) × (unused kind (layer_named kind three name) ≡ false)
  unfolding asked
  asked_none e = asked_by (good_record kind three) (unused kind (layer_named kind three name)) e

-- ---- a call in a layer, where something is asked of the record and where nothing is

module _ (kind : Kind) {Lent : Type 0} (call : Call kind.State Lent) (lent : Lent) (name : ℕ)
    (three : Three kind.State) where
  module _ (fine : asked kind name three ≡ 0) where
    pub number_fine : (in_layer kind call lent name).number three ≡ call.number (layer_named kind three name)
    number_fine = unfold in_layer in rw (eq-eqb (asked kind name three) 0 fine) refl

    pub after_fine : (in_layer kind call lent name).after three
        ≡ with_layer three name (call.after (layer_named kind three name))
    after_fine = unfold in_layer in rw (eq-eqb (asked kind name three) 0 fine) refl

  module _ (some : asked kind name three ≡ 0 → ⊥) where
    pub number_some : (in_layer kind call lent name).number three ≡ asked kind name three
    number_some = unfold in_layer in rw (ne_eqb (asked kind name three) 0 some) refl

    pub after_some : (in_layer kind call lent name).after three ≡ three
    after_some = unfold in_layer in rw (ne_eqb (asked kind name three) 0 some) refl

  -- "7 asks this of the whole record"
  pub not_good_seven : good_record kind three ≡ false → (in_layer kind call lent name).number three ≡ 7
  not_good_seven bad =
      let is = asked_seven kind name three bad in
      number_some (λ fine. omega arith) ∙ is

  -- "13, the named layer is unused"
  pub unused_thirteen : good_record kind three ≡ true → unused kind (layer_named kind three name) ≡ true
      → (in_layer kind call lent name).number three ≡ 13
  unused_thirteen good none =
      let is = asked_thirteen kind name three good none in
      number_some (λ fine. omega arith) ∙ is

  -- "Any other name is a layer that isn't used: 13."
  pub other_name_thirteen : LawfulKind kind → good_record kind three ≡ true → 3 ≤ name
      → (in_layer kind call lent name).number three ≡ 13
  other_name_thirteen laws good above =
      unused_thirteen good (ap (unused kind) (other_name kind three name above) ∙ none_set laws)

-- ---- in a used layer of a good record

module _ {kind : Kind} (laws : LawfulKind kind) {Lent : Type 0} (call : Call kind.State Lent) (lent : Lent)
    (name : ℕ) (three : Three kind.State) (good : good_record kind three ≡ true)
    (used : unused kind (layer_named kind three name) ≡ false) where
  pub number_alone : (in_layer kind call lent name).number three ≡ call.number (layer_named kind three name)
  number_alone = number_fine kind call lent name three (nothing_asked kind name three good used)

  pub after_alone : (in_layer kind call lent name).after three
      ≡ with_layer three name (call.after (layer_named kind three name))
  after_alone = after_fine kind call lent name three (nothing_asked kind name three good used)

  pub layer_alone : layer_named kind ((in_layer kind call lent name).after three) name
      ≡ call.after (layer_named kind three name)
  layer_alone =
      ap (λ (r : Three kind.State). layer_named kind r name) after_alone
      ∙ named_with kind three name (used_below kind three laws name used) (call.after (layer_named kind three name))

  pub leaves_alone : (left : Lent) → (in_layer kind call lent name).Leaves three left
      → call.Leaves (layer_named kind three name) left
  leaves_alone left leaves = unfold in_layer in leaves.0 (nothing_asked kind name three good used)

  pub alone_leaves : (left : Lent) → call.Leaves (layer_named kind three name) left
      → (in_layer kind call lent name).Leaves three left
  alone_leaves left leaves =
      unfold in_layer in (λ fine. leaves, λ some. absurd (some (nothing_asked kind name three good used)))

  -- "Each call names its layer, whose carriers are what that layer alone would give."
  pub did_alone : (number : ℕ) (after : Three kind.State) (left : Lent)
      → Did (in_layer kind call lent name) three number after left
      → Did call (layer_named kind three name) number (layer_named kind after name) left
  did_alone number after left did = record {
    number_is = did.number_is ∙ number_alone;
    state_is = ap (λ (r : Three kind.State). layer_named kind r name) did.state_is ∙ layer_alone;
    lent_is = leaves_alone left did.lent_is;
  }

-- ---- whatever the record is, and whatever is answered

module _ (kind : Kind) {Lent : Type 0} (call : Call kind.State Lent) (lent : Lent) (name : ℕ)
    (three : Three kind.State) where
  -- "Coding or replacing in one layer alters no byte of the other two."
  pub others_stay : (other : ℕ) → (name ≡ other → ⊥)
      → layer_named kind ((in_layer kind call lent name).after three) other ≡ layer_named kind three other
  others_stay other differ = elim (ℕ_discrete (asked kind name three) 0) [
    | yes fine ↦
        ap (λ (r : Three kind.State). layer_named kind r other) (after_fine kind call lent name three fine)
        ∙ named_other kind three name other differ (call.after (layer_named kind three name))
    | no some ↦ ap (λ (r : Three kind.State). layer_named kind r other) (after_some kind call lent name three some)
  ]

  pub mode_stays : ((in_layer kind call lent name).after three).mode ≡ three.mode
  mode_stays = elim (ℕ_discrete (asked kind name three) 0) [
    | yes fine ↦
        ap (λ (r : Three kind.State). r.mode) (after_fine kind call lent name three fine)
        ∙ mode_with three name (call.after (layer_named kind three name))
    | no some ↦ ap (λ (r : Three kind.State). r.mode) (after_some kind call lent name three some)
  ]

module _ {kind : Kind} {laws : LawfulKind kind} {Lent : Type 0} {call : Call kind.State Lent} {lent : Lent}
    (lawful : Lawful laws call lent) (name : ℕ) (three : Three kind.State) where
  module _ (refused : (in_layer kind call lent name).number three ≡ 0 → ⊥) where
    own_refused : asked kind name three ≡ 0 → call.number (layer_named kind three name) ≡ 0 → ⊥
    own_refused fine done = refused (number_fine kind call lent name three fine ∙ done)

    -- A refused call leaves the record as it was.
    pub refused_record : (in_layer kind call lent name).after three ≡ three
    refused_record = elim (ℕ_discrete (asked kind name three) 0) [
      | yes fine ↦
          after_fine kind call lent name three fine
          ∙ ap (with_layer three name) (lawful.refused_state (layer_named kind three name) (own_refused fine))
          ∙ with_named kind three name
      | no some ↦ after_some kind call lent name three some
    ]

    -- .. and alters no byte that was lent.
    pub refused_left : (left : Lent) → (in_layer kind call lent name).Leaves three left → left ≡ lent
    refused_left left leaves = unfold in_layer in elim (ℕ_discrete (asked kind name three) 0) [
      | yes fine ↦ lawful.refused_lent (layer_named kind three name) (own_refused fine) left (leaves.0 fine)
      | no some ↦ leaves.1 some
    ]

  -- A good record stays good.
  pub record_stays_good : good_record kind three ≡ true
      → good_record kind ((in_layer kind call lent name).after three) ≡ true
  record_stays_good good = elim (ℕ_discrete (asked kind name three) 0) [
    | yes fine ↦
        let used = (asked_none kind name three fine).1 in
        let there = layer_named kind three name in
        rw (after_fine kind call lent name three fine) (good_with laws three good name used (call.after there)
        (lawful.keeps_good there (used_good laws three good name used).good) (lawful.keeps_settings there))
    | no some ↦ rw (after_some kind call lent name three some) good
  ]

-- ---- two results

abbrev pub OneResult : {State Lent : Type 0} → Call State Lent → Type 0
OneResult {State} {Lent} call = (s : State) (one two : Lent) → call.Leaves s one → call.Leaves s two → one ≡ two

pub record SameResult {State Lent : Type 0} (number number' : ℕ) (after after' : State) (left left' : Lent)
    : Type 0 where
  pub same_number : number ≡ number'
  pub same_after : after ≡ after'
  pub same_left : left ≡ left'

-- Any two results of a call are equal.
pub same_result : {State Lent : Type 0} (call : Call State Lent) → OneResult call → (before : State)
    → {number number' : ℕ} {after after' : State} {left left' : Lent}
    → Did call before number after left → Did call before number' after' left'
    → SameResult number number' after after' left left'
same_result call one before {left} {left'} did did' = record {
  same_number = did.number_is ∙ sym did'.number_is;
  same_after = did.state_is ∙ sym did'.state_is;
  same_left = one before left left' did.lent_is did'.lent_is;
}

pub layer_one_result : {kind : Kind} {laws : LawfulKind kind} {Lent : Type 0} {call : Call kind.State Lent}
    {lent : Lent} → Lawful laws call lent → (name : ℕ) → OneResult (in_layer kind call lent name)
unfolding in_layer
layer_one_result {kind} {lent} lawful name three one two first second =
    elim (ℕ_discrete (asked kind name three) 0) [
      | yes fine ↦ lawful.one_result (layer_named kind three name) one two (first.0 fine) (second.0 fine)
      | no some ↦ first.1 some ∙ sym (second.1 some)
    ]
