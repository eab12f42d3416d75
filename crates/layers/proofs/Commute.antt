-- Two calls in different layers of one record, whatever they answer.
--     good_same, unused_same       behind a call a record is good, and each layer used, where it was before
--     asked_same, number_same      the second answers what it answers without the first,
--     leaves_same, same_leaves     and leaves in the lent areas what it leaves without the first
--     calls_commute                both leave one record, whichever goes first
use mathlib.Core.Path.{◌≡◌, refl, sym, ap, ap₂, ◌∙◌}
use mathlib.Core.Bool.{Bool, true, false}
use Prim.Native.Nat.{ℕ}
use native.Mathlib.Decide.{ℕ_discrete}
use native.Mathlib.Omega.{arith}
use Rattle.layers.specs.Record.{Kind, Three, unused, layer_named, with_layer, good_record}
use Rattle.layers.specs.Calls.{Call, asked, in_layer}
use Rattle.layers.proofs.Laws.{LawfulKind, Lawful}
use Rattle.layers.proofs.Named.{with_commute}
use Rattle.layers.proofs.Good.{used_good}
use Rattle.layers.proofs.InLayer.{asked_none, after_fine, after_some, not_good_seven, layer_alone, others_stay}
use Rattle.layers.proofs.InLayer.{refused_record, record_stays_good}

-- what a call answers and leaves is by what is asked of the record, and by the layer
module _ (kind : Kind) {Lent : Type 0} (call : Call kind.State Lent) (lent : Lent) (name : ℕ)
    (one two : Three kind.State) (same_asked : asked kind name one ≡ asked kind name two)
    (same-layer : layer_named kind one name ≡ layer_named kind two name) where
  number_by : (in_layer kind call lent name).number one ≡ (in_layer kind call lent name).number two
  number_by = unfold in_layer in rw (same_asked, same-layer) refl

  leaves_by : (left : Lent) → (in_layer kind call lent name).Leaves one left
      → (in_layer kind call lent name).Leaves two left
  leaves_by left = unfold in_layer in rw (same_asked, same-layer) (λ leaves. leaves)

module _ {kind : Kind} {laws : LawfulKind kind} {Lent : Type 0} {call : Call kind.State Lent} {lent : Lent}
    (lawful : Lawful laws call lent) (name : ℕ) (three : Three kind.State) where
  good_by : (good : Bool) → good_record kind three ≡ good
      → good_record kind ((in_layer kind call lent name).after three) ≡ good_record kind three
  good_by true is = record_stays_good lawful name three is ∙ sym is
  good_by false is =
      let answer = not_good_seven kind call lent name three is in
      ap (good_record kind) (refused_record lawful name three (λ done. omega arith))

  pub good_same : good_record kind ((in_layer kind call lent name).after three) ≡ good_record kind three
  good_same = good_by (good_record kind three) refl

  -- the layer itself is used behind the call where it was before
  own_same : unused kind (layer_named kind ((in_layer kind call lent name).after three) name)
      ≡ unused kind (layer_named kind three name)
  own_same = elim (ℕ_discrete (asked kind name three) 0) [
    | yes fine ↦
        let is = asked_none kind name three fine in
        let there = layer_named kind three name in
        let good = lawful.keeps_good there (used_good laws three is.0 name is.1).good in
        ap (unused kind) (layer_alone laws call lent name three is.0 is.1)
        ∙ laws.good_used (call.after there) good
        ∙ sym is.1
    | no some ↦
        ap (λ (r : Three kind.State). unused kind (layer_named kind r name))
        (after_some kind call lent name three some)
  ]

  pub unused_same : (other : ℕ) → unused kind (layer_named kind ((in_layer kind call lent name).after three) other)
      ≡ unused kind (layer_named kind three other)
  unused_same other = elim (ℕ_discrete name other) [
    | yes is ↦ rw (← is) own_same
    | no differ ↦ ap (unused kind) (others_stay kind call lent name three other differ)
  ]

  pub asked_same : (other : ℕ) → asked kind other ((in_layer kind call lent name).after three) ≡ asked kind other three
  unfolding asked
  asked_same other = rw (good_same, unused_same other) refl

  module _ (other : ℕ) (differ : name ≡ other → ⊥) where
    module _ {Lent' : Type 0} (call' : Call kind.State Lent') (lent' : Lent') where
      pub number_same : (in_layer kind call' lent' other).number ((in_layer kind call lent name).after three)
          ≡ (in_layer kind call' lent' other).number three
      number_same =
          number_by kind call' lent' other ((in_layer kind call lent name).after three) three (asked_same other)
          (others_stay kind call lent name three other differ)

      pub leaves_same : (left : Lent')
          → (in_layer kind call' lent' other).Leaves ((in_layer kind call lent name).after three) left
          → (in_layer kind call' lent' other).Leaves three left
      leaves_same =
          leaves_by kind call' lent' other ((in_layer kind call lent name).after three) three (asked_same other)
          (others_stay kind call lent name three other differ)

      pub same_leaves : (left : Lent') → (in_layer kind call' lent' other).Leaves three left
          → (in_layer kind call' lent' other).Leaves ((in_layer kind call lent name).after three) left
      same_leaves =
          leaves_by kind call' lent' other three ((in_layer kind call lent name).after three) (sym (asked_same other))
          (sym (others_stay kind call lent name three other differ))

-- ---- the record behind both

module _ (kind : Kind) {Lent Lent' : Type 0} (call : Call kind.State Lent) (lent : Lent)
    (call' : Call kind.State Lent') (lent' : Lent') (name other : ℕ) (three : Three kind.State)
    (differ : name ≡ other → ⊥) where
  -- where nothing is asked of the record, before and between
  after_both : asked kind name three ≡ 0 → asked kind other ((in_layer kind call lent name).after three) ≡ 0
      → (in_layer kind call' lent' other).after ((in_layer kind call lent name).after three)
      ≡ with_layer (with_layer three name (call.after (layer_named kind three name))) other
      (call'.after (layer_named kind three other))
  after_both fine between =
      after_fine kind call' lent' other ((in_layer kind call lent name).after three) between
      ∙ ap₂ (λ (r : Three kind.State) (s : kind.State). with_layer r other (call'.after s))
      (after_fine kind call lent name three fine) (others_stay kind call lent name three other differ)

module _ {kind : Kind} {laws : LawfulKind kind} {Lent Lent' : Type 0} {call : Call kind.State Lent} {lent : Lent}
    {call' : Call kind.State Lent'} {lent' : Lent'} (first : Lawful laws call lent)
    (second : Lawful laws call' lent') (name other : ℕ) (differ : name ≡ other → ⊥) (three : Three kind.State) where
  -- Two calls in different layers leave one record, whichever goes first.
  pub calls_commute : (in_layer kind call' lent' other).after ((in_layer kind call lent name).after three)
      ≡ (in_layer kind call lent name).after ((in_layer kind call' lent' other).after three)
  calls_commute = elim (ℕ_discrete (asked kind name three) 0) [
    | yes fine ↦ elim (ℕ_discrete (asked kind other three) 0) [
      | yes fine' ↦
          after_both kind call lent call' lent' name other three differ fine
          (asked_same first name three other ∙ fine')
          ∙ with_commute three name other differ (call.after (layer_named kind three name))
          (call'.after (layer_named kind three other))
          ∙ sym (after_both kind call' lent' call lent other name three back fine'
          (asked_same second other three name ∙ fine))
      | no some ↦
          after_some kind call' lent' other ((in_layer kind call lent name).after three)
          (λ e. some (sym (asked_same first name three other) ∙ e))
          ∙ ap (in_layer kind call lent name).after (sym (after_some kind call' lent' other three some))
    ]
    | no some ↦
        ap (in_layer kind call' lent' other).after (after_some kind call lent name three some)
        ∙ sym (after_some kind call lent name ((in_layer kind call' lent' other).after three)
        (λ e. some (sym (asked_same second other three name) ∙ e)))
  ]
    where
      back : other ≡ name → ⊥
      back e = differ (sym e)
