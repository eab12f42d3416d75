-- Calls in a row, each in the layer of a record that it names, whatever they answer.
--     through_good, through_unused       the record behind them is good, and each layer used, where it was before
--     through_other                      calls elsewhere leave the named layer
--     through_number, through_leaves,    a call in the named layer answers and leaves in the lent areas what it does
--     leaves_through                     without calls elsewhere before it,
--     through_commute                    and leaves with them one record, whichever goes first
--     layer_through                      the state of a layer behind any row is that of the layer alone behind its own
--                                        calls,
--     number_in_turn, leaves_in_turn,    and so are the number of a call behind the row and what it leaves in the lent
--     in_turn_leaves                     areas
use mathlib.Core.Path.{◌≡◌, refl, ap, subst, ◌∙◌}
use mathlib.Core.Bool.{true, false}
use mathlib.Core.List.{List, [], ◌∷◌}
use Prim.Native.Nat.{ℕ}
use native.Mathlib.Decide.{ℕ_discrete}
use borrow.Author.Tests.{eq-eqb, ne_eqb}
use Rattle.layers.specs.Record.{Kind, Three, unused, layer_named, good_record}
use Rattle.layers.specs.Calls.{Call, in_layer}
use Rattle.layers.specs.Rows.{NamedEntry, through, Elsewhere, own_entries, alone_behind}
use Rattle.layers.proofs.Laws.{LawfulKind, Lawful}
use Rattle.layers.proofs.InLayer.{layer_alone, number_alone, leaves_alone, alone_leaves, others_stay}
use Rattle.layers.proofs.Commute.{good_same, unused_same, number_same, leaves_same, same_leaves, calls_commute}

module _ {kind : Kind} {laws : LawfulKind kind} {Entry Lent : Type 0} (call_of : Entry → Call kind.State Lent)
    (lent_of : Entry → Lent) (lawful : (entry : Entry) → Lawful laws (call_of entry) (lent_of entry)) where
  abbrev one_after : NamedEntry Entry → Three kind.State → Three kind.State
  one_after one = (in_layer kind (call_of one.entry) (lent_of one.entry) one.name).after

  -- ---- any row

  pub through_good : (row : List (NamedEntry Entry)) (three : Three kind.State)
      → good_record kind (through kind call_of lent_of row three) ≡ good_record kind three
  unfolding through
  through_good [] three = refl
  through_good (one ∷ more) three =
      through_good more (one_after one three) ∙ good_same (lawful one.entry) one.name three

  pub through_unused : (row : List (NamedEntry Entry)) (three : Three kind.State) (name : ℕ)
      → unused kind (layer_named kind (through kind call_of lent_of row three) name)
      ≡ unused kind (layer_named kind three name)
  unfolding through
  through_unused [] three name = refl
  through_unused (one ∷ more) three name =
      through_unused more (one_after one three) name ∙ unused_same (lawful one.entry) one.name three name

  -- ---- a row elsewhere

  pub through_other : (name : ℕ) (row : List (NamedEntry Entry)) → Elsewhere name row → (three : Three kind.State)
      → layer_named kind (through kind call_of lent_of row three) name ≡ layer_named kind three name
  unfolding through
  through_other name [] elsewhere three = refl
  through_other name (one ∷ more) elsewhere three =
      through_other name more elsewhere.1 (one_after one three)
      ∙ others_stay kind (call_of one.entry) (lent_of one.entry) one.name three name elsewhere.0

  -- a call in the named layer, before such a row and behind it
  module _ {Lent' : Type 0} (call : Call kind.State Lent') (lent : Lent') (name : ℕ) where
    pub through_number : (row : List (NamedEntry Entry)) → Elsewhere name row → (three : Three kind.State)
        → (in_layer kind call lent name).number (through kind call_of lent_of row three)
        ≡ (in_layer kind call lent name).number three
    unfolding through
    through_number [] elsewhere three = refl
    through_number (one ∷ more) elsewhere three =
        through_number more elsewhere.1 (one_after one three)
        ∙ number_same (lawful one.entry) one.name three name elsewhere.0 call lent

    pub through_leaves : (row : List (NamedEntry Entry)) → Elsewhere name row → (three : Three kind.State)
        → (left : Lent') → (in_layer kind call lent name).Leaves (through kind call_of lent_of row three) left
        → (in_layer kind call lent name).Leaves three left
    unfolding through
    through_leaves [] elsewhere three left leaves = leaves
    through_leaves (one ∷ more) elsewhere three left leaves =
        leaves_same (lawful one.entry) one.name three name elsewhere.0 call lent left
        (through_leaves more elsewhere.1 (one_after one three) left leaves)

    pub leaves_through : (row : List (NamedEntry Entry)) → Elsewhere name row → (three : Three kind.State)
        → (left : Lent') → (in_layer kind call lent name).Leaves three left
        → (in_layer kind call lent name).Leaves (through kind call_of lent_of row three) left
    unfolding through
    leaves_through [] elsewhere three left leaves = leaves
    leaves_through (one ∷ more) elsewhere three left leaves =
        leaves_through more elsewhere.1 (one_after one three) left
        (same_leaves (lawful one.entry) one.name three name elsewhere.0 call lent left leaves)

  pub through_commute : {Lent' : Type 0} {call : Call kind.State Lent'} {lent : Lent'} → Lawful laws call lent
      → (name : ℕ) (row : List (NamedEntry Entry)) → Elsewhere name row → (three : Three kind.State)
      → (in_layer kind call lent name).after (through kind call_of lent_of row three)
      ≡ through kind call_of lent_of row ((in_layer kind call lent name).after three)
  unfolding through
  through_commute own name [] elsewhere three = refl
  through_commute own name (one ∷ more) elsewhere three =
      through_commute own name more elsewhere.1 (one_after one three)
      ∙ ap (through kind call_of lent_of more)
      (calls_commute (lawful one.entry) own one.name name elsewhere.0 three)

  -- ---- a layer of its own

  -- the state behind one call of the row, where it names the layer
  own_one : (one : NamedEntry Entry) (name : ℕ) → one.name ≡ name → (three : Three kind.State)
      → good_record kind three ≡ true → unused kind (layer_named kind three name) ≡ false
      → layer_named kind (one_after one three) name ≡ (call_of one.entry).after (layer_named kind three name)
  own_one one name is three good used =
      subst
      (λ (n : ℕ). layer_named kind (one_after one three) n ≡ (call_of one.entry).after (layer_named kind three n)) is
      (layer_alone laws (call_of one.entry) (lent_of one.entry) one.name three good (rw is used))

  -- The state of a layer behind any row is that of the layer alone behind its own calls.
  pub layer_through : (name : ℕ) (row : List (NamedEntry Entry)) (three : Three kind.State)
      → good_record kind three ≡ true → unused kind (layer_named kind three name) ≡ false
      → layer_named kind (through kind call_of lent_of row three) name
      ≡ alone_behind call_of (own_entries name row) (layer_named kind three name)
  unfolding through own_entries alone_behind
  layer_through name [] three good used = refl
  layer_through name (one ∷ more) three good used =
      let still_good = good_same (lawful one.entry) one.name three ∙ good in
      let still_used = unused_same (lawful one.entry) one.name three name ∙ used in
      let rest = layer_through name more (one_after one three) still_good still_used in
      elim (ℕ_discrete one.name name) [
        | yes is ↦
            rw (eq-eqb one.name name is)
            (rest ∙ ap (alone_behind call_of (own_entries name more)) (own_one one name is three good used))
        | no differ ↦
            rw (ne_eqb one.name name differ)
            (rest ∙ ap (alone_behind call_of (own_entries name more))
            (others_stay kind (call_of one.entry) (lent_of one.entry) one.name three name differ))
      ]

  -- A call behind any row answers and leaves what it answers and leaves in the layer alone behind its own calls.
  module _ {Lent' : Type 0} (call : Call kind.State Lent') (lent : Lent') (name : ℕ) (row : List (NamedEntry Entry))
      (three : Three kind.State) (good : good_record kind three ≡ true)
      (used : unused kind (layer_named kind three name) ≡ false) where
    still_good : good_record kind (through kind call_of lent_of row three) ≡ true
    still_good = through_good row three ∙ good

    still_used : unused kind (layer_named kind (through kind call_of lent_of row three) name) ≡ false
    still_used = through_unused row three name ∙ used

    pub number_in_turn : (in_layer kind call lent name).number (through kind call_of lent_of row three)
        ≡ call.number (alone_behind call_of (own_entries name row) (layer_named kind three name))
    number_in_turn =
        number_alone laws call lent name (through kind call_of lent_of row three) still_good still_used
        ∙ ap call.number (layer_through name row three good used)

    pub leaves_in_turn : (left : Lent')
        → (in_layer kind call lent name).Leaves (through kind call_of lent_of row three) left
        → call.Leaves (alone_behind call_of (own_entries name row) (layer_named kind three name)) left
    leaves_in_turn left leaves =
        rw (← layer_through name row three good used)
        (leaves_alone laws call lent name (through kind call_of lent_of row three) still_good still_used left leaves)

    pub in_turn_leaves : (left : Lent')
        → call.Leaves (alone_behind call_of (own_entries name row) (layer_named kind three name)) left
        → (in_layer kind call lent name).Leaves (through kind call_of lent_of row three) left
    in_turn_leaves left leaves =
        alone_leaves laws call lent name (through kind call_of lent_of row three) still_good still_used left
        (rw (layer_through name row three good used) leaves)
