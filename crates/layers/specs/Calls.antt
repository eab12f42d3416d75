-- What a call does to a record, by what it does to the state of the layer that it names: "Each call names its layer,
-- whose carriers are what that layer alone would give."
--     Call        what a call does: the number it answers, the state it leaves, and what in the lent areas
--     Did         a call has answered and left this
--     asked       7 or 13, of the record, before the layer's own refusals
--     in_layer    the call in a named layer of a record
use Rattle.std.specs.Prelude.{◌≡◌, cond, not, [], ◌∷◌, ℕ, eqb}
use Rattle.settings.specs.Answers.{◌when◌, first_of}
use Rattle.layers.specs.Record.{Kind, Three, unused, layer_named, with_layer, good_record}

pub record Call (State Lent : Type 0) : Type 1 where
  pub number : State → ℕ
  pub after : State → State
  pub Leaves : State → Lent → Type 0

pub record Did {State Lent : Type 0} (call : Call State Lent) (before : State) (number : ℕ) (after : State)
    (lent : Lent) : Type 0 where
  pub number_is : number ≡ call.number before
  pub state_is : after ≡ call.after before
  pub lent_is : call.Leaves before lent

-- "7 asks this of the whole record"; "13, the named layer is unused"; "13 after 7"
unfoldable pub asked : (kind : Kind) → ℕ → Three kind.State → ℕ
asked kind name three =
    first_of ((7 when not (good_record kind three)) ∷ (13 when unused kind (layer_named kind three name)) ∷ [])

-- `lent` is what the areas held before
unfoldable pub in_layer : (kind : Kind) → {Lent : Type 0} → Call kind.State Lent → Lent → ℕ
    → Call (Three kind.State) Lent
in_layer kind call lent name =
    record {
      -- "and then the layer's own refusals in their order"
      number = λ three.
          cond (eqb (asked kind name three) 0) (call.number (layer_named kind three name)) (asked kind name three);
      -- "Coding or replacing in one layer alters no byte of the other two."
      after = λ three.
          cond (eqb (asked kind name three) 0)
          (with_layer three name (call.after (layer_named kind three name)))
          three;
      -- "whose carriers are what that layer alone would give"
      Leaves = λ three left.
          (asked kind name three ≡ 0 → call.Leaves (layer_named kind three name) left)
          × ((asked kind name three ≡ 0 → ⊥) → left ≡ lent);
    }
