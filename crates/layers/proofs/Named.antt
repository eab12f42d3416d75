-- The layers of a record by their names: "Coding or replacing in one layer alters no byte of the other two."
--     named_with, named_other     the layer that was exchanged, and any other
--     with_named                  a layer exchanged for itself
--     with_again, with_commute    one exchanged twice, and two of different names in either order
--     mode_with                   the mode stays
--     other_name, used_below      any name but those of A, B and C is of an unused layer
use mathlib.Core.Path.{◌≡◌, refl, sym, ◌∙◌}
use mathlib.Core.Bool.{false, false≢true}
use Prim.Native.Nat.{ℕ, zero, suc, ◌<◌, ◌≤◌}
use native.Mathlib.Omega.{arith}
use Rattle.layers.specs.Record.{Kind, Three, unused, unused_layer, layer_named, with_layer}
use Rattle.layers.proofs.Laws.{LawfulKind, none_set}

module _ {State : Type 0} (three : Three State) where
  pub mode_with : (name : ℕ) (state : State) → (with_layer three name state).mode ≡ three.mode
  unfolding with_layer
  mode_with zero state = refl
  mode_with (suc zero) state = refl
  mode_with (suc (suc zero)) state = refl
  mode_with (suc (suc (suc other))) state = refl

  pub with_again : (name : ℕ) (one two : State)
      → with_layer (with_layer three name one) name two ≡ with_layer three name two
  unfolding with_layer
  with_again zero one two = refl
  with_again (suc zero) one two = refl
  with_again (suc (suc zero)) one two = refl
  with_again (suc (suc (suc other))) one two = refl

  pub with_commute : (name other : ℕ) → (name ≡ other → ⊥) → (one two : State)
      → with_layer (with_layer three name one) other two ≡ with_layer (with_layer three other two) name one
  unfolding with_layer
  with_commute zero zero differ one two = absurd (differ refl)
  with_commute zero (suc zero) differ one two = refl
  with_commute zero (suc (suc zero)) differ one two = refl
  with_commute zero (suc (suc (suc other))) differ one two = refl
  with_commute (suc zero) zero differ one two = refl
  with_commute (suc zero) (suc zero) differ one two = absurd (differ refl)
  with_commute (suc zero) (suc (suc zero)) differ one two = refl
  with_commute (suc zero) (suc (suc (suc other))) differ one two = refl
  with_commute (suc (suc zero)) zero differ one two = refl
  with_commute (suc (suc zero)) (suc zero) differ one two = refl
  with_commute (suc (suc zero)) (suc (suc zero)) differ one two = absurd (differ refl)
  with_commute (suc (suc zero)) (suc (suc (suc other))) differ one two = refl
  with_commute (suc (suc (suc none))) other differ one two = refl

module _ (kind : Kind) (three : Three kind.State) where
  pub named_with : (name : ℕ) → name < 3 → (state : kind.State)
      → layer_named kind (with_layer three name state) name ≡ state
  unfolding layer_named with_layer
  named_with zero below state = refl
  named_with (suc zero) below state = refl
  named_with (suc (suc zero)) below state = refl
  named_with (suc (suc (suc other))) below state = absurd (omega arith)

  pub named_other : (name other : ℕ) → (name ≡ other → ⊥) → (state : kind.State)
      → layer_named kind (with_layer three name state) other ≡ layer_named kind three other
  unfolding layer_named with_layer
  named_other zero zero differ state = absurd (differ refl)
  named_other zero (suc zero) differ state = refl
  named_other zero (suc (suc zero)) differ state = refl
  named_other zero (suc (suc (suc other))) differ state = refl
  named_other (suc zero) zero differ state = refl
  named_other (suc zero) (suc zero) differ state = absurd (differ refl)
  named_other (suc zero) (suc (suc zero)) differ state = refl
  named_other (suc zero) (suc (suc (suc other))) differ state = refl
  named_other (suc (suc zero)) zero differ state = refl
  named_other (suc (suc zero)) (suc zero) differ state = refl
  named_other (suc (suc zero)) (suc (suc zero)) differ state = absurd (differ refl)
  named_other (suc (suc zero)) (suc (suc (suc other))) differ state = refl
  named_other (suc (suc (suc none))) other differ state = refl

  pub with_named : (name : ℕ) → with_layer three name (layer_named kind three name) ≡ three
  unfolding layer_named with_layer
  with_named zero = refl
  with_named (suc zero) = refl
  with_named (suc (suc zero)) = refl
  with_named (suc (suc (suc other))) = refl

  -- "Any other name is a layer that isn't used"
  pub other_name : (name : ℕ) → 3 ≤ name → layer_named kind three name ≡ unused_layer kind
  unfolding layer_named
  other_name zero above = absurd (omega arith)
  other_name (suc zero) above = absurd (omega arith)
  other_name (suc (suc zero)) above = absurd (omega arith)
  other_name (suc (suc (suc other))) above = refl

  pub used_below : LawfulKind kind → (name : ℕ) → unused kind (layer_named kind three name) ≡ false → name < 3
  unfolding layer_named
  used_below laws zero used = omega arith
  used_below laws (suc zero) used = omega arith
  used_below laws (suc (suc zero)) used = omega arith
  used_below laws (suc (suc (suc other))) used = absurd (false≢true (sym used ∙ none_set laws))
