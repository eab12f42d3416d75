-- How an entry over a record meets its contract: the record is refused, or the layer's own entry is called. And how a
-- door does: it reads the record, calls the entry over records, and leaves the record in the area.
--     did_refused, did_called     of an entry
--     at_door                     of a door
use mathlib.Core.Path.{◌≡◌, refl, ap, ◌∙◌, subst}
use mathlib.Core.List.{List}
use Prim.Native.Nat.{ℕ}
use borrow.Author.Tests.{eq-eqb, ne_eqb}
use Rattle.layers.specs.Record.{Kind, Three, layer_named, with_layer}
use Rattle.layers.specs.Calls.{Call, Did, asked, in_layer}
use Rattle.layers.specs.Areas.{record_in, area_with, in_area}

module _ (kind : Kind) {Lent : Type 0} (call : Call kind.State Lent) (lent : Lent) (name : ℕ)
    (three : Three kind.State) where
  pub did_refused : (number : ℕ) → number ≡ asked kind name three → (asked kind name three ≡ 0 → ⊥)
      → Did (in_layer kind call lent name) three number three lent
  unfolding in_layer
  did_refused number e refused =
      let no = ne_eqb (asked kind name three) 0 refused in
      record {
        number_is = e ∙ rw no refl;
        state_is = rw no refl;
        lent_is = (λ done. absurd (refused done), λ other. refl);
      }

  pub did_called : (number : ℕ) (state behind : kind.State) (after : Three kind.State) (left : Lent)
      → asked kind name three ≡ 0 → state ≡ layer_named kind three name → number ≡ call.number state
      → after ≡ with_layer three name behind → behind ≡ call.after state → call.Leaves state left
      → Did (in_layer kind call lent name) three number after left
  unfolding in_layer
  did_called number state behind after left done same e put f g =
      let yes = eq-eqb (asked kind name three) 0 done in
      record {
        number_is = rw yes (rw (← same) e);
        state_is = put ∙ rw (f, yes, same) refl;
        lent_is = (λ is. rw (← same) g, λ refused. absurd (refused done));
      }

module _ (kind : Kind) {Lent : Type 0} (call : Call (Three kind.State) Lent) (area : List ℕ)
    (three : Three kind.State) (number : ℕ) (after : Three kind.State) (left : Lent) where
  pub at_door : three ≡ record_in kind area → Did call three number after left → (r : ℕ) → r ≡ number
      → (area' : List ℕ) → area' ≡ area_with kind after area → Did (in_area kind call) area r area' left
  unfolding in_area
  at_door same did r e area' f =
      record {
        number_is = e ∙ did.number_is ∙ ap call.number same;
        state_is = f ∙ ap (λ (t : Three kind.State). area_with kind t area)
            (did.state_is ∙ ap call.after same);
        lent_is = subst (λ (t : Three kind.State). call.Leaves t left) same did.lent_is;
      }
