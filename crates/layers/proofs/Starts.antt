-- The record that a start gives.
--     StartParts, start_parts          what it says that a start is done: a legal mode, each layer's own start, the sum
--     no_segments                      an unused layer has no segments
--     starts_named                     the own start of the layer that is named is done
--     started_is, started_mode         an accepted start gives three started layers in its mode
--     started_named                    the layer that is named in the record
--     started_unused                   an unused layer is all zero
--     started_fresh, started_used      a used one is as its own start leaves it, and used
--     started_good                     an accepted start's record is good
--     start_empty                      a refused start's record is all zero
use mathlib.Core.Path.{◌≡◌, refl, sym, ap, ◌∙◌}
use mathlib.Core.Bool.{Bool, true, false, cond, not, ◌&&◌}
use Prim.Native.Nat.{ℕ, zero, suc, ◌+◌, ◌≤◌}
use native.Mathlib.Decide.{ℕ_discrete}
use native.Mathlib.Omega.{arith}
use lib.Dec.{eqb, leb}
use borrow.Author.Tests.{eq-eqb, ne_eqb, eqb-true, leb-true}
use Rattle.lists.proofs.Bools.{and_both}
use Rattle.settings.specs.declared.Settings.{Settings}
use Rattle.settings.specs.Legal.{legal_mode, starting}
use Rattle.settings.proofs.Refusals.{passed}
use Rattle.layers.specs.declared.Layer.{Layer}
use Rattle.layers.specs.Record.{Kind, Three, three_from, unused, unused_layer, layer_named, empty_record}
use Rattle.layers.specs.Record.{good_layer, segments_in, good_record}
use Rattle.layers.specs.Start.{no_layer, settings_in, layer_of, starting_layer, starting_record}
use Rattle.layers.specs.Start.{started_layer, started_record}
use Rattle.layers.proofs.Laws.{LawfulKind, none_set}
use Rattle.layers.proofs.Good.{good_fine, unused_fine, good_of}

-- ---- what is asked

pub record StartParts (layers : Three Layer) : Type 0 where
  pub legal : legal_mode layers.mode ≡ true
  pub a_starts : starting_layer layers.mode layers.a ≡ 0
  pub b_starts : starting_layer layers.mode layers.b ≡ 0
  pub c_starts : starting_layer layers.mode layers.c ≡ 0
  pub few : layers.a.segments + layers.b.segments + layers.c.segments ≤ 13

none_given : (number rest : ℕ) → cond (not (eqb number 0)) number rest ≡ 0 → (number ≡ 0) × (rest ≡ 0)
none_given number rest e = elim (ℕ_discrete number 0) [
  | yes none ↦ (none, rw (eq-eqb number 0 none) at e)
  | no some ↦ absurd (some (rw (ne_eqb number 0 some) at e))
]

pub start_parts : (layers : Three Layer) → starting_record layers ≡ 0 → StartParts layers
start_parts layers done =
    unfold starting_record in let mode = layers.mode in
    let sum = layers.a.segments + layers.b.segments + layers.c.segments in
    let one = passed 0 (legal_mode mode) _ done in
    let a = none_given (starting_layer mode layers.a) _ one.1 in
    let b = none_given (starting_layer mode layers.b) _ a.1 in
    let c = none_given (starting_layer mode layers.c) _ b.1 in
    record {
      legal = one.0;
      a_starts = a.0;
      b_starts = b.0;
      c_starts = c.0;
      few = leb-true sum 13 (passed 11 (leb sum 13) 0 c.1).0;
    }

-- ---- one layer

pub no_segments : (layer : Layer) → no_layer layer ≡ true → layer.segments ≡ 0
no_segments layer none =
    unfold no_layer in eqb-true layer.segments 0
    (and_both (eqb layer.v 0 && eqb layer.rate 0) (eqb layer.segments 0) none).1

module _ {kind : Kind} (laws : LawfulKind kind) (mode : ℕ) (layer : Layer) where
  used_starts : no_layer layer ≡ false → starting_layer mode layer ≡ 0 → starting (settings_in mode layer) ≡ 0
  unfolding starting_layer
  used_starts used e = rw used at e

  layer_unused : no_layer layer ≡ true → started_layer kind mode layer ≡ unused_layer kind
  unfolding started_layer
  layer_unused none = rw none refl

  layer_fresh : no_layer layer ≡ false → started_layer kind mode layer ≡ kind.fresh (settings_in mode layer)
  unfolding started_layer
  layer_fresh used = rw used refl

  layer_fine : (none : Bool) → no_layer layer ≡ none → starting_layer mode layer ≡ 0
      → good_layer kind mode (started_layer kind mode layer) ≡ true
  layer_fine true is starts = rw (layer_unused is) (unused_fine kind mode (unused_layer kind) (none_set laws))
  layer_fine false is starts =
      rw (layer_fresh is) (good_fine kind mode (kind.fresh (settings_in mode layer)) (record {
        good = laws.fresh_good (settings_in mode layer) (used_starts is starts);
        mode_is = ap (λ (s : Settings). s.mode) (laws.fresh_settings (settings_in mode layer));
      }))

  layer_segments : (none : Bool) → no_layer layer ≡ none
      → (kind.settings (started_layer kind mode layer)).segments ≡ layer.segments
  layer_segments true is =
      rw (layer_unused is) (unfold unused_layer in ap (λ (s : Settings). s.segments) (laws.fresh_settings _)
      ∙ sym (no_segments layer is))
  layer_segments false is = rw (layer_fresh is) (ap (λ (s : Settings). s.segments) (laws.fresh_settings _))

-- ---- the record

pub starts_named : (layers : Three Layer) → StartParts layers → (name : ℕ)
    → starting_layer layers.mode (layer_of layers name) ≡ 0
unfolding starting_layer no_layer
starts_named layers parts zero = parts.a_starts
starts_named layers parts (suc zero) = parts.b_starts
starts_named layers parts (suc (suc zero)) = parts.c_starts
starts_named layers parts (suc (suc (suc other))) = refl

abbrev started_three : (kind : Kind) → Three Layer → Three kind.State
started_three kind layers =
    three_from layers.mode
    (started_layer kind layers.mode layers.a)
    (started_layer kind layers.mode layers.b)
    (started_layer kind layers.mode layers.c)

named_three : (kind : Kind) (layers : Three Layer) (name : ℕ)
    → layer_named kind (started_three kind layers) name ≡ started_layer kind layers.mode (layer_of layers name)
unfolding layer_named started_layer no_layer
named_three kind layers zero = refl
named_three kind layers (suc zero) = refl
named_three kind layers (suc (suc zero)) = refl
named_three kind layers (suc (suc (suc other))) = refl

-- "A refused start gives zeros throughout."
pub start_empty : (kind : Kind) (layers : Three Layer) → (starting_record layers ≡ 0 → ⊥)
    → started_record kind layers ≡ empty_record kind
start_empty kind layers refused = unfold started_record in rw (ne_eqb (starting_record layers) 0 refused) refl

module _ (kind : Kind) (layers : Three Layer) (done : starting_record layers ≡ 0) where
  pub started_is : started_record kind layers ≡ started_three kind layers
  started_is = unfold started_record in rw (eq-eqb (starting_record layers) 0 done) refl

  pub started_mode : (started_record kind layers).mode ≡ layers.mode
  started_mode = ap (λ (r : Three kind.State). r.mode) started_is

  -- the layer that is named
  pub started_named : (name : ℕ)
      → layer_named kind (started_record kind layers) name ≡ started_layer kind layers.mode (layer_of layers name)
  started_named name =
      ap (λ (r : Three kind.State). layer_named kind r name) started_is ∙ named_three kind layers name

module _ {kind : Kind} (laws : LawfulKind kind) (layers : Three Layer) (done : starting_record layers ≡ 0) where
  pub started_unused : (name : ℕ) → no_layer (layer_of layers name) ≡ true
      → layer_named kind (started_record kind layers) name ≡ unused_layer kind
  started_unused name none =
      started_named kind layers done name ∙ layer_unused laws layers.mode (layer_of layers name) none

  pub started_fresh : (name : ℕ) → no_layer (layer_of layers name) ≡ false
      → layer_named kind (started_record kind layers) name ≡ kind.fresh (settings_in layers.mode (layer_of layers name))
  started_fresh name used =
      started_named kind layers done name ∙ layer_fresh laws layers.mode (layer_of layers name) used

  pub started_used : (name : ℕ) → no_layer (layer_of layers name) ≡ false
      → unused kind (layer_named kind (started_record kind layers) name) ≡ false
  started_used name used =
      let settings = settings_in layers.mode (layer_of layers name) in
      let starts = starts_named layers (start_parts layers done) name in
      rw (started_fresh name used) (laws.good_used (kind.fresh settings)
      (laws.fresh_good settings (used_starts laws layers.mode (layer_of layers name) used starts)))

  few_started : segments_in kind (started_three kind layers) ≤ 13
  few_started =
      unfold segments_in in let mode = layers.mode in
      let a = layer_segments laws mode layers.a _ refl in
      let b = layer_segments laws mode layers.b _ refl in
      let c = layer_segments laws mode layers.c _ refl in
      let few = (start_parts layers done).few in
      omega arith

  -- An accepted start gives a good record.
  pub started_good : good_record kind (started_record kind layers) ≡ true
  started_good =
      let parts = start_parts layers done in
      rw (started_is kind layers done) (good_of kind (started_three kind layers) (record {
        legal = parts.legal;
        each = λ name. rw (named_three kind layers name)
            (layer_fine laws layers.mode (layer_of layers name) _ refl (starts_named layers parts name));
        few = few_started;
      }))
