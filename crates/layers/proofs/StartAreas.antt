-- A start into a lent area: "an area of another length is left alone and answered with 7, after 1 to 4 and 12".
--     into_long, into_refused, into_seven     the number: the start's own, and else 7
--     started_sized, started_in               the record that a start gives, in an area as long as a record
--     start_zeros                             a refused start fills such an area with zeros
use mathlib.Core.Path.{◌≡◌, refl, ap, ◌∙◌}
use mathlib.Core.Bool.{Bool, true, false}
use mathlib.Core.List.{List}
use Prim.Native.Nat.{ℕ}
use native.Mathlib.Decide.{ℕ_discrete}
use lib.ListN.{length, replicate}
use borrow.Author.Tests.{eq-eqb, ne_eqb}
use Rattle.layers.specs.declared.Layer.{Layer}
use Rattle.layers.specs.Record.{Kind, Three, unused_layer}
use Rattle.layers.specs.Start.{no_layer, starting_record, started_layer, started_record}
use Rattle.layers.specs.Areas.{record_size, record_bytes, record_in, area_with, starting_into}
use Rattle.layers.proofs.Laws.{LawfulKind}
use Rattle.layers.proofs.Starts.{started_is, start_empty}
use Rattle.layers.proofs.RecordBytes.{SizedRecord, empty_sized, zero_record}
use Rattle.layers.proofs.Areas.{long_with, left_in}

-- ---- the number

module _ (kind : Kind) (layers : Three Layer) (area : List ℕ) where
  pub into_refused : (starting_record layers ≡ 0 → ⊥) → starting_into kind layers area ≡ starting_record layers
  into_refused refused = unfold starting_into in rw (ne_eqb (starting_record layers) 0 refused) refl

  pub into_long : length area ≡ record_size kind → starting_into kind layers area ≡ starting_record layers
  into_long long = unfold starting_into in elim (ℕ_discrete (starting_record layers) 0) [
    | yes done ↦ rw (eq-eqb (length area) (record_size kind) long, done) refl
    | no refused ↦ rw (ne_eqb (starting_record layers) 0 refused) refl
  ]

  pub into_seven : starting_record layers ≡ 0 → (length area ≡ record_size kind → ⊥) → starting_into kind layers area
      ≡ 7
  into_seven done short = unfold starting_into in rw (done, ne_eqb (length area) (record_size kind) short) refl

-- ---- the record

module _ {kind : Kind} (laws : LawfulKind kind) where
  layer_sized : (mode : ℕ) (layer : Layer) (none : Bool) → no_layer layer ≡ none
      → laws.Sized (started_layer kind mode layer)
  unfolding started_layer unused_layer
  layer_sized mode layer true is = rw is (laws.fresh_sized _)
  layer_sized mode layer false is = rw is (laws.fresh_sized _)

  module _ (layers : Three Layer) where
    pub started_sized : SizedRecord laws (started_record kind layers)
    started_sized = elim (ℕ_discrete (starting_record layers) 0) [
      | yes done ↦ rw (started_is kind layers done) (record {
        a_sized = layer_sized layers.mode layers.a _ refl;
        b_sized = layer_sized layers.mode layers.b _ refl;
        c_sized = layer_sized layers.mode layers.c _ refl;
      })
      | no refused ↦ rw (start_empty kind layers refused) (empty_sized laws)
    ]

    module _ (area : List ℕ) (long : length area ≡ record_size kind) where
      pub started_in : record_in kind (area_with kind (started_record kind layers) area) ≡ started_record kind layers
      started_in = left_in laws area (started_record kind layers) started_sized long

      -- "A refused start fills a record area of the right length with zeros"
      pub start_zeros : (starting_record layers ≡ 0 → ⊥)
          → area_with kind (started_record kind layers) area ≡ replicate (record_size kind) 0
      start_zeros refused =
          long_with kind area long (started_record kind layers)
          ∙ ap (record_bytes kind) (start_empty kind layers refused)
          ∙ zero_record laws
