-- When a record is good.
--     GoodParts, parts_of, good_of     what it says: a legal mode, good or unused layers, at most 13 segments
--     used_good                        a used layer of a good record is good in the record's mode
--     unused_fine, good_fine           an unused layer, and a good one in the record's mode, are in their place
--     good_with                        a used layer exchanged for a good one of the same settings
--     empty_not_good                   a record of zeros isn't good
use mathlib.Core.Path.{◌≡◌, refl, sym, ap, ◌∙◌}
use mathlib.Core.Bool.{Bool, true, false, false≢true, ◌&&◌, ◌||◌, or-true}
use Prim.Native.Nat.{ℕ, zero, suc, ◌≤◌}
use native.Mathlib.Decide.{ℕ_discrete}
use lib.Dec.{eqb, leb}
use borrow.Author.Tests.{eq-eqb, eqb-true, le-leb, leb-true}
use Rattle.lists.specs.Tests.{between}
use Rattle.lists.proofs.Bools.{and_both}
use Rattle.settings.specs.declared.Settings.{Settings}
use Rattle.settings.specs.Legal.{legal_mode}
use Rattle.layers.specs.Record.{Kind, Three, unused, unused_layer, layer_named, with_layer, empty_record}
use Rattle.layers.specs.Record.{good_layer, segments_in, good_record}
use Rattle.layers.specs.Good.{GoodIn}
use Rattle.layers.proofs.Laws.{LawfulKind, none_set}
use Rattle.layers.proofs.Named.{mode_with, named_with, named_other, used_below}

-- ---- a layer in a mode

first_of_two : (a b : Bool) → (a || b) ≡ true → b ≡ false → a ≡ true
first_of_two true b e no_second = refl
first_of_two false b e no_second = absurd (false≢true (sym no_second ∙ e))

module _ (kind : Kind) (mode : ℕ) (state : kind.State) where
  good_in : good_layer kind mode state ≡ true → unused kind state ≡ false → GoodIn kind mode state
  unfolding good_layer
  good_in fine used =
      let good = kind.good state in
      let same = eqb (kind.settings state).mode mode in
      let both = and_both good same (first_of_two (good && same) (unused kind state) fine used) in
      record { good = both.0; mode_is = eqb-true (kind.settings state).mode mode both.1 }

  pub good_fine : GoodIn kind mode state → good_layer kind mode state ≡ true
  unfolding good_layer
  good_fine is = rw (is.good, eq-eqb (kind.settings state).mode mode is.mode_is) refl

  pub unused_fine : unused kind state ≡ true → good_layer kind mode state ≡ true
  unfolding good_layer
  unused_fine none = rw none (or-true (kind.good state && eqb (kind.settings state).mode mode))

-- ---- a record

pub record GoodParts (kind : Kind) (three : Three kind.State) : Type 0 where
  pub legal : legal_mode three.mode ≡ true
  pub each : (name : ℕ) → good_layer kind three.mode (layer_named kind three name) ≡ true
  pub few : segments_in kind three ≤ 13

module _ {kind : Kind} (laws : LawfulKind kind) (three : Three kind.State) where
  each_named : good_layer kind three.mode three.a ≡ true → good_layer kind three.mode three.b ≡ true
      → good_layer kind three.mode three.c ≡ true → (name : ℕ)
      → good_layer kind three.mode (layer_named kind three name) ≡ true
  unfolding layer_named
  each_named a b c zero = a
  each_named a b c (suc zero) = b
  each_named a b c (suc (suc zero)) = c
  each_named a b c (suc (suc (suc other))) = unused_fine kind three.mode (unused_layer kind) (none_set laws)

  pub parts_of : good_record kind three ≡ true → GoodParts kind three
  unfolding good_record
  parts_of good =
      let legal = legal_mode three.mode in
      let a = good_layer kind three.mode three.a in
      let b = good_layer kind three.mode three.b in
      let c = good_layer kind three.mode three.c in
      let four = and_both (legal && a && b && c) (leb (segments_in kind three) 13) good in
      let three-of = and_both (legal && a && b) c four.0 in
      let two = and_both (legal && a) b three-of.0 in
      let one = and_both legal a two.0 in
      record {
        legal = one.0;
        each = each_named one.1 two.1 three-of.1;
        few = leb-true (segments_in kind three) 13 four.1;
      }

  -- A used layer of a good record is good in the record's mode.
  pub used_good : good_record kind three ≡ true → (name : ℕ) → unused kind (layer_named kind three name) ≡ false
      → GoodIn kind three.mode (layer_named kind three name)
  used_good good name used = good_in kind three.mode (layer_named kind three name) ((parts_of good).each name) used

module _ (kind : Kind) (three : Three kind.State) where
  pub good_of : GoodParts kind three → good_record kind three ≡ true
  unfolding good_record layer_named
  good_of is =
      rw (is.legal, is.each 0, is.each 1, is.each 2, le-leb (segments_in kind three) 13 is.few) refl

  segments_with : (name : ℕ) (state : kind.State) → kind.settings state ≡ kind.settings (layer_named kind three name)
      → segments_in kind (with_layer three name state) ≡ segments_in kind three
  unfolding segments_in with_layer layer_named
  segments_with zero state same = rw same refl
  segments_with (suc zero) state same = rw same refl
  segments_with (suc (suc zero)) state same = rw same refl
  segments_with (suc (suc (suc other))) state same = refl

module _ {kind : Kind} (laws : LawfulKind kind) (three : Three kind.State) (good : good_record kind three ≡ true)
    (name : ℕ) (used : unused kind (layer_named kind three name) ≡ false) (state : kind.State)
    (good-there : kind.good state ≡ true) (same : kind.settings state ≡ kind.settings (layer_named kind three name))
  where
    -- the layer that is exchanged, and any other
    each_with : (other : ℕ)
        → good_layer kind three.mode (layer_named kind (with_layer three name state) other) ≡ true
    each_with other = elim (ℕ_discrete name other) [
      | yes is ↦
          rw (← is, named_with kind three name (used_below kind three laws name used) state)
          (good_fine kind three.mode state (record {
            good = good-there;
            mode_is = ap (λ (s : Settings). s.mode) same ∙ (used_good laws three good name used).mode_is;
          }))
      | no differ ↦ rw (named_other kind three name other differ state) ((parts_of laws three good).each other)
    ]

    -- A record stays good where a used layer is exchanged for a good one of the same settings.
    pub good_with : good_record kind (with_layer three name state) ≡ true
    good_with = good_of kind (with_layer three name state) (record {
      legal = rw (mode_with three name state) (parts_of laws three good).legal;
      each = λ other.
          ap (λ (mode : ℕ). good_layer kind mode (layer_named kind (with_layer three name state) other))
          (mode_with three name state)
          ∙ each_with other;
      few = rw (segments_with kind three name state same) (parts_of laws three good).few;
    })

-- "a refused start gives zeros throughout", and those aren't good
pub empty_not_good : (kind : Kind) → good_record kind (empty_record kind) ≡ false
empty_not_good kind = unfold good_record empty_record between in refl
