-- A record is good exactly where document 02 says so.
--     at_most, legal_mode_is       tests
--     unused_words, layer_words    a layer that is all zero; one that is in its place
--     good_words                   the record
use mathlib.Core.Path.{◌≡◌, refl}
use mathlib.Core.Bool.{Bool, true, false, ◌&&◌, ◌||◌, false≢true}
use mathlib.Core.Logic.{◌⊎◌, inl, inr, ⊎_elim, ◌↔◌}
use Prim.Native.Nat.{ℕ, ◌≤◌}
use native.Mathlib.Omega.{arith}
use lib.Dec.{eqb, leb}
use lib.ListN.{get_or}
use borrow.Author.Tests.{le-leb, leb-true, le-ltb, ltb-true}
use Rattle.lists.specs.Tests.{between, bit_or_zero}
use Rattle.lists.proofs.BitEntries.{bit_fine, bits_fine, bits_at}
use Rattle.settings.specs.Legal.{legal_mode}
use Rattle.settings.proofs.Reasons.{Tests, equal, both}
use Rattle.layers.specs.Record.{Kind, Three, unused, good_layer, segments_in, good_record}
use Rattle.layers.specs.Good.{GoodIn, AllZeroState, GoodRecord}

-- ---- tests

pub at_most : (a b : ℕ) → Tests (leb a b) (a ≤ b)
at_most a b = record { holds = leb-true a b; passing = le-leb a b }

pub legal_mode_is : (mode : ℕ) → Tests (legal_mode mode) ((1 ≤ mode) × (mode ≤ 3))
legal_mode_is mode = unfold between in both (at_most 1 mode) (at_most mode 3)

one_of : (one two : Bool) (first second : Type 0) → Tests one first → Tests two second
    → Tests (one || two) (first ⊎ second)
one_of true two first second f g = record { holds = λ e. inl (f.holds refl); passing = λ h. refl }
one_of false two first second f g = record {
  holds = λ e. inr (g.holds e);
  passing = λ h. ⊎_elim (λ p. absurd (false≢true (f.passing p))) g.passing h;
}

-- ---- a layer

module _ (kind : Kind) (state : kind.State) where
  pub unused_words : Tests (unused kind state) (AllZeroState kind state)
  unfolding unused bit_or_zero
  unused_words = record {
    holds = λ none k.
        let fine = bits_at 0 (kind.bytes state) none k in
        let low = ltb-true (get_or (kind.bytes state) k 0) 1 (rw (le-ltb k 0 (omega arith)) at fine) in
        omega arith;
    passing = λ zero. bits_fine 0 (kind.bytes state) (λ k less.
        let none = zero k in bit_fine 0 (kind.bytes state) k (omega arith) (λ unused. none));
  }

  good_in : (mode : ℕ) → Tests (kind.good state && eqb (kind.settings state).mode mode) (GoodIn kind mode state)
  good_in mode =
      let test = both {one = kind.good state} (record { holds = λ e. e; passing = λ e. e })
      (equal (kind.settings state).mode mode) in
      record {
        holds = λ e. record { good = (test.holds e).0; mode_is = (test.holds e).1 };
        passing = λ is. test.passing (is.good, is.mode_is);
      }

  pub layer_words : (mode : ℕ) → Tests (good_layer kind mode state) (GoodIn kind mode state ⊎ AllZeroState kind state)
  unfolding good_layer
  layer_words mode = one_of _ _ _ _ (good_in mode) unused_words

-- ---- the record

module _ (kind : Kind) (three : Three kind.State) where
  parts : Tests (good_record kind three) ((((((1 ≤ three.mode) × (three.mode ≤ 3))
      × (GoodIn kind three.mode three.a ⊎ AllZeroState kind three.a))
      × (GoodIn kind three.mode three.b ⊎ AllZeroState kind three.b))
      × (GoodIn kind three.mode three.c ⊎ AllZeroState kind three.c))
      × (segments_in kind three ≤ 13))
  unfolding good_record
  parts =
      both (both (both (both (legal_mode_is three.mode) (layer_words kind three.a three.mode))
      (layer_words kind three.b three.mode)) (layer_words kind three.c three.mode))
      (at_most (segments_in kind three) 13)

  -- "A record is good if its mode is legal, each layer is either good in that mode or unused and all zero, and the
  -- segments are at most 13 in all"
  pub good_words : (good_record kind three ≡ true) ↔ GoodRecord kind three
  unfolding segments_in
  good_words = (
    λ good. let is = parts.holds good in record {
      mode_legal = is.0.0.0.0;
      a_good = is.0.0.0.1;
      b_good = is.0.0.1;
      c_good = is.0.1;
      few = is.1;
    },
    λ is. parts.passing ((((is.mode_legal, is.a_good), is.b_good), is.c_good), is.few),
  )
