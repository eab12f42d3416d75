-- What the functions over a record go by, whatever the kind of its layers.
--     failed, passed                           a test that was turned round
--     named_a, named_b, named_c, named_none    the layer of each name
--     with_a, with_b, with_c, with_none        the record with another state there
--     all_none, none_laid                      fields laid end to end are all zero where each of them is
--     fine_good, fine_unused                   a layer that is good in the record's mode, and another, which is fine
--                                              if it is unused
--     not_started, is_started                  what a start gives
--     started_none, started_some               of each layer
use mathlib.Core.Path.{◌≡◌, refl, sym, ap, ap₂, ◌∙◌}
use mathlib.Core.Bool.{Bool, true, false, not, ◌&&◌, and_assoc, and_comm, not-not}
use mathlib.Core.List.{List, [], ◌∷◌, ◌++◌}
use Prim.Native.Nat.{ℕ, zero, suc, ◌+◌, ◌<◌}
use native.Mathlib.Omega.{arith}
use lib.Dec.{eqb}
use lib.ListN.{length, get_or, length-append}
use lib.Seq.{get_or-append-add}
use borrow.Author.Tests.{eq-eqb, ne_eqb, le-ltb}
use Rattle.lists.specs.Tab.{laid}
use Rattle.lists.specs.Tests.{all_below, bit_or_zero, bits_then_zeros, none_set}
use Rattle.lists.proofs.Join.{get_d_first}
use Rattle.layers.specs.declared.Layer.{Layer}
use Rattle.layers.specs.Record.{Kind, Three, three_from, unused, unused_layer, empty_record, good_layer}
use Rattle.layers.specs.Record.{layer_named, with_layer}
use Rattle.layers.specs.Start.{no_layer, settings_in, starting_record, started_layer, started_record}

-- ---- tests that were turned round

pub failed : (test : Bool) → not test ≡ true → test ≡ false
failed true e = sym e
failed false e = refl

pub passed : (test : Bool) → not test ≡ false → test ≡ true
passed true e = refl
passed false e = sym e

-- ---- the layer of a name

module _ (kind : Kind) (three : Three kind.State) (name : ℕ) where
  pub named_a : name ≡ 0 → three.a ≡ layer_named kind three name
  named_a e = unfold layer_named in rw e refl

  pub named_b : name ≡ 1 → three.b ≡ layer_named kind three name
  named_b e = unfold layer_named in rw e refl

  pub named_c : name ≡ 2 → three.c ≡ layer_named kind three name
  named_c e = unfold layer_named in rw e refl

  module _ (state : kind.State) where
    pub with_a : name ≡ 0 → three_from three.mode state three.b three.c ≡ with_layer three name state
    with_a e = unfold with_layer in rw e refl

    pub with_b : name ≡ 1 → three_from three.mode three.a state three.c ≡ with_layer three name state
    with_b e = unfold with_layer in rw e refl

    pub with_c : name ≡ 2 → three_from three.mode three.a three.b state ≡ with_layer three name state
    with_c e = unfold with_layer in rw e refl

pub named_none : (kind : Kind) (three : Three kind.State) (name : ℕ) → (name ≡ 0 → ⊥) → (name ≡ 1 → ⊥)
    → (name ≡ 2 → ⊥) → layer_named kind three name ≡ unused_layer kind
unfolding layer_named
named_none kind three zero not_a not-b not-c = absurd (not_a refl)
named_none kind three (suc zero) not_a not-b not-c = absurd (not-b refl)
named_none kind three (suc (suc zero)) not_a not-b not-c = absurd (not-c refl)
named_none kind three (suc (suc (suc name))) not_a not-b not-c = refl

pub with_none : {State : Type 0} (three : Three State) (name : ℕ) (state : State) → (name ≡ 0 → ⊥) → (name ≡ 1 → ⊥)
    → (name ≡ 2 → ⊥) → three ≡ with_layer three name state
unfolding with_layer
with_none three zero state not_a not-b not-c = absurd (not_a refl)
with_none three (suc zero) state not_a not-b not-c = absurd (not-b refl)
with_none three (suc (suc zero)) state not_a not-b not-c = absurd (not-c refl)
with_none three (suc (suc (suc name))) state not_a not-b not-c = refl

-- ---- all zero, field by field

below_sum : (one two : ℕ) (test : ℕ → Bool)
    → all_below (one + two) test ≡ (all_below two (λ k. test (one + k)) && all_below one test)
unfolding all_below
below_sum one zero test = let same : one + 0 ≡ one = omega arith in ap (λ (n : ℕ). all_below n test) same
below_sum one (suc two) test =
    let next : one + suc two ≡ suc (one + two) = omega arith in
    ap (λ (n : ℕ). all_below n test) next
    ∙ ap (λ (b : Bool). test (one + two) && b) (below_sum one two test)
    ∙ sym (and_assoc (test (one + two)) (all_below two (λ k. test (one + k))) (all_below one test))

below_same : (n : ℕ) (one two : ℕ → Bool) → ((k : ℕ) → k < n → one k ≡ two k) → all_below n one ≡ all_below n two
unfolding all_below
below_same zero one two same = refl
below_same (suc n) one two same =
    ap₂ (λ (x y : Bool). x && y) (same n (omega arith)) (below_same n one two (λ k less. same k (omega arith)))

-- an entry of a list of which none is used
none_at : (entries others : List ℕ) (place other : ℕ) → get_or entries place 0 ≡ get_or others other 0
    → bit_or_zero 0 entries place ≡ bit_or_zero 0 others other
unfolding bit_or_zero
none_at entries others place other e = rw (le-ltb place 0 (omega arith), le-ltb other 0 (omega arith), e) refl

none_append : (one two : List ℕ) → none_set (one ++ two) ≡ (none_set one && none_set two)
unfolding bits_then_zeros
none_append one two =
    ap (λ (n : ℕ). all_below n (bit_or_zero 0 (one ++ two))) (length-append one two)
    ∙ below_sum (length one) (length two) (bit_or_zero 0 (one ++ two))
    ∙ ap₂ (λ (x y : Bool). x && y)
    (below_same (length two) _ _ (λ k less. none_at _ two (length one + k) k (get_or-append-add one two k 0)))
    (below_same (length one) _ _ (λ k less. none_at _ one k k (get_d_first one two k less)))
    ∙ and_comm (none_set two) (none_set one)

abbrev pub all_none : List (List ℕ) → Bool
all_none [] = true
all_none (field ∷ fields) = none_set field && all_none fields

pub none_laid : (fields : List (List ℕ)) → none_set (laid fields) ≡ all_none fields
unfolding laid bits_then_zeros all_below
none_laid [] = refl
none_laid (field ∷ fields) =
    none_append field (laid fields) ∙ ap (λ (b : Bool). none_set field && b) (none_laid fields)

-- ---- a layer that is fine

-- `bad` is what a test whether the state isn't good has told
module _ (kind : Kind) (mode : ℕ) (state : kind.State) (bad : Bool) (told : bad ≡ not (kind.good state)) where
  fine : Bool
  fine = not bad && eqb (kind.settings state).mode mode

  same : fine ≡ (kind.good state && eqb (kind.settings state).mode mode)
  unfolding fine
  same = rw (told, not-not (kind.good state)) refl

  pub fine_good : (not bad && eqb (kind.settings state).mode mode) ≡ true → true ≡ good_layer kind mode state
  unfolding good_layer fine
  fine_good e = rw (sym same ∙ e) refl

  pub fine_unused : (not bad && eqb (kind.settings state).mode mode) ≡ false
      → unused kind state ≡ good_layer kind mode state
  unfolding good_layer fine
  fine_unused e = rw (sym same ∙ e) refl

-- ---- a start

pub not_started : (kind : Kind) (three : Three Layer) → (starting_record three ≡ 0 → ⊥)
    → empty_record kind ≡ started_record kind three
not_started kind three refused = unfold started_record in rw (ne_eqb (starting_record three) 0 refused) refl

pub is_started : (kind : Kind) (three : Three Layer) (a b c : kind.State) → starting_record three ≡ 0
    → a ≡ started_layer kind three.mode three.a → b ≡ started_layer kind three.mode three.b
    → c ≡ started_layer kind three.mode three.c
    → three_from three.mode a b c ≡ started_record kind three
is_started kind three a b c done e f g =
    unfold started_record in rw (eq-eqb (starting_record three) 0 done, e, f, g) refl

module _ (kind : Kind) (mode : ℕ) (layer : Layer) where
  pub started_none : no_layer layer ≡ true → unused_layer kind ≡ started_layer kind mode layer
  started_none none = unfold started_layer in rw none refl

  pub started_some : no_layer layer ≡ false → kind.fresh (settings_in mode layer) ≡ started_layer kind mode layer
  started_some some = unfold started_layer in rw some refl
