-- A number is given for the first reason that applies, of a record: "The first that applies is given, and none without
-- its reason."
--     record_answers           of a call in a named layer, the record's reasons and then the layer's own
--     record_answers_once      .. where the layer's own begin with 7: that the layer is good needn't be asked again
--     start_record_answers     of a start of three layers
--     start_into_answers       .. into a lent area
use mathlib.Core.Path.{◌≡◌, refl, sym, ◌∙◌}
use mathlib.Core.Bool.{Bool, true, false, cond, not, ◌&&◌, false≢true, true≢false}
use mathlib.Core.Logic.{◌⊎◌, inl, inr, ⊎_elim}
use mathlib.Core.List.{List, [], ◌∷◌, ◌++◌}
use Prim.Native.Nat.{ℕ, ◌+◌, ◌≤◌}
use lib.Dec.{eqb}
use lib.ListN.{length}
use Rattle.lists.proofs.Bools.{and_both, and_left}
use Rattle.settings.specs.Legal.{legal_mode}
use Rattle.settings.specs.Reasons.{Reason, ◌unless◌, GivenFirst, none_applies, applies, passes, start_reasons}
use Rattle.settings.proofs.Reasons.{Tests, tested, equal, both, start_answers}
use Rattle.layers.specs.declared.Layer.{Layer}
use Rattle.layers.specs.Record.{Kind, Three, unused, layer_named, good_record}
use Rattle.layers.specs.Start.{no_layer, settings_in, starting_layer, starting_record}
use Rattle.layers.specs.Calls.{Call, in_layer}
use Rattle.layers.specs.Areas.{record_size, starting_into}
use Rattle.layers.specs.Reasons.{behind_first, record_reasons, AllZero, layer_reasons}
use Rattle.layers.specs.Reasons.{start_record_reasons, start_into_reasons}
use Rattle.layers.proofs.Laws.{LawfulKind}
use Rattle.layers.proofs.Good.{used_good}
use Rattle.layers.proofs.GoodWords.{at_most, legal_mode_is}
use Rattle.layers.proofs.InLayer.{nothing_asked, number_fine, not_good_seven, unused_thirteen}

-- ---- lists of reasons

abbrev Behind : List {1} Reason → ℕ → Type 1
Behind [] number = Unit {1}
Behind (reason ∷ rest) number = reason.asked → GivenFirst rest number

behind_first_is : {reasons : List {1} Reason} {number : ℕ} → GivenFirst reasons number → Behind reasons number
behind_first_is none_applies = tt
behind_first_is (applies n asked rest not_so) = λ holds. absurd (not_so holds)
behind_first_is (passes n asked rest m holds more) = λ again. more

-- reasons that a layer which isn't used passes
abbrev or_unused : Type 0 → List {1} Reason → List {1} Reason
or_unused Unused [] = []
or_unused Unused (reason ∷ rest) = (reason.number unless (Unused ⊎ reason.asked)) ∷ or_unused Unused rest

when_used : {reasons : List {1} Reason} {number : ℕ} (Unused : Type 0) → (Unused → ⊥) → GivenFirst reasons number
    → GivenFirst (or_unused Unused reasons) number
when_used Unused used none_applies = none_applies
when_used Unused used (applies n asked rest not_so) =
    applies n (Unused ⊎ asked) (or_unused Unused rest) (⊎_elim used not_so)
when_used Unused used (passes n asked rest m holds more) =
    passes n (Unused ⊎ asked) (or_unused Unused rest) m (inr holds) (when_used Unused used more)

when_unused : (Unused : Type 0) → Unused → (reasons : List {1} Reason) → GivenFirst (or_unused Unused reasons) 0
when_unused Unused is [] = none_applies
when_unused Unused is (reason ∷ rest) =
    passes reason.number (Unused ⊎ reason.asked) (or_unused Unused rest) 0 (inl is) (when_unused Unused is rest)

-- whether no reason has the number of what is done
abbrev refusing : List {1} Reason → Bool
refusing [] = true
refusing (reason ∷ rest) = not (eqb reason.number 0) && refusing rest

-- some reasons and then more
then_more : {reasons : List {1} Reason} {number : ℕ} → GivenFirst reasons number → refusing reasons ≡ true
    → (more : List {1} Reason) (m : ℕ) → GivenFirst more m
    → GivenFirst (reasons ++ more) (cond (not (eqb number 0)) number m)
then_more none_applies refuse more m rest = rest
then_more (applies n asked behind not_so) refuse more m rest =
    rw (and_left (not (eqb n 0)) (refusing behind) refuse) (applies n asked (behind ++ more) not_so)
then_more (passes n asked behind k holds given) refuse more m rest =
    passes n asked (behind ++ more) (cond (not (eqb k 0)) k m) holds
    (then_more given (and_both (not (eqb n 0)) (refusing behind) refuse).1 more m rest)

-- ---- a call in a named layer

module _ (kind : Kind) {Lent : Type 0} (call : Call kind.State Lent) (lent : Lent) (name : ℕ)
    (three : Three kind.State) (own : List {1} Reason) where
  -- the layer's own reasons are asked in a used layer of a good record
  answers_by : (good none : Bool) → good_record kind three ≡ good → unused kind (layer_named kind three name) ≡ none
      → (good_record kind three ≡ true → unused kind (layer_named kind three name) ≡ false
      → GivenFirst own (call.number (layer_named kind three name)))
      → GivenFirst (record_reasons kind name three own) ((in_layer kind call lent name).number three)
  answers_by false none bad is given =
      rw (not_good_seven kind call lent name three bad) (applies 7 _ _ (λ good. true≢false (sym good ∙ bad)))
  answers_by true true good is given =
      rw (unused_thirteen kind call lent name three good is)
      (passes 7 _ _ 13 good (applies 13 _ _ (λ used. false≢true (sym used ∙ is))))
  answers_by true false good used given =
      rw (number_fine kind call lent name three (nothing_asked kind name three good used))
      (passes 7 _ _ _ good (passes 13 _ _ _ used (given good used)))

  -- "and then the layer's own refusals in their order"
  pub record_answers : GivenFirst own (call.number (layer_named kind three name))
      → GivenFirst (record_reasons kind name three own) ((in_layer kind call lent name).number three)
  record_answers given = answers_by _ _ refl refl (λ good used. given)

  -- Where they begin with 7, that the layer is good needn't be asked again.
  pub record_answers_once : LawfulKind kind
      → GivenFirst ((7 unless (kind.good (layer_named kind three name) ≡ true)) ∷ own)
      (call.number (layer_named kind three name))
      → GivenFirst (record_reasons kind name three own) ((in_layer kind call lent name).number three)
  record_answers_once laws given =
      answers_by _ _ refl refl (λ good used. behind_first_is given (used_good laws three good name used).good)

-- ---- a start

none_of : (layer : Layer) → Tests (no_layer layer) (AllZero layer)
none_of layer =
    unfold no_layer in both (both (equal layer.v 0) (equal layer.rate 0)) (equal layer.segments 0)

-- 2, 3, 4 of a layer in a legal mode
layer_answers : (mode : ℕ) → (1 ≤ mode) × (mode ≤ 3) → (layer : Layer) (none : Bool) → no_layer layer ≡ none
    → GivenFirst (layer_reasons layer) (starting_layer mode layer)
unfolding starting_layer
layer_answers mode legal layer true is =
    rw is (when_unused (AllZero layer) ((none_of layer).holds is)
    (behind_first (start_reasons (settings_in mode layer))))
layer_answers mode legal layer false is =
    rw is (when_used (AllZero layer) (λ zero. false≢true (sym is ∙ (none_of layer).passing zero))
    (behind_first_is (start_answers (settings_in mode layer)) legal))

module _ (layers : Three Layer) where
  abbrev sum : ℕ
  sum = layers.a.segments + layers.b.segments + layers.c.segments

  layer_then : (1 ≤ layers.mode) × (layers.mode ≤ 3) → (layer : Layer) (more : List {1} Reason) (m : ℕ)
      → GivenFirst more m → GivenFirst (layer_reasons layer ++ more)
      (cond (not (eqb (starting_layer layers.mode layer) 0)) (starting_layer layers.mode layer) m)
  layer_then legal layer =
      then_more (layer_answers layers.mode legal layer _ refl) refl

  start_by : (legal : Bool) → legal_mode layers.mode ≡ legal
      → GivenFirst (start_record_reasons layers) (starting_record layers)
  unfolding starting_record
  start_by false bad =
      rw bad (applies 1 _ _ (λ legal. false≢true (sym bad ∙ (legal_mode_is layers.mode).passing legal)))
  start_by true good =
      let legal = (legal_mode_is layers.mode).holds good in
      rw good (passes 1 _ _ _ legal
      (layer_then legal layers.a _ _
      (layer_then legal layers.b _ _
      (layer_then legal layers.c _ _ (tested 12 (at_most sum 13) none_applies)))))

  -- "A start tests the layers in the order A, B, C."
  pub start_record_answers : GivenFirst (start_record_reasons layers) (starting_record layers)
  start_record_answers = start_by _ refl

  -- "an area of another length is left alone and answered with 7, after 1 to 4 and 12"
  pub start_into_answers : (kind : Kind) (area : List ℕ)
      → GivenFirst (start_into_reasons kind layers area) (starting_into kind layers area)
  unfolding starting_into
  start_into_answers kind area =
      then_more start_record_answers refl _ _
      (tested 7 (equal (length area) (record_size kind)) none_applies)
