use Rattle.std.proofs.Common.{◌≡◌, ◌≤◌, refl, arith, rules, ℕ, Bool, true, false, not, ◌∷◌, []}
use Rattle.settings.specs.Answers.{◌when◌, first_of}
use Rattle.layers.specs.Record.{Kind, Three, unused, unused_layer, layer_named, good_record}
use Rattle.layers.specs.Calls.{asked}
use Rattle.layers.proofs.Steps.{named_a, named_b, named_c}
use Rattle.layers.proofs.Named.{other_name}
use Rattle.layer_records.proofs.Record.layer_mut.Goals as goal

pub returns-in-0 : goal.returns-in-0
returns-in-0 g c = (
  rw c.in-0.is refl,
  record {
    writes_back = tt;
    answer_value = c.in_ok-refusal.ensures;
    state_value = named_a _ _ _ c.in-0.is;
  },
)

pub returns-in-1 : goal.returns-in-1
returns-in-1 g c = (
  rw c.in-1.is refl,
  record {
    writes_back = tt;
    answer_value = c.in_ok-refusal.ensures;
    state_value = named_b _ _ _ c.in-1.is;
  },
)

pub returns-in-2 : goal.returns-in-2
returns-in-2 g c = (
  rw c.in-2.is refl,
  record {
    writes_back = tt;
    answer_value = c.in_ok-refusal.ensures;
    state_value = named_c _ _ _ c.in-2.is;
  },
)

-- the name of a layer that isn't used is refused
some_refusal : (good none : Bool) → none ≡ true → 0 ≡ first_of ((7 when not good) ∷ (13 when none) ∷ []) → ⊥
some_refusal true true = search rules
some_refusal false true = search rules
some_refusal good false = search rules

other_refused : (kind : Kind) (three : Three kind.State) (name : ℕ) → unused kind (unused_layer kind) ≡ true
    → 3 ≤ name → 0 ≡ asked kind name three → ⊥
unfolding asked
other_refused kind three name none above =
    some_refusal (good_record kind three) (unused kind (layer_named kind three name))
    (rw (other_name kind three name above) none)

pub returns-in_default : goal.returns-in_default
returns-in_default g c = (
  refl,
  record {
    writes_back = tt;
    answer_value = absurd (other_refused _ _ _ g.met.S.LayerState.unused_is (omega arith) c.in_ok-refusal.ensures);
    state_value = tt;
  },
)
