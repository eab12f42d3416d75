-- Coding states as layers of a record, and the entries over a coding state as calls, which document 02 has done in a
-- named layer.
--     coding_kind                                what a record asks of a coding state
--     codes, replaces, disperses_interleaves     what each entry answers and leaves
use Rattle.std.specs.Prelude.{◌≡◌, List, ℕ}
use Rattle.layers.specs.Record.{Kind}
use Rattle.layers.specs.States.{kind_of}
use Rattle.layers.specs.Calls.{Call}
use Rattle.coding_state.specs.declared.State.{State}
use Rattle.coding_state.specs.Layer.{coding_meaning}
use Rattle.coding_answers.specs.Coding.{coding, state_coded, coded_into}
use Rattle.coding_answers.specs.Replacement.{replacing, state_replaced, replaced_into}
use Rattle.coding_answers.specs.SingleWords.{dispersing_interleaving}
use Rattle.coding_answers.specs.SingleWords.{state_dispersed_interleaved, dispersed_interleaved_into}

abbrev pub coding_kind : Kind
coding_kind = kind_of coding_meaning

abbrev pub codes : List ℕ → List ℕ → Call State (List ℕ)
codes packets carriers =
    record {
      number = λ state. coding state packets carriers;
      after = λ state. state_coded state packets carriers;
      Leaves = λ state carriers'. carriers' ≡ coded_into state packets carriers;
    }

abbrev pub replaces : List ℕ → ℕ → List ℕ → List ℕ → Call State (List ℕ)
replaces carriers number old new =
    record {
      number = λ state. replacing state carriers number old new;
      after = λ state. state_replaced state carriers number old new;
      Leaves = λ state carriers'. carriers' ≡ replaced_into state carriers number old new;
    }

abbrev pub disperses_interleaves : ℕ → List ℕ → List ℕ → Call State (List ℕ)
disperses_interleaves place word out =
    record {
      number = λ state. dispersing_interleaving state place word out;
      after = λ state. state_dispersed_interleaved state place word out;
      Leaves = λ state out'. out' ≡ dispersed_interleaved_into state place word out;
    }
