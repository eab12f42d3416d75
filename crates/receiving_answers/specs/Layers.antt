-- Receiving states as layers of a record, and going back as a call, which document 02 has done in a named layer.
--     receiving_kind        what a record asks of a receiving state
--     HandedBack, handed    what a call of going back hands out: the slots, and how many packets were given
--     HandedOut             .. from a state
--     goes_back             what `receiver::back` answers and leaves
use Rattle.std.specs.Prelude.{◌≡◌, List, ℕ}
use Rattle.layers.specs.Record.{Kind}
use Rattle.layers.specs.States.{kind_of}
use Rattle.layers.specs.Calls.{Call}
use Rattle.receiving_state.specs.declared.State.{State}
use Rattle.receiving_state.specs.Layer.{receiving_meaning}
use Rattle.receiving_answers.specs.Receiving.{receiving, state_received, count_received, Slots}

abbrev pub receiving_kind : Kind
receiving_kind = kind_of receiving_meaning

pub record HandedBack : Type 0 where
  pub slots : List ℕ
  pub given : ℕ

abbrev pub handed : List ℕ → ℕ → HandedBack
handed slots given = record { slots = slots; given = given }

-- "`given` is 0 on refusal"
pub record HandedOut (state : State) (carriers slots : List ℕ) (out : HandedBack) : Type 0 where
  pub given_is : out.given ≡ count_received state carriers slots
  pub slots_are : receiving state carriers slots ≡ 0 → Slots state carriers slots out.slots
  pub slots_stay : (receiving state carriers slots ≡ 0 → ⊥) → out.slots ≡ slots

abbrev pub goes_back : List ℕ → List ℕ → Call State HandedBack
goes_back carriers slots =
    record {
      number = λ state. receiving state carriers slots;
      after = λ state. state_received state carriers slots;
      Leaves = λ state out. HandedOut state carriers slots out;
    }
