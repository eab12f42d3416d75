-- What a record asks of its layers' states, of a type whose values are such states.
--     StateMeaning     what the type tells: all of a kind but the type itself
--     kind_of          the kind that it is
use Rattle.std.specs.Prelude.{Bool, List, ℕ}
use Rattle.settings.specs.declared.Settings.{Settings}
use Rattle.layers.specs.Record.{Kind}

-- each as `Kind` has it
pub record StateMeaning (State : Type 0) : Type 0 where
  pub settings : State → Settings
  pub good : State → Bool
  pub fresh : Settings → State
  pub bytes : State → List ℕ
  pub size : ℕ
  pub state_of : List ℕ → State

abbrev pub kind_of : {State : Type 0} → StateMeaning State → Kind
kind_of {State} meaning =
    record {
      State = State;
      settings = meaning.settings;
      good = meaning.good;
      fresh = meaning.fresh;
      bytes = meaning.bytes;
      size = meaning.size;
      state_of = meaning.state_of;
    }
