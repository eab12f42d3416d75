-- What a record asks of a coding state.
--     coding_meaning     its settings, when it is good, a fresh one, and its bytes
use Rattle.layers.specs.States.{StateMeaning}
use Rattle.coding_state.specs.declared.State.{State}
use Rattle.coding_state.specs.State.{fresh_coding_state, good_coding_state}
use Rattle.coding_state.specs.Bytes.{coding_state_of, coding_bytes}

abbrev pub coding_meaning : StateMeaning State
coding_meaning =
    record {
      settings = λ state. state.settings;
      good = good_coding_state;
      fresh = fresh_coding_state;
      bytes = coding_bytes;
      size = 1487;
      state_of = coding_state_of;
    }
