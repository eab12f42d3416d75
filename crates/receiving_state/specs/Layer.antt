-- What a record asks of a receiving state.
--     receiving_meaning     its settings, when it is good, a fresh one, and its bytes
use Rattle.layers.specs.States.{StateMeaning}
use Rattle.receiving_state.specs.declared.State.{State}
use Rattle.receiving_state.specs.State.{fresh_receiving_state, good_receiving_state}
use Rattle.receiving_state.specs.Bytes.{receiving_state_of, receiving_bytes}

abbrev pub receiving_meaning : StateMeaning State
receiving_meaning =
    record {
      settings = λ state. state.settings;
      good = good_receiving_state;
      fresh = fresh_receiving_state;
      bytes = receiving_bytes;
      size = 4560;
      state_of = receiving_state_of;
    }
