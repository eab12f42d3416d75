-- What the inner functions say of each other.
--     quiet_run       the run of the difference frame before its packet's word
--     state_added     a state with what is held behind the last word added
use Rattle.std.specs.Prelude.{List, ℕ, replicate}
use Rattle.std.specs.Int.Bits.{bit_xor}
use Rattle.settings.specs.Sizes.{packets_by_rate}
use Rattle.convolutional_code.specs.CodeTable.{turned}
use Rattle.bit_interleaver.specs.Symbols.{entries_of}
use Rattle.word_coder.specs.declared.Run.{Run}
use Rattle.rules.proofs.Counts.{left_over}
use Rattle.coding_state.specs.declared.State.{State}
use Rattle.coding_answers.specs.Replacement.{added_to}

-- zeros, and as many message bits left over as the words before it leave
unfoldable pub quiet_run : ℕ → ℕ → Run
quiet_run rate number = record { left = left_over (packets_by_rate rate) number; history = replicate 120 0 }

-- the memory, the register and the lines; `last` is the last byte that came out of the byte interleaver
unfoldable pub state_added : State → Run → List ℕ → ℕ → State
state_added state run memory last =
    record {
      settings = state.settings;
      memory = added_to 1122 state.memory memory;
      register = bit_xor state.register (turned 6 last);
      lines = added_to 360 state.lines (entries_of state.settings.v run.history);
    }
