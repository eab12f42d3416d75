-- The arrays of a receiving state have their lengths.
--     Sized                         a state whose arrays have their lengths
--     fresh_sized, behind_sized     such a state is one before the first frame, and one behind a frame
use mathlib.Core.Path.{◌≡◌}
use mathlib.Core.Bool.{true}
use mathlib.Core.List.{List}
use Prim.Native.Nat.{ℕ, ◌≤◌}
use native.Mathlib.Omega.{arith}
use lib.ListN.{length, length-replicate}
use Rattle.lists.specs.Tab.{piece_start}
use Rattle.lists.proofs.Tabs.{length_tab}
use Rattle.settings.specs.declared.Settings.{Settings}
use Rattle.settings.proofs.LegalSettings.{LegalBits, qpsk, qam16, qam64, legal_settings}
use Rattle.rules.specs.Bytes.{waits_back}
use Rattle.rules.specs.Bits.{line_delay, wait_of, entry_after, lines_waiting}
use Rattle.rules.specs.Back.{held_after}
use Rattle.rules.proofs.Ways.{back_fits}
use Rattle.rules.proofs.Memory.{length_memory}
use Rattle.rules.proofs.Entries.{length_in_sizes}
use Rattle.receiving_state.specs.declared.State.{State}
use Rattle.receiving_state.specs.State.{fresh_receiving_state, good_receiving_state}
use Rattle.receiving_state.proofs.Good.{good_of}
use Rattle.receiving_answers.specs.Words.{call_pairs, received_byte, memory_at}
use Rattle.receiving_answers.specs.Receiving.{words_of, last_carriers, receiving_state_behind}

pub record Sized (state : State) : Type 0 where
  pub memory_long : length state.memory ≡ 1122
  pub lines_long : length state.lines ≡ 360
  pub held_long : length state.held ≡ 3072

pub fresh_sized : (settings : Settings) → Sized (fresh_receiving_state settings)
unfolding fresh_receiving_state
fresh_sized settings = record {
  memory_long = length-replicate {A = ℕ} 1122 0;
  lines_long = length-replicate {A = ℕ} 360 0;
  held_long = length-replicate {A = ℕ} 3072 0;
}

-- the lines' entries fit the 360
entries_fit : {v : ℕ} → LegalBits v → piece_start (wait_of v) v ≤ 360
unfolding piece_start wait_of line_delay
entries_fit qpsk = omega arith
entries_fit qam16 = omega arith
entries_fit qam64 = omega arith

pub behind_sized : (state : State) (carriers : List ℕ) → good_receiving_state state ≡ true
    → Sized (receiving_state_behind state carriers)
unfolding receiving_state_behind memory_at lines_waiting held_after
behind_sized state carriers good =
    let v = state.settings.v in
    record {
      memory_long = length_memory waits_back back_fits state.memory
          (received_byte (call_pairs state carriers) state.register) (words_of state);
      lines_long = length_in_sizes (wait_of v) v (entry_after (wait_of v) v (last_carriers carriers))
          (entries_fit (legal_settings state.settings (good_of state good).legal).bits);
      held_long = length_tab 3072 _;
    }
