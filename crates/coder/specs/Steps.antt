-- What the inner functions say of each other.
--     ParitiesIn         the parities of some packets stand in an area
--     Rows               the parities of the 32 packets of a run that packet p is one of
--     opened_progress    before a frame's first word
--     Worded             after one word more
--     coding_closed      the state behind the last word
use Rattle.std.specs.Prelude.{◌≡◌, List, ℕ, ◌+◌, ◌*◌, ◌/◌, ◌%◌, ◌<◌, ◌≤◌, length, get_or}
use Rattle.rules.specs.Word.{parity_of, packet_at}
use Rattle.remainder.specs.Packets.{parity_byte}
use Rattle.convolutional_code.specs.CodeTable.{turned}
use Rattle.bit_interleaver.specs.Symbols.{placed, history_of, entries_of}
use Rattle.word_coder.specs.Step.{step_of}
use Rattle.coding_state.specs.declared.State.{State}
use Rattle.coder.specs.declared.frame.Progress.{Progress}

-- the parities of the packets stand in front
pub record ParitiesIn (packets area : List ℕ) : Type 0 where
  pub byte : (k : ℕ) → k < 16 * (length packets / 188) → get_or area k 0 ≡ parity_byte packets k

-- packets are taken 32 at a time: row k % 32 is the parity of packet k
pub record Rows (packets : List ℕ) (p : ℕ) (rows : List ℕ) : Type 0 where
  pub row : (k j : ℕ) → k / 32 ≡ p / 32 → 188 * k + 188 ≤ length packets → j < 16
      → get_or rows (16 * (k % 32) + j) 0 ≡ get_or (parity_of (packet_at packets k)) j 0

unfoldable pub opened_progress : State → Progress
opened_progress state =
    record { run = record { left = 0; history = history_of state.settings.v state.lines }; written = 0 }

-- `stream` is the stream with the word
pub record Worded (table : List ℕ) (rate v : ℕ) (progress : Progress) (stream carriers : List ℕ) (after : Progress)
    (carriers' : List ℕ) :
    Type 0 where
  pub run_is : after.run ≡ (step_of table rate v progress.run stream).run
  pub written_is : after.written ≡ progress.written + (step_of table rate v progress.run stream).count
  pub carriers_are : carriers'
      ≡ placed v (step_of table rate v progress.run stream).symbols progress.written
      (step_of table rate v progress.run stream).count carriers

-- `last` is the last byte that came out of the byte interleaver
unfoldable pub coding_closed : State → Progress → List ℕ → ℕ → State
coding_closed state progress memory last =
    record {
      settings = state.settings;
      memory = memory;
      register = turned 6 last;
      lines = entries_of state.settings.v progress.run.history;
    }
