-- A receiver in step with what is sent.
--     arriving                  the bytes of a stream as they arrive
--     Following                 the memory and the register of a receiver that has taken so many words of a stream
--     receiving_state_from      a receiving state, part by part
--     Before, Behind, InStep    a receiver in step: before the first frame, behind a frame, and after so many frames
use Rattle.std.specs.Prelude.{◌≡◌, List, ℕ, zero, suc, ◌-◌, ◌%◌}
use Rattle.rules.specs.Bytes.{waits_there, waits_back, stream_byte, memory_after}
use Rattle.settings.specs.declared.Settings.{Settings}
use Rattle.settings.specs.Sizes.{P}
use Rattle.rules.specs.Bits.{lines_waiting}
use Rattle.rules.specs.Frame.{Frame, register_behind}
use Rattle.coding_state.specs.declared.State.{State}
use Rattle.receiving_state.specs.declared.State.{State as Receiving}
use Rattle.receiving_answers.specs.Receiving.{last_carriers}
use Rattle.rules.specs.Back.{held_after}
use Rattle.demands.specs.Frames.{carriers_at, stream_from}

-- what comes out of the byte interleaver; a byte is below 256
unfoldable pub arriving : Frame → ℕ → ℕ
arriving stream b = stream_byte waits_there stream.memory stream.sent b % 256

-- What a receiver's memory held before the stream's first word is of no account.
pub record Following (stream : Frame) (word : ℕ) (memory : List ℕ) (register : ℕ) : Type 0 where
  pub register_is : register ≡ register_behind stream word
  pub before : List ℕ
  pub memory_is : memory ≡ memory_after waits_back before (arriving stream) word

abbrev pub receiving_state_from : Settings → ℕ → List ℕ → List ℕ → ℕ → List ℕ → Receiving
receiving_state_from settings taken memory lines register held =
    record { settings = settings; taken = taken; memory = memory; lines = lines; register = register; held = held }

-- Before the first frame the lines and the bits held are of no account.
pub record Before (start : State) (packets : ℕ → List ℕ) (state : Receiving) : Type 0 where
  pub memory : List ℕ
  pub lines : List ℕ
  pub register : ℕ
  pub held : List ℕ
  pub state_is : state ≡ receiving_state_from start.settings 0 memory lines register held
  pub follows : Following (stream_from start packets 0) 0 memory register

-- Behind frame f all its words but the last are taken, and what is held and in the lines is of its carriers.
pub record Behind (start : State) (packets : ℕ → List ℕ) (f : ℕ) (state : Receiving) : Type 0 where
  pub memory : List ℕ
  pub register : ℕ
  pub state_is : state
      ≡ receiving_state_from start.settings 1 memory
      (lines_waiting start.settings.v (last_carriers (carriers_at start packets f))) register
      (held_after start.settings (carriers_at start packets f))
  pub follows : Following (stream_from start packets f) (P start.settings - 1) memory register

-- after so many frames
abbrev pub InStep : State → (ℕ → List ℕ) → ℕ → Receiving → Type 0
InStep start packets zero state = Before start packets state
InStep start packets (suc f) state = Behind start packets f state
