-- What a call of `back` leaves when the frame came undisturbed.
--     PacketGiven        a slot gives a packet, with at most so many bytes corrected
--     CameBack           the call is done, the packets are those sent, and the receiver stays in step
--     most_corrected     how many bytes may be corrected in packet g by a receiver that joins
--     CameBackJoining    the call is done, and the packets are those sent
use Rattle.std.specs.Prelude.{◌≡◌, List, ◌∷◌, ℕ, zero, suc, ◌+◌, ◌≤◌, ◌<◌}
use Rattle.settings.specs.Answers.{number_of}
use Rattle.settings.specs.Sizes.{P}
use Rattle.coding_state.specs.declared.State.{State}
use Rattle.receiving_answers.specs.Entry.{Received}
use Rattle.receiving_answers.specs.Receiving.{slot_of}
use Rattle.demands.specs.Frames.{sent_packet, first_given, given_packets}
use Rattle.demands.specs.InStep.{InStep}

-- "the number of bytes corrected .. then the 188 bytes"
pub record PacketGiven (most : ℕ) (packet slot : List ℕ) : Type 0 where
  pub corrected : ℕ
  pub few : corrected ≤ most
  pub slot_is : slot ≡ corrected ∷ packet

-- after the call with frame f; "the number of bytes corrected .. then the 188 bytes"
pub record CameBack (start : State) (packets : ℕ → List ℕ) (f : ℕ) (r : Received) (slots : List ℕ) : Type 0 where
  pub done : number_of r.answer ≡ 0
  pub given_is : r.given ≡ given_packets (P start.settings) f
  pub in_step : InStep start packets (suc f) r.state
  pub slots_are : (i : ℕ) → i < given_packets (P start.settings) f
      → slot_of slots i ≡ 0 ∷ sent_packet (P start.settings) packets (first_given (P start.settings) f + i)

-- A fresh receiver begins with register 0, whatever the coder's was, so that the first bits of the first word may come
-- out wrong: of the words sent since then they are of byte 0 of the first one alone.
abbrev pub most_corrected : ℕ → ℕ
most_corrected zero = 1
most_corrected (suc g) = 0

-- after the call with frame f
pub record CameBackJoining (start : State) (packets : ℕ → List ℕ) (f : ℕ) (r : Received) (slots : List ℕ)
    : Type 0 where
  pub done : number_of r.answer ≡ 0
  pub given_is : r.given ≡ given_packets (P start.settings) f
  pub slots_are : (i : ℕ) → i < given_packets (P start.settings) f
      → PacketGiven (most_corrected (first_given (P start.settings) f + i))
      (sent_packet (P start.settings) packets (first_given (P start.settings) f + i)) (slot_of slots i)
