-- Frames coded one after the other and received undisturbed.
--     coder_at, carriers_at         the coding state before frame f, and the frame's carriers
--     receiver_at                   the receiving state before them
--     sent_packet                   packet g, counted over all frames
--     sent_from                     the bytes sent from frame f on, dispersed
--     layered, stream_from          all that is sent from frame f on, as one long frame
--     first_given, given_packets    the number of the first packet that call f gives, and how many it gives
--     Packets, Sending, Started     what the packets and the first coding state must be
-- `packets f` are the packets of frame f.
use Rattle.std.specs.Prelude.{◌≡◌, true, List, ℕ, zero, suc, ◌+◌, ◌-◌, ◌*◌, ◌/◌, ◌%◌, ◌<◌, length, get_or}
use Rattle.settings.specs.declared.Settings.{Settings}
use Rattle.settings.specs.Sizes.{P}
use Rattle.rules.specs.Word.{packet_at, sent_word}
use Rattle.rules.specs.Dispersal.{dispersed}
use Rattle.rules.specs.Frame.{Frame}
use Rattle.coding_state.specs.declared.State.{State}
use Rattle.coding_state.specs.State.{good_coding_state}
use Rattle.coding_answers.specs.Coding.{all_begin, carriers_of_frame, coding_state_behind}
use Rattle.receiving_state.specs.declared.State.{State as Receiving}
use Rattle.receiving_state.specs.State.{fresh_receiving_state}
use Rattle.receiving_answers.specs.Receiving.{receiving_state_behind as behind}

unfoldable pub coder_at : State → (ℕ → List ℕ) → ℕ → State
coder_at start packets zero = start
coder_at start packets (suc f) = coding_state_behind (coder_at start packets f) (packets f)

unfoldable pub carriers_at : State → (ℕ → List ℕ) → ℕ → List ℕ
carriers_at start packets f = carriers_of_frame (coder_at start packets f) (packets f)

-- packet g, counted over all frames, of which each has so many
unfoldable pub sent_packet : ℕ → (ℕ → List ℕ) → ℕ → List ℕ
sent_packet count packets g = packet_at (packets (g / count)) (g % count)

-- byte b of what is sent from frame f on: word w of it is word w % P of frame f + w / P
unfoldable pub sent_from : ℕ → (ℕ → List ℕ) → ℕ → ℕ → ℕ
sent_from count packets f b =
    get_or (dispersed (b / 204 % count) (sent_word (packet_at (packets (f + b / 204 / count)) (b / 204 % count))))
    (b % 204) 0

-- a stream of a layer with these settings
abbrev pub layered : Settings → List ℕ → ℕ → List ℕ → (ℕ → ℕ) → Frame
layered settings memory register lines sent =
    record {
      v = settings.v;
      rate = settings.rate;
      memory = memory;
      register = register;
      lines = lines;
      sent = sent;
    }

abbrev pub stream_from : State → (ℕ → List ℕ) → ℕ → Frame
stream_from start packets f =
    layered start.settings (coder_at start packets f).memory (coder_at start packets f).register
    (coder_at start packets f).lines (sent_from (P start.settings) packets f)

unfoldable pub receiver_at : State → (ℕ → List ℕ) → ℕ → Receiving
receiver_at start packets zero = fresh_receiving_state start.settings
receiver_at start packets (suc f) = behind (receiver_at start packets f) (carriers_at start packets f)

-- "the first call .. gives P − 12 packets; each later call .. gives P packets": the number of the first that call f
-- gives
unfoldable pub first_given : ℕ → ℕ → ℕ
first_given count zero = 0
first_given count (suc f) = count * suc f - 12

-- and how many it gives
unfoldable pub given_packets : ℕ → ℕ → ℕ
given_packets count zero = count - 12
given_packets count (suc f) = count

-- "Each packet begins with 47", and is of bytes
pub record Packets (settings : Settings) (packets : ℕ → List ℕ) : Type 0 where
  pub begin : (f : ℕ) → all_begin (P settings) (packets f) ≡ true
  pub bytes : (f k : ℕ) → get_or (packets f) k 0 < 256

-- a good coding state with 360 entries of its lines; its memory, its lines and its register may hold anything else
pub record Sending (start : State) : Type 0 where
  pub good : good_coding_state start ≡ true
  pub lines_long : length start.lines ≡ 360

-- such a state with register 0
pub record Started (start : State) : Type 0 where
  pub sending : Sending start
  pub register_zero : start.register ≡ 0
