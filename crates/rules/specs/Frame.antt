-- Rules 1 to 6 over a whole frame, by index: what of the carriers and of the state is which bit of what went in.
--     sent_byte     rules 1 and 2: byte b of the frame's words, dispersed
--     Frame     a frame to be coded
--     message_bit     rule 3: the message bits are those of the bytes that come out of the byte interleaver
--     kept_bit_of     rules 4 and 5: the kept bits
--     carrier_value     rule 6: the carriers
--     memory_behind, register_behind, lines_behind     "What runs past the frame's end is in the state"
use Rattle.std.specs.Prelude.{List, ℕ, ◌/◌, ◌%◌, ◌*◌, get_or}
use Rattle.lists.specs.Binary.{bit_of}
use Rattle.rules.specs.Word.{packet_at, sent_word}
use Rattle.rules.specs.Dispersal.{dispersed}
use Rattle.rules.specs.Bytes.{waits_there, stream_byte, memory_after}
use Rattle.rules.specs.Code.{register_after}
use Rattle.rules.specs.Puncturing.{kept_bit}
use Rattle.rules.specs.Bits.{carrier_at, lines_after}

-- byte j of word p is byte 204 × p + j
unfoldable pub sent_byte : List ℕ → ℕ → ℕ
sent_byte packets b = get_or (dispersed (b / 204) (sent_word (packet_at packets (b / 204)))) (b % 204) 0

-- the layer's v and rate, what the state holds before the frame, and byte b of the frame's words, dispersed: byte j
-- of word p is byte 204 × p + j
pub record Frame : Type 0 where
  pub v : ℕ
  pub rate : ℕ
  pub memory : List ℕ
  pub register : ℕ
  pub lines : List ℕ
  pub sent : ℕ → ℕ

-- "Message bits: highest of a byte first."
unfoldable pub message_bit : Frame → ℕ → ℕ
message_bit frame n = bit_of 8 (stream_byte waits_there frame.memory frame.sent (n / 8)) (n % 8)

unfoldable pub kept_bit_of : Frame → ℕ → ℕ
kept_bit_of frame = kept_bit frame.rate frame.register (message_bit frame)

unfoldable pub carrier_value : Frame → ℕ → ℕ
carrier_value frame = carrier_at frame.v frame.lines (kept_bit_of frame)

-- after so many words: the bytes, and the register
unfoldable pub memory_behind : Frame → ℕ → List ℕ
memory_behind frame words = memory_after waits_there frame.memory frame.sent words

unfoldable pub register_behind : Frame → ℕ → ℕ
register_behind frame words = register_after frame.register (message_bit frame) (1632 * words)

-- after so many carriers: the entries of the lines
unfoldable pub lines_behind : Frame → ℕ → List ℕ
lines_behind frame carriers = lines_after frame.v frame.lines (kept_bit_of frame) carriers
