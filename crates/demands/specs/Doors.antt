-- Calls of the doors for C in one layer of a record, one after the other, over the lent bytes. Between one of them and
-- the next any calls of the doors in other layers may come: call f is given the area that call f − 1 left, and then
-- those.
--     CodingCalls        `warintaya_code` with the packets of each frame
--     ReceivingCalls     `warintaya_back` with the carriers of each frame
--     CameThrough        what a call of going back has left, of frames that were coded through the other door
use Rattle.std.specs.Prelude.{◌≡◌, List, ℕ, suc, ◌+◌, ◌*◌, ◌<◌, length}
use Rattle.settings.specs.declared.Settings.{Settings}
use Rattle.settings.specs.Sizes.{P, C}
use Rattle.layers.specs.declared.Layer.{Layer}
use Rattle.layers.specs.Record.{Three}
use Rattle.layers.specs.Start.{settings_in, layer_of, starting_record, started_record}
use Rattle.layers.specs.Calls.{Did}
use Rattle.layers.specs.Areas.{area_with}
use Rattle.layers.specs.Rows.{over_bytes, NamedEntry, through_area, Elsewhere}
use Rattle.coding_answers.specs.Layers.{coding_kind}
use Rattle.coding_answers.specs.Entries.{CodingEntry, code, coding_call, coding_lent}
use Rattle.receiving_answers.specs.Receiving.{slot_of}
use Rattle.receiving_answers.specs.Layers.{receiving_kind, handed}
use Rattle.receiving_answers.specs.Entries.{ReceivingEntry, back, receiving_call, receiving_lent}
use Rattle.demands.specs.Frames.{sent_packet, first_given, given_packets}
use Rattle.demands.specs.CameBack.{PacketGiven, most_corrected}

-- `room f` is lent for the carriers of frame f; the numbers are those that the calls answer
pub record CodingCalls (settings : Settings) (name : ℕ) (packets room area carriers : ℕ → List ℕ) (number : ℕ → ℕ)
    : Type 0 where
  pub packets_long : (f : ℕ) → length (packets f) ≡ 188 * P settings
  pub room_long : (f : ℕ) → length (room f) ≡ C settings
  -- before call f
  pub between : ℕ → List (NamedEntry CodingEntry)
  pub elsewhere : (f : ℕ) → Elsewhere name (between f)
  pub call : (f : ℕ)
      → Did (over_bytes coding_kind coding_call coding_lent name (code (packets f) (room f)))
      (through_area coding_kind coding_call coding_lent (between f) (area f)) (number f) (area (suc f)) (carriers f)

-- `slots f` is lent for what call f gives, and holds `filled f` behind it; the first area is the one that a start
-- leaves, whatever it held
pub record ReceivingCalls (settings : Settings) (name : ℕ) (carriers slots area filled : ℕ → List ℕ)
    (number given : ℕ → ℕ) : Type 0 where
  pub slots_long : (f : ℕ) → length (slots f) ≡ 189 * P settings
  -- the start is done, of the named layer with these settings, and of the other two with any
  pub layers : Three Layer
  pub starts : starting_record layers ≡ 0
  pub settings_are : settings_in layers.mode (layer_of layers name) ≡ settings
  pub before : List ℕ
  pub before_long : length before ≡ 13681
  pub begun : area 0 ≡ area_with receiving_kind (started_record receiving_kind layers) before
  -- before call f
  pub between : ℕ → List (NamedEntry ReceivingEntry)
  pub elsewhere : (f : ℕ) → Elsewhere name (between f)
  pub call : (f : ℕ)
      → Did (over_bytes receiving_kind receiving_call receiving_lent name (back (carriers f) (slots f)))
      (through_area receiving_kind receiving_call receiving_lent (between f) (area f)) (number f) (area (suc f))
      (handed (filled f) (given f))

-- "the number of bytes corrected, 0 to 8, then the 188 bytes"
pub record CameThrough (settings : Settings) (packets : ℕ → List ℕ) (f coded number given : ℕ) (filled : List ℕ)
    : Type 0 where
  pub coding_done : coded ≡ 0
  pub done : number ≡ 0
  pub given_is : given ≡ given_packets (P settings) f
  pub slots_are : (i : ℕ) → i < given_packets (P settings) f
      → PacketGiven (most_corrected (first_given (P settings) f + i))
      (sent_packet (P settings) packets (first_given (P settings) f + i)) (slot_of filled i)
