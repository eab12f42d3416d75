-- "The list": the carriers that a replacement may alter.
--     Reached     by one byte of the frame's stream
--     Listed      by any byte in which the two words differ
-- `outside_stays` in proofs/Outside.antt: no other carrier alters.
use Rattle.std.specs.Prelude.{◌≡◌, List, ℕ, suc, ◌+◌, ◌*◌, ◌<◌, ◌≤◌, ◌/◌, get_or, length}
use Rattle.settings.specs.declared.Settings.{Settings}
use Rattle.settings.specs.Sizes.{P}
use Rattle.settings.specs.Patterns.{kept_below}
use Rattle.rules.specs.Bytes.{waits_there, comes_out_at}
use Rattle.rules.specs.Bits.{carrier_of}
use Rattle.rules.specs.Word.{sent_word}

-- ".. differing only in that packet": each of a frame's packets is 188 bytes
pub record DifferOnlyIn (number : ℕ) (packets packets' : List ℕ) : Type 0 where
  pub long : length packets' ≡ length packets
  pub alike : (k : ℕ) → k < length packets → (k / 188 ≡ number → ⊥) → get_or packets k 0 ≡ get_or packets' k 0

pub record Reached (settings : Settings) (b carrier : ℕ) : Type 0 where
  -- "message bits 8b to 8b+13, as far as they lie in the frame"
  pub message : ℕ
  pub first : 8 * b ≤ message
  pub last : message ≤ 8 * b + 13
  pub inside : message < 1632 * P settings
  -- "their kept bits": as many are kept of the message bits before it, and these are the next
  pub kept : ℕ
  pub kept_first : kept_below settings.rate message ≤ kept
  pub kept_last : kept < kept_below settings.rate (suc message)
  -- "the carriers of these by rule 6"
  pub carrier_is : carrier_of settings.v kept ≡ carrier

pub record Listed (settings : Settings) (number : ℕ) (old new : List ℕ) (carrier : ℕ) : Type 0 where
  -- "For each byte of 0 to 202 in which the two words differ"; "Parity bytes count."
  pub byte : ℕ
  pub few : byte ≤ 202
  pub differs : get_or (sent_word old) byte 0 ≡ get_or (sent_word new) byte 0 → ⊥
  -- "with b its place in the frame's stream by rule 3"
  pub reached : Reached settings (comes_out_at waits_there (204 * number + byte)) carrier
