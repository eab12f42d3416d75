-- The carriers of frames coded one after the other.
--     carriers_long     C carriers in each frame
--     carriers_few      each of them one byte
use mathlib.Core.Path.{◌≡◌, ap, ◌∙◌}
use mathlib.Core.List.{List}
use Prim.Native.Nat.{ℕ, ◌^◌, ◌<◌, ◌≤◌}
use native.Mathlib.Omega.{arith}
use lib.ListN.{length, get_or}
use Rattle.lists.proofs.Tabs.{length_tab, tab_lt}
use Rattle.settings.specs.declared.Settings.{Settings}
use Rattle.settings.specs.Sizes.{C}
use Rattle.settings.proofs.LegalSettings.{LegalBits, qpsk, qam16, qam64}
use Rattle.settings.proofs.Frame.{frame_of_is}
use Rattle.rules.specs.Frame.{carrier_value}
use Rattle.rules.proofs.Added.{carrier_bound}
use Rattle.coding_state.specs.declared.State.{State}
use Rattle.coding_state.proofs.Good.{given_of_is, good_legal}
use Rattle.coding_answers.specs.Coding.{frame_of, carriers_of_frame}
use Rattle.demands.specs.Frames.{coder_at, carriers_at, Sending}
use Rattle.demands.proofs.Streams.{lines_hold}
use Rattle.demands.proofs.Whole.{coder_settings}

-- "A carrier value is one byte below 2^v"
byte_large : {v : ℕ} → LegalBits v → 2 ^ v ≤ 256
byte_large qpsk = omega arith
byte_large qam16 = omega arith
byte_large qam64 = omega arith

module _ (start : State) (sending : Sending start) (packets : ℕ → List ℕ) where
  abbrev coder : ℕ → State
  coder f = coder_at start packets f

  settings_stay : (f : ℕ) → (coder f).settings ≡ start.settings
  settings_stay = coder_settings start sending packets

  pub carriers_long : (f : ℕ) → length (carriers_at start packets f) ≡ C start.settings
  carriers_long f =
      unfold carriers_at carriers_of_frame in length_tab (C (coder f).settings) _ ∙ ap C (settings_stay f)

  value_few : (f k : ℕ) → carrier_value (frame_of (coder f) (packets f)) k < 256
  value_few f k =
      unfold frame_of in let known = given_of_is start sending.good in
      let sizes = frame_of_is start.settings (good_legal start sending.good) in
      let entries = lines_hold start packets known.legal sizes known.entries f in
      let below = carrier_bound (frame_of (coder f) (packets f)) entries k in
      let most = byte_large known.legal.bits in
      omega (arith, below, most, ap (λ (s : Settings). 2 ^ s.v) (settings_stay f))

  pub carriers_few : (f k : ℕ) → get_or (carriers_at start packets f) k 0 < 256
  carriers_few f k =
      unfold carriers_at carriers_of_frame in
      tab_lt (C (coder f).settings) (carrier_value (frame_of (coder f) (packets f))) 256 (omega arith) (value_few f) k
