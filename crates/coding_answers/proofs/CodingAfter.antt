-- The state after a frame, and the first frame.
--     state_alone                       the state after a frame depends on that frame alone: not on the state before it
--     register_56                       the register after a frame is 56
--     first_byte, first_line            the first frame: zeros come out until what went in arrives
--     first_carriers, next_carriers     two frames one after the other are one stream
use mathlib.Core.Path.{◌≡◌, refl, sym, ap₂, ◌∙◌}
use mathlib.Core.Bool.{true, cond}
use mathlib.Core.List.{List}
use Prim.Native.Nat.{ℕ, ◌+◌, ◌-◌, ◌*◌, ◌/◌, ◌%◌, ◌<◌}
use native.Mathlib.Decide.{dec_lt}
use native.Mathlib.Omega.{arith}
use lib.Dec.{ltb}
use lib.ListN.{get_or}
use borrow.Author.Tests.{lt-ltb, le-ltb}
use Rattle.lists.proofs.Tabs.{get_d_tab}
use Rattle.settings.specs.declared.Settings.{Settings}
use Rattle.settings.specs.Legal.{starting}
use Rattle.settings.specs.Sizes.{P, C}
use Rattle.settings.proofs.LegalSettings.{legal_settings, bits_most}
use Rattle.settings.proofs.Frame.{frame_of_is}
use Rattle.rules.specs.Word.{packet_at, sent_word}
use Rattle.rules.specs.Dispersal.{dispersed}
use Rattle.rules.specs.Bytes.{branch_of, turn_of, waits_there, memory_at_start, stream_byte}
use Rattle.rules.proofs.Words.{sent_sync}
use Rattle.rules.proofs.Stream.{stream_start, stream_late}
use Rattle.rules.specs.Bits.{delay_of, line_bit}
use Rattle.rules.proofs.Shown.{line_start}
use Rattle.rules.specs.Frame.{Frame, carrier_value, sent_byte}
use Rattle.rules.proofs.Alone.{memory_alone, register_alone, lines_alone, register_known}
use Rattle.rules.proofs.Joined.{both, InBlocks, frame_in_blocks, carriers_first, carriers_next}
use Rattle.coding_state.specs.declared.State.{State}
use Rattle.coding_state.specs.State.{fresh_coding_state, good_coding_state}
use Rattle.coding_answers.specs.Coding.{frame_of, carriers_of_frame, coding_state_behind}
use Rattle.coding_state.proofs.Good.{good_legal}

-- ---- what a frame leaves

-- "the memory, register and lines after a frame depend on that frame alone": whatever the state held before
pub state_alone : (state : State) → starting state.settings ≡ 0
    → (memory : List ℕ) (register : ℕ) (lines packets : List ℕ) → coding_state_behind state packets
    ≡ coding_state_behind (record { settings = state.settings; memory = memory; register = register; lines = lines })
    packets
state_alone state e memory register lines packets =
    unfold coding_state_behind frame_of in let sizes = frame_of_is state.settings e in
    let legal = legal_settings state.settings e in
    rw (
      memory_alone (frame_of state packets) memory register lines (P state.settings)
          (omega (arith, sizes.packets_least)),
      register_alone (frame_of state packets) memory register lines (P state.settings) sizes.packets_least,
      lines_alone (frame_of state packets) memory register lines legal.rate (bits_most legal.bits)
          (P state.settings) (C state.settings)
          sizes.packets_least sizes.kept (omega (arith, sizes.carriers_least)),
    ) refl

-- byte 203 of every word sent is 47, and isn't dispersed
sync_stays : (place : ℕ) (word : List ℕ) → get_or (dispersed place word) 203 0 ≡ get_or word 203 0
sync_stays place word = unfold dispersed in get_d_tab 204 _ 203 (omega arith)

sync_sent : (packets : List ℕ) (p : ℕ) → sent_byte packets (204 * p + 203) ≡ 0x47
sync_sent packets p =
    unfold sent_byte in let place : (204 * p + 203) / 204 ≡ p = omega arith in
    let byte : (204 * p + 203) % 204 ≡ 203 = omega arith in
    ap₂ (λ (q j : ℕ). get_or (dispersed q (sent_word (packet_at packets q))) j 0) place byte
    ∙ sync_stays p (sent_word (packet_at packets p)) ∙ sent_sync (packet_at packets p)

pub register_56 : (state : State) → good_coding_state state ≡ true → (packets : List ℕ)
    → (coding_state_behind state packets).register ≡ 56
register_56 state good packets =
    unfold coding_state_behind frame_of in let sizes = frame_of_is state.settings (good_legal state good) in
    register_known (frame_of state packets) (P state.settings) sizes.packets_least
    (sync_sent packets (P state.settings - 12))

-- ---- the first frame

-- "The memory is 1,122 bytes, all zero at the start": zero comes out of a branch until what went in has waited.
pub first_byte : (settings : Settings) (sent : ℕ → ℕ) (b : ℕ)
    → stream_byte waits_there (fresh_coding_state settings).memory sent b
    ≡ cond (ltb (turn_of b) (17 * branch_of b)) 0 (sent (b - 204 * branch_of b))
first_byte settings sent b = unfold fresh_coding_state waits_there in elim (dec_lt (turn_of b) (17 * branch_of b)) [
  | yes h ↦ stream_start waits_there sent b h ∙ sym (rw (lt-ltb (turn_of b) (17 * branch_of b) h) refl)
  | no h ↦ stream_late waits_there memory_at_start sent b (branch_of b) refl (omega arith)
      ∙ sym (rw (le-ltb (turn_of b) (17 * branch_of b) (omega arith)) refl)
]

-- "The lines are empty at the start: bit 0."
pub first_line : (settings : Settings) (kept : ℕ → ℕ) (k l : ℕ) → k < delay_of settings.v l
    → line_bit settings.v (fresh_coding_state settings).lines kept k l ≡ 0
first_line settings kept k l h = unfold fresh_coding_state in line_start settings.v kept k l h

-- ---- two frames, one after the other

-- "What runs past the frame's end is in the state and comes out in the next frame": the carriers of two frames coded
-- one after the other are those of one long stream of words.
module _ (state : State) (good : good_coding_state state ≡ true) (one two : List ℕ) where
  abbrev stream : Frame
  stream = both (frame_of state one) (P state.settings) (sent_byte two)

  whole : InBlocks state.settings.rate state.settings.v (P state.settings) (C state.settings)
  whole = frame_in_blocks state.settings (legal_settings state.settings (good_legal state good))

  pub first_carriers : (k : ℕ) → k < C state.settings → get_or (carriers_of_frame state one) k 0
      ≡ carrier_value stream k
  first_carriers k lt =
      unfold carriers_of_frame frame_of in get_d_tab (C state.settings) (carrier_value (frame_of state one)) k lt
      ∙ sym (carriers_first (frame_of state one) (P state.settings) (C state.settings) (sent_byte two) whole k lt)

  pub next_carriers : (k : ℕ) → k < C state.settings
      → get_or (carriers_of_frame (coding_state_behind state one) two) k 0 ≡ carrier_value stream (C state.settings + k)
  unfolding carriers_of_frame coding_state_behind frame_of
  next_carriers k lt =
      get_d_tab (C state.settings) (carrier_value (frame_of (coding_state_behind state one) two)) k lt
      ∙ sym (carriers_next (frame_of state one) (P state.settings) (C state.settings) (sent_byte two) whole k)
