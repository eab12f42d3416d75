-- A frame from its first word to its last.
--     stream_opened, Opened, run_opened     what holds before the first word, of the stream and of the run
--     CarriersAt, carriers_step             the carriers so far, and after one more word
--     register_closed, lines_closed         what the state holds after the frame
use mathlib.Core.Path.{◌≡◌, refl, sym, ap, ap₂, ◌∙◌, subst}
use mathlib.Core.List.{List}
use mathlib.Core.Logic.{inl}
use Prim.Native.Nat.{ℕ, suc, ◌+◌, ◌-◌, ◌*◌, ◌/◌, ◌%◌, ◌^◌, ◌<◌, ◌≤◌}
use native.Mathlib.Nat.{zero-mod, zero-div}
use native.Mathlib.Decide.{dec_lt}
use native.Mathlib.Omega.{arith}
use lib.ListN.{length, get_or}
use Rattle.lists.proofs.Binaries.{binary_cong}
use Rattle.settings.specs.Sizes.{packets_by_rate}
use Rattle.settings.proofs.LegalSettings.{LegalBits}
use Rattle.rules.specs.Bytes.{waits_there}
use Rattle.rules.proofs.Ways.{there_fits}
use Rattle.rules.proofs.Memory.{memory_none}
use Rattle.rules.specs.Code.{bit_back, register_after}
use Rattle.convolutional_code.specs.CodeTable.{turned}
use Rattle.rules.proofs.CodeWindows.{back_register, back_shift}
use Rattle.convolutional_code.proofs.Turning.{turned_digit}
use Rattle.rules.proofs.Kept.{kept_lt}
use Rattle.bit_interleaver.specs.Symbols.{placed, written, symbol_at, history_of, entries_of}
use Rattle.bit_interleaver.proofs.Joining.{history_joined, entries_joined, carrier_joined}
use Rattle.bit_interleaver.proofs.WidthsMade.{v_legal}
use Rattle.bit_interleaver.proofs.Writing.{place_writes, written_carrier, written_stays, length_written}
use Rattle.word_coder.specs.declared.Run.{Run}
use Rattle.rules.proofs.Counts.{per_block, whole_blocks}
use Rattle.dispersing_interleaver.specs.Stream.{stream_bit}
use Rattle.dispersing_interleaver.proofs.Streams.{StreamAt}
use Rattle.rules.specs.Frame.{Frame, message_bit, kept_bit_of, carrier_value, memory_behind, register_behind, lines_behind}
use Rattle.word_coder.proofs.Runs.{RunAt}

-- the run before the first word
pub record Opened (frame : Frame) (run : Run) : Type 0 where
  pub left_is : run.left ≡ 0
  pub history_is : run.history ≡ history_of frame.v frame.lines

-- of `size` carriers the first n are written
pub record CarriersAt (frame : Frame) (size n : ℕ) (carriers : List ℕ) : Type 0 where
  pub long : length carriers ≡ size
  pub done : (k : ℕ) → k < n → get_or carriers k 0 ≡ carrier_value frame k

-- ---- the stream

module _ (frame : Frame) where
  -- the register, as the last bits before the message
  past_opened : (stream : List ℕ) → get_or stream 207 0 ≡ turned 6 frame.register
      → (i : ℕ) → i < 32 → 26 ≤ 1632 * 0 + i
      → stream_bit stream (1632 + i) ≡ bit_back frame.register (message_bit frame) (1632 * 0 + i - 26) 6
  past_opened stream e i lt begun =
      unfold stream_bit in let byte : (1632 + i) / 8 ≡ 207 = omega arith in
      let bit : 7 - (1632 + i) % 8 ≡ 6 - 1 - (1632 * 0 + i - 26) = omega arith in
      let back : 6 - (6 - (1632 * 0 + i - 26)) ≡ 1632 * 0 + i - 26 = omega arith in
      rw (byte, bit, e) (turned_digit 6 frame.register (1632 * 0 + i - 26) (omega arith))
      ∙ ap (λ (e : ℕ). frame.register / 2 ^ e % 2) (sym back)
      ∙ sym (back_register frame.register (message_bit frame) (1632 * 0 + i - 26) 6 (omega arith))

  pub stream_opened : length frame.memory ≡ 1122 → (stream : List ℕ)
      → get_or stream 207 0 ≡ turned 6 frame.register → StreamAt frame 0 frame.memory stream
  unfolding memory_behind
  stream_opened long stream e =
      record {
        memory_is = memory_none waits_there there_fits frame.memory frame.sent long;
        past_is = past_opened stream e;
      }

  pub register_closed : (p : ℕ) (memory stream : List ℕ) → StreamAt frame p memory stream
      → turned 6 (get_or stream 207 0) ≡ register_behind frame p
  unfolding turned register_behind register_after stream_bit
  register_closed p memory stream at = binary_cong 6 (λ k. get_or stream 207 0 / 2 ^ k % 2)
      (λ k. bit_back frame.register (message_bit frame) (1632 * p) (suc k)) bit
    where
      bit : (k : ℕ) → k < 6
          → get_or stream 207 0 / 2 ^ k % 2 ≡ bit_back frame.register (message_bit frame) (1632 * p) (suc k)
      bit k lt =
          let byte : 207 ≡ (1632 + (31 - k)) / 8 = omega arith in
          let below : k ≡ 7 - (1632 + (31 - k)) % 8 = omega arith in
          let place : 1632 * p + (31 - k) - 26 ≡ 1632 * p + (5 - k) = omega arith in
          let six : 6 ≡ suc k + (5 - k) = omega arith in
          ap₂ (λ (b e : ℕ). get_or stream b 0 / 2 ^ e % 2) byte below
          ∙ at.past_is (31 - k) (omega arith) (omega arith)
          ∙ ap₂ (bit_back frame.register (message_bit frame)) place six
          ∙ back_shift frame.register (message_bit frame) (1632 * p) (suc k) (5 - k)

-- ---- the run, and the carriers

module _ (frame : Frame) (bits-legal : LegalBits frame.v) (entries : (k : ℕ) → get_or frame.lines k 0 < 2) where
  kept_bit : (c : ℕ) → kept_bit_of frame c < 2
  kept_bit c = unfold kept_bit_of in kept_lt frame.rate frame.register (message_bit frame) c

  -- ---- before the first word

  pub run_opened : (run : Run) → Opened frame run → RunAt frame 0 run
  run_opened run opened =
      record {
        left_is = opened.left_is ∙ sym (no_left (packets_by_rate frame.rate));
        history_is = λ i lt.
            ap (λ (l : List ℕ). get_or l i 0) opened.history_is
            ∙ history_joined frame.v frame.lines (kept_bit_of frame) entries kept_bit (v_legal bits-legal) i lt
            ∙ ap (symbol_at frame.v frame.lines (kept_bit_of frame))
            (sym (no_blocks (per_block frame.v) (packets_by_rate frame.rate) i));
      }
    where
      no_left : (size : ℕ) → 1632 * 0 % size ≡ 0
      no_left size = zero-mod size

      no_blocks : (per size i : ℕ) → per * (1632 * 0 / size) + i ≡ i
      no_blocks per size i = ap (λ (n : ℕ). per * n + i) (zero-div size) ∙ omega arith

  -- ---- a word more of the carriers

  pub carriers_step : {size n : ℕ} {carriers : List ℕ} → CarriersAt frame size n carriers
      → (symbols : List ℕ) (count : ℕ)
      → ((i : ℕ) → i < 120 + count → get_or symbols i 0 ≡ symbol_at frame.v frame.lines (kept_bit_of frame) (n + i))
      → count ≤ 1640 → n + count ≤ size
      → (after : List ℕ) → after ≡ placed frame.v symbols n count carriers → CarriersAt frame size (n + count) after
  unfolding carrier_value
  carriers_step {size} {n} {carriers} at symbols count are few inside after e =
      let room : n + count ≤ length carriers = rw at.long inside in
      let same =
      e ∙ sym (place_writes frame.v n count carriers symbols frame.v refl (v_legal bits-legal) few room) in
      subst (CarriersAt frame size (n + count)) (sym same)
      (record {
        long = length_written (λ old new. new) frame.v symbols n count carriers ∙ at.long;
        done = λ k lt. elim (dec_lt k n) [
          | yes h ↦
              written_stays (λ old new. new) frame.v symbols n count carriers k (omega (arith, room)) (inl h)
              ∙ at.done k h
          | no h ↦
              let place : n + (k - n) ≡ k = omega arith in
              ap (λ (j : ℕ). get_or (written (λ old new. new) frame.v symbols n count carriers) j 0) (sym place)
              ∙ written_carrier (λ old new. new) frame.v symbols n count carriers room (k - n) (omega arith)
              ∙ carrier_joined frame.v frame.lines (kept_bit_of frame) entries kept_bit symbols n count are
              (k - n) (omega arith) ∙ ap (carrier_value frame) place
        ];
      })

  -- ---- behind the last word

  pub lines_closed : (p : ℕ) (run : Run) → RunAt frame p run → (carriers : ℕ)
      → per_block frame.v * whole_blocks (packets_by_rate frame.rate) p ≡ carriers
      → entries_of frame.v run.history ≡ lines_behind frame carriers
  unfolding lines_behind
  lines_closed p run at carriers e =
      entries_joined frame.v frame.lines (kept_bit_of frame) entries kept_bit (v_legal bits-legal) carriers
      run.history (λ i lt. at.history_is i lt
      ∙ ap (λ (n : ℕ). symbol_at frame.v frame.lines (kept_bit_of frame) (n + i)) e)
