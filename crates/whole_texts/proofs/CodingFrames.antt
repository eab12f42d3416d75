-- The lines that `coding` prints for frames of packets.
--     frame_coded       a frame's line prints 00 and the frame's carriers, and the run goes on behind the frame
--     frames_coded      the lines of n frames, one after the other
--     lines_coded       a settings line and the lines of n frames
use mathlib.Core.Path.{◌≡◌, refl, sym, ap, ap₂, ◌∙◌}
use mathlib.Core.Bool.{true}
use mathlib.Core.List.{List, ◌∷◌, ◌++◌}
use Prim.Native.Nat.{ℕ, zero, suc, ◌*◌}
use native.Mathlib.Omega.{arith}
use lib.ListN.{length, length-replicate}
use lib.Seq.{take_all}
use borrow.Author.Tests.{eq-eqb}
use Rattle.lists.specs.Tab.{laid}
use Rattle.settings.specs.declared.Settings.{Settings}
use Rattle.settings.specs.Legal.{starting}
use Rattle.settings.specs.Sizes.{P, C, carriers_of}
use Rattle.hexadecimal.specs.Bytes.{writes}
use Rattle.hexadecimal.proofs.ReadBack.{writes_bytes, read_back}
use Rattle.coding_state.specs.declared.State.{State}
use Rattle.coding_state.specs.State.{fresh_coding_state, started_coding_state}
use Rattle.demands.specs.Frames.{coder_at, carriers_at, Packets, Sending}
use Rattle.demands.proofs.Whole.{coder_settings, code_done, code_leaves}
use Rattle.text_lines.specs.First.{settings_written, settings_begun, small, beginning, right_frame}
use Rattle.text_lines.specs.Answer.{answer_text}
use Rattle.text_lines.proofs.Begins.{first_taken}
use Rattle.coding_lines.specs.declared.Run.{Run}
use Rattle.coding_lines.specs.Lines.{new_coding, coding_ended, coding_frames, coding_frame, blank_carriers, shown_of}
use Rattle.coding_lines.specs.Lines.{coded_text, after_coded, frame_text, after_frame, line_text, run_after}
use Rattle.whole_texts.specs.Programs.{lines_text}
use Rattle.whole_texts.specs.ThereAndBack.{each_from, hexadecimal_line, carriers_printed}
use Rattle.whole_texts.proofs.FirstLines.{first_well, first_small, first_legal, small_packets, small_carriers}
use Rattle.whole_texts.proofs.FirstLines.{first_started}
use Rattle.whole_texts.proofs.CarriersCoded.{carriers_long}

module _ (start : State) (sending : Sending start) (fine : small start.settings ≡ true) (packets : ℕ → List ℕ)
    (given : Packets start.settings packets)
    (long : (f : ℕ) → length (packets f) ≡ 188 * P start.settings) where
  abbrev settings : Settings
  settings = start.settings

  abbrev coder : ℕ → State
  coder f = coder_at start packets f

  abbrev line : ℕ → List ℕ
  line f = hexadecimal_line (packets f)

  -- a frame has C carriers
  carriers_now : (f : ℕ) → carriers_of (coder f).settings ≡ C settings
  carriers_now f = ap carriers_of (coder_settings start sending packets f) ∙ small_carriers settings fine

  -- the carriers before the call
  blank_long : (f : ℕ) → length (blank_carriers (coder f)) ≡ C settings
  blank_long f =
      unfold blank_carriers in length-replicate {A = ℕ} (carriers_of (coder f).settings) 0 ∙ carriers_now f

  is_frame : (f : ℕ) → coding_frame (coder f) (line f) ≡ true
  unfolding right_frame
  is_frame f =
      rw (coder_settings start sending packets f, fine)
      (ap (λ (n : ℕ). writes n (line f)) (ap (λ (n : ℕ). 188 * n) (small_packets settings fine) ∙ sym (long f))
      ∙ writes_bytes (packets f))

  coded : (f : ℕ) → coded_text (coder f) (packets f) ≡ answer_text 0 (carriers_at start packets f)
  unfolding coded_text shown_of
  coded f =
      rw (
        code_done start sending packets given f (blank_carriers (coder f)) (long f) (blank_long f),
        (code_leaves start sending packets given f (blank_carriers (coder f)) (long f) (blank_long f)).0,
      )
      (ap (answer_text 0) (take_all (carriers_of (coder f).settings) (carriers_at start packets f)
      (omega (arith, carriers_long start sending packets f, carriers_now f))))

  pub frame_coded : (f : ℕ)
      → (line_text (coding_frames (coder f)) (line f) ≡ answer_text 0 (carriers_at start packets f))
      × (run_after (coding_frames (coder f)) (line f) ≡ coding_frames (coder (suc f)))
  unfolding line_text run_after coding_frames frame_text after_frame after_coded
  frame_coded f =
      rw (is_frame f, read_back (packets f) (given.bytes f)) (
        coded f,
        ap coding_frames
            (code_leaves start sending packets given f (blank_carriers (coder f)) (long f) (blank_long f)).1,
      )

  pub frames_coded : (n f : ℕ) → lines_text (coding_frames (coder f)) (each_from line f n)
      ≡ laid (each_from (λ k. answer_text 0 (carriers_at start packets k)) f n)
  unfolding lines_text each_from laid
  frames_coded zero f = refl
  frames_coded (suc n) f =
      ap₂ (λ (x y : List ℕ). x ++ y) (frame_coded f).0
      (ap (λ (run : Run). lines_text run (each_from line (suc f) n)) (frame_coded f).1 ∙ frames_coded n (suc f))

module _ (first : List ℕ) (taken : beginning first ≡ 0) where
  started_is : started_coding_state (settings_begun first) ≡ fresh_coding_state (settings_written first)
  unfolding started_coding_state settings_begun
  started_is =
      let settings = settings_written first in
      rw (
        first_well first taken,
        eq-eqb (starting settings) 0 (first_legal settings (first_small first taken)),
      ) refl

  pub lines_coded : (packets : ℕ → List ℕ) → Packets (settings_written first) packets
      → ((f : ℕ) → length (packets f) ≡ 188 * P (settings_written first)) → (n : ℕ)
      → lines_text new_coding (first ∷ each_from (λ f. hexadecimal_line (packets f)) 0 n)
      ≡ carriers_printed first packets n
  unfolding carriers_printed lines_text line_text run_after new_coding fresh_coding_state coder_at
  lines_coded packets given long n =
      let settings = settings_written first in
      let fine = first_small first taken in
      let begun = first_taken first (coding_frames (started_coding_state (settings_begun first)))
      (coding_ended new_coding)
      taken in
      ap₂ (λ (x : List ℕ) (run : Run). x ++ lines_text run (each_from (λ f. hexadecimal_line (packets f)) 0 n))
      (sym begun.0) (sym begun.1 ∙ ap coding_frames started_is)
      ∙ frames_coded (fresh_coding_state settings) (first_started settings fine).sending fine packets given long n 0
