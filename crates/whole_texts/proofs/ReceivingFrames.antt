-- The lines that `receiving` prints for frames of carriers that `coding` made.
--     frame_received       a frame's line prints 00 and the slots of the packets given, and the run goes on behind it
--     frames_received      the lines of n frames, one after the other
--     lines_received       a settings line and the lines of n frames
use mathlib.Core.Path.{◌≡◌, refl, sym, ap, ap₂, ◌∙◌, subst}
use mathlib.Core.Bool.{true}
use mathlib.Core.List.{List, ◌∷◌, ◌++◌}
use Prim.Native.Nat.{ℕ, zero, suc, ◌*◌}
use native.Mathlib.Omega.{arith}
use lib.ListN.{length, take, length-replicate}
use borrow.Author.Tests.{eq-eqb}
use Rattle.lists.specs.Tab.{laid}
use Rattle.settings.specs.declared.Settings.{Settings}
use Rattle.settings.specs.Legal.{starting}
use Rattle.settings.specs.Sizes.{P, packets_of}
use Rattle.hexadecimal.specs.Bytes.{writes}
use Rattle.hexadecimal.proofs.ReadBack.{writes_bytes, read_back}
use Rattle.coding_state.specs.declared.State.{State}
use Rattle.coding_state.specs.State.{fresh_coding_state}
use Rattle.receiving_state.specs.declared.State.{State as Receiving}
use Rattle.receiving_answers.specs.Entry.{Received}
use Rattle.receiving_state.specs.State.{fresh_receiving_state, started_receiving_state}
use Rattle.receiving_answers.specs.Receiving.{receiving_state_behind}
use Rattle.receiving_answers.specs.Entry.{Back}
use Rattle.demands.specs.Frames.{carriers_at, receiver_at, sent_packet, first_given, given_packets}
use Rattle.demands.specs.Frames.{Packets, Sending, Started}
use Rattle.demands.specs.CameBack.{CameBack}
use Rattle.demands.proofs.Whole.{run_goes_on, frames_come_back}
use Rattle.text_lines.specs.First.{settings_written, settings_begun, small, beginning, right_frame}
use Rattle.text_lines.specs.Answer.{answer_text}
use Rattle.text_lines.proofs.Begins.{first_taken}
use Rattle.receiving_lines.specs.declared.Run.{Run}
use Rattle.receiving_lines.specs.Lines.{new_receiving, receiving_ended, receiving_frames, receiving_frame, blank_slots}
use Rattle.receiving_lines.specs.Lines.{LineTold}
use Rattle.whole_texts.specs.Reading.{Prints, no_line, one_more}
use Rattle.whole_texts.specs.ThereAndBack.{each_from, hexadecimal_line, slots_given, slots_printed}
use Rattle.whole_texts.proofs.FirstLines.{first_well, first_small, first_legal, small_packets, small_carriers}
use Rattle.whole_texts.proofs.FirstLines.{first_started}
use Rattle.whole_texts.proofs.CarriersCoded.{carriers_long, carriers_few}
use Rattle.whole_texts.proofs.SlotsGiven.{slots_front, given_most}

module _ (start : State) (started : Started start)
    (fine : small start.settings ≡ true) (packets : ℕ → List ℕ)
    (given : Packets start.settings packets) where
  abbrev settings : Settings
  settings = start.settings

  abbrev sending : Sending start
  sending = started.sending

  abbrev carriers : ℕ → List ℕ
  carriers f = carriers_at start packets f

  abbrev receiver : ℕ → Receiving
  receiver f = receiver_at start packets f

  abbrev line : ℕ → List ℕ
  line f = hexadecimal_line (carriers f)

  receiver_settings : (f : ℕ) → (receiver f).settings ≡ settings
  unfolding receiver_at receiving_state_behind fresh_receiving_state
  receiver_settings zero = refl
  receiver_settings (suc f) = receiver_settings f

  is_frame : (f : ℕ) → receiving_frame (receiver f) (line f) ≡ true
  unfolding right_frame
  is_frame f =
      rw (receiver_settings f, fine)
      (ap (λ (n : ℕ). writes n (line f)) (small_carriers settings fine ∙ sym (carriers_long start sending packets f))
      ∙ writes_bytes (carriers f))

  -- the slots before the call
  blank_long : (f : ℕ) → length (blank_slots (receiver f)) ≡ 189 * P settings
  blank_long f =
      unfold blank_slots in length-replicate {A = ℕ} (189 * packets_of (receiver f).settings) 0
      ∙ ap (λ (n : ℕ). 189 * n) (ap packets_of (receiver_settings f) ∙ small_packets settings fine)

  -- the slots behind it
  module _ (f : ℕ) (r : Received) (slots : List ℕ)
      (back : Back (receiver f) (carriers f) (blank_slots (receiver f)) r slots) where
    came : CameBack start packets f r slots
    came = frames_come_back start started packets given f (blank_slots (receiver f)) (blank_long f) r slots back

    slots_are : take (189 * r.given) slots ≡ slots_given (P settings) packets f
    slots_are =
        unfold slots_given in let long = (back.slots_are (sym back.answer_is ∙ came.done)).long in
        ap (λ (n : ℕ). take (189 * n) slots) came.given_is
        ∙ slots_front slots (λ g. 0 ∷ sent_packet (P settings) packets g) (given_packets (P settings) f)
        (first_given (P settings) f) (omega (arith, long, blank_long f, given_most (P settings) f)) came.slots_are

  pub frame_received : (f : ℕ) (text : List ℕ) (next : Run)
      → LineTold (receiving_frames (receiver f)) (line f) text next
      → (text ≡ answer_text 0 (slots_given (P settings) packets f)) × (next ≡ receiving_frames (receiver (suc f)))
  unfolding receiving_frames
  frame_received f text next told =
      let shown = (told.frame refl).right (is_frame f) in
      let back : Back (receiver f) (carriers f) (blank_slots (receiver f)) shown.received shown.slots =
      subst (λ (l : List ℕ). Back (receiver f) l (blank_slots (receiver f)) shown.received shown.slots)
      (read_back (carriers f) (carriers_few start sending packets f)) shown.back_is in (
        shown.text_is
            ∙ ap₂ answer_text (came f shown.received shown.slots back).done
            (slots_are f shown.received shown.slots back),
        shown.next_is
            ∙ ap receiving_frames (run_goes_on start sending packets f (blank_slots (receiver f)) (blank_long f)
            shown.received shown.slots back),
      )

  pub frames_received : (n f : ℕ) (run : Run) → run ≡ receiving_frames (receiver f) → (printed : List ℕ)
      → Prints LineTold run (each_from line f n) printed
      → printed ≡ laid (each_from (λ k. answer_text 0 (slots_given (P settings) packets k)) f n)
  unfolding each_from laid
  frames_received zero f run is printed (no_line _) = refl
  frames_received (suc n) f run is printed (one_more _ next _ text rest _ told prints) =
      let one = frame_received f text next (subst (λ (r : Run). LineTold r (line f) text next) is told) in
      ap₂ (λ (x y : List ℕ). x ++ y) one.0 (frames_received n (suc f) next one.1 rest prints)

module _ (first : List ℕ) (taken : beginning first ≡ 0) where
  started_is : started_receiving_state (settings_begun first) ≡ fresh_receiving_state (settings_written first)
  unfolding started_receiving_state settings_begun
  started_is =
      let settings = settings_written first in
      rw (
        first_well first taken,
        eq-eqb (starting settings) 0 (first_legal settings (first_small first taken)),
      ) refl

  pub lines_received : (packets : ℕ → List ℕ) → Packets (settings_written first) packets → (n : ℕ) (printed : List ℕ)
      → Prints LineTold new_receiving (first
      ∷ each_from (λ f. hexadecimal_line (carriers_at (fresh_coding_state (settings_written first)) packets f)) 0 n)
      printed
      → printed ≡ slots_printed first packets n
  unfolding new_receiving fresh_coding_state receiver_at slots_printed
  lines_received packets given n printed (one_more _ next _ text rest _ told prints) =
      let settings = settings_written first in
      let fine = first_small first taken in
      let begun = first_taken first (receiving_frames (started_receiving_state (settings_begun first)))
      (receiving_ended new_receiving) taken in
      let one = told.first refl in
      let after : next ≡ receiving_frames (fresh_receiving_state settings) =
      one.1 ∙ sym begun.1 ∙ ap receiving_frames started_is in
      ap (λ (x : List ℕ). x ++ rest) (one.0 ∙ sym begun.0)
      ∙ frames_received (fresh_coding_state settings) (first_started settings fine)
      fine packets given n 0 next after rest prints
