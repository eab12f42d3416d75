-- The programs there and back: what `coding` prints for n frames of packets, given to `receiving`, prints the packets.
-- `first` is a settings line that the programs take.
--     coding_prints                what `coding` prints for the frames: 00 and the carriers of each
--     receiving_prints             what `receiving` prints for these lines without their numbers: 00 and the packets
--     there_and_back               what `receiving` prints for what `coding` printed
--     it_is_printed                and that it prints this
--     there_and_back_in_pieces     the same, in whatever pieces both texts come
--     there_and_back_by_loops      the same, by the calls of the loop
use mathlib.Core.Path.{◌≡◌, sym, ap, ◌∙◌, subst}
use mathlib.Core.List.{List, [], ◌∷◌, append-nil}
use Prim.Native.Nat.{ℕ, ◌*◌, ◌<◌}
use native.Mathlib.Omega.{arith}
use lib.ListN.{length}
use Rattle.lists.specs.Tab.{laid}
use Rattle.settings.specs.declared.Settings.{Settings}
use Rattle.settings.specs.Sizes.{P}
use Rattle.settings.proofs.Frame.{frame_of_is}
use Rattle.coding_state.specs.State.{fresh_coding_state}
use Rattle.demands.specs.Frames.{carriers_at, Packets}
use Rattle.text_lines.specs.Lines.{lines_of}
use Rattle.text_lines.specs.First.{well_formed, settings_written, beginning}
use Rattle.text_lines.specs.Answer.{answer_text}
use Rattle.receiving_lines.specs.Lines.{LineTold, new_receiving}
use Rattle.whole_texts.specs.Reading.{joined, Prints}
use Rattle.whole_texts.specs.Programs.{lines_text, coding_text, CodingReads, CodingLoop}
use Rattle.whole_texts.specs.Programs.{ReceivingPrints, ReceivingReads, ReceivingLoop}
use Rattle.whole_texts.specs.ThereAndBack.{each_from, text_of, hexadecimal_line, FramesOfPackets, packets_text}
use Rattle.whole_texts.specs.ThereAndBack.{carriers_printed, carriers_text, slots_given, slots_printed}
use Rattle.whole_texts.proofs.Programs.{coding_in_pieces, coding_loop}
use Rattle.whole_texts.proofs.Programs.{receiving_in_pieces, receiving_loop, receiving_reads_all}
use Rattle.whole_texts.proofs.TextLines.{NoFeeds, line_laid, lines_of_text, digits_no_feed, lines_no_feed}
use Rattle.whole_texts.proofs.TextLines.{numbers_off}
use Rattle.whole_texts.proofs.FirstLines.{first_well, first_small, first_legal}
use Rattle.whole_texts.proofs.CodingFrames.{lines_coded}
use Rattle.whole_texts.proofs.ReceivingFrames.{lines_received}
use Rattle.whole_texts.proofs.SomeFrames.{each_same, with_empty_frames, same_frame, all_long, all_right}
use Rattle.whole_texts.proofs.SomeFrames.{same_carriers, same_slots}

-- where every frame of the row is such as a coder takes
module _ (first : List ℕ) (taken : beginning first ≡ 0) (packets : ℕ → List ℕ)
    (given : Packets (settings_written first) packets)
    (long : (f : ℕ) → length (packets f) ≡ 188 * P (settings_written first)) (n : ℕ) where
  abbrev carriers : ℕ → List ℕ
  carriers f = carriers_at (fresh_coding_state (settings_written first)) packets f

  -- a settings line and lines in hexadecimal have no line feed
  no_feeds : (row : ℕ → List ℕ) → NoFeeds (first ∷ each_from (λ f. hexadecimal_line (row f)) 0 n)
  no_feeds row =
      line_laid first _ (digits_no_feed 4 first (unfold well_formed in first_well first taken)) (lines_no_feed row n 0)

  every_frame_coded : coding_text (packets_text first packets n) ≡ carriers_printed first packets n
  unfolding coding_text packets_text
  every_frame_coded =
      ap (lines_text _) (lines_of_text _ (no_feeds packets)) ∙ lines_coded first taken packets given long n

  carrier_lines : lines_of (carriers_text first (carriers_printed first packets n))
      ≡ first ∷ each_from (λ f. hexadecimal_line (carriers f)) 0 n
  unfolding carriers_text carriers_printed
  carrier_lines =
      ap (λ (lines : List (List ℕ)). lines_of (text_of (first ∷ lines))) (numbers_off carriers n 0)
      ∙ lines_of_text _ (no_feeds carriers)

  every_frame_back : (printed : List ℕ)
      → ReceivingPrints (carriers_text first (carriers_printed first packets n)) printed
      → printed ≡ slots_printed first packets n
  every_frame_back printed prints =
      lines_received first taken packets given n printed
      (subst (λ (lines : List (List ℕ)). Prints LineTold new_receiving lines printed) carrier_lines prints)

module _ (first : List ℕ) (taken : beginning first ≡ 0) (packets : ℕ → List ℕ) (n : ℕ)
    (frames : FramesOfPackets (settings_written first) packets n) where
  abbrev settings : Settings
  settings = settings_written first

  -- the packets of the n frames, and empty ones behind them
  abbrev row : ℕ → List ℕ
  row = with_empty_frames settings packets n

  some : 0 < P settings
  some = omega (arith, (frame_of_is settings (first_legal settings (first_small first taken))).packets_least)

  same_text : packets_text first row n ≡ packets_text first packets n
  same_text =
      unfold packets_text in ap (λ (lines : List (List ℕ)). text_of (first ∷ lines))
      (each_same (λ f. hexadecimal_line (row f)) (λ f. hexadecimal_line (packets f)) n 0
      (λ f least most. ap hexadecimal_line (same_frame settings packets n f (omega arith))))

  same_printed : carriers_printed first row n ≡ carriers_printed first packets n
  same_printed =
      unfold carriers_printed in let start = fresh_coding_state settings in
      ap laid (each_same (λ f. answer_text 0 (carriers_at start row f))
      (λ f. answer_text 0 (carriers_at start packets f)) n 0
      (λ f least most. ap (answer_text 0) (same_carriers settings packets n start f (omega arith))))

  same_slots_printed : slots_printed first row n ≡ slots_printed first packets n
  same_slots_printed =
      unfold slots_printed in
      ap laid (each_same (λ f. answer_text 0 (slots_given (P settings) row f))
      (λ f. answer_text 0 (slots_given (P settings) packets f)) n 0
      (λ f least most. ap (answer_text 0) (same_slots settings packets n some f (omega arith))))

  pub coding_prints : coding_text (packets_text first packets n) ≡ carriers_printed first packets n
  coding_prints =
      ap coding_text (sym same_text)
      ∙ every_frame_coded first taken row (all_right settings packets n frames)
      (all_long settings packets n frames) n
      ∙ same_printed

  pub receiving_prints : (printed : List ℕ)
      → ReceivingPrints (carriers_text first (carriers_printed first packets n)) printed
      → printed ≡ slots_printed first packets n
  receiving_prints printed prints =
      every_frame_back first taken row (all_right settings packets n frames)
      (all_long settings packets n frames) n printed
      (subst (λ (text : List ℕ). ReceivingPrints (carriers_text first text) printed) (sym same_printed) prints)
      ∙ same_slots_printed

  -- What `coding` prints for n frames of packets, given to `receiving` without the numbers, prints the packets.
  pub there_and_back : (printed : List ℕ)
      → ReceivingPrints (carriers_text first (coding_text (packets_text first packets n))) printed
      → printed ≡ slots_printed first packets n
  there_and_back printed prints =
      receiving_prints printed
      (subst (λ (text : List ℕ). ReceivingPrints (carriers_text first text) printed) coding_prints prints)

  pub it_is_printed : ReceivingPrints (carriers_text first (coding_text (packets_text first packets n)))
      (slots_printed first packets n)
  unfolding joined
  it_is_printed =
      let text = carriers_text first (coding_text (packets_text first packets n)) in
      let all = receiving_reads_all (text ∷ []) in
      let prints : ReceivingPrints text all.text =
      subst (λ (whole : List ℕ). ReceivingPrints whole all.text) (append-nil text)
      (receiving_in_pieces (text ∷ []) all.text all.reads) in
      subst (λ (printed : List ℕ). ReceivingPrints text printed) (there_and_back all.text prints) prints

  -- where `coding` printed what it prints for the frames, and `receiving` what it prints for that
  as_printed : (text coded : List ℕ) → text ≡ packets_text first packets n → coded ≡ coding_text text
      → (lines printed : List ℕ) → lines ≡ carriers_text first coded → ReceivingPrints lines printed
      → printed ≡ slots_printed first packets n
  as_printed text coded is prints lines printed are received =
      there_and_back printed
      (subst (λ (l : List ℕ). ReceivingPrints l printed)
      (are ∙ ap (carriers_text first) (prints ∙ ap coding_text is)) received)

  pub there_and_back_in_pieces : (pieces : List (List ℕ)) → joined pieces ≡ packets_text first packets n
      → (coded : List ℕ) → CodingReads pieces coded
      → (others : List (List ℕ)) → joined others ≡ carriers_text first coded
      → (printed : List ℕ) → ReceivingReads others printed → printed ≡ slots_printed first packets n
  there_and_back_in_pieces pieces are coded reads others lines printed received =
      as_printed (joined pieces) coded are (coding_in_pieces pieces coded reads) (joined others) printed lines
      (receiving_in_pieces others printed received)

  -- from whatever stands in the areas of both programs at the start
  pub there_and_back_by_loops : (text line : List ℕ) (pieces : List (List ℕ))
      → joined pieces ≡ packets_text first packets n
      → (coded : List ℕ) → CodingLoop text line pieces coded
      → (text₁ line₁ : List ℕ) (others : List (List ℕ)) → joined others ≡ carriers_text first coded
      → (printed : List ℕ) → ReceivingLoop text₁ line₁ others printed → printed ≡ slots_printed first packets n
  there_and_back_by_loops text line pieces are coded loop text₁ line₁ others lines printed received =
      as_printed (joined pieces) coded are (coding_loop text line pieces coded loop) (joined others) printed lines
      (receiving_loop text₁ line₁ others printed received)
