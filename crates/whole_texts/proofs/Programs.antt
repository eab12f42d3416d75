-- What the programs print for a text that comes in pieces, of whatever lengths, is what document 01 says of the text.
--     frames_in_pieces, coding_in_pieces, receiving_in_pieces     what the turns print, in a row
--     frames_loop, coding_loop, receiving_loop                    the same of the calls of the loop
--     frames_reads_all, coding_reads_all, receiving_reads_all     each text is printed so
--     receiving_unique                                            any two texts that `receiving` may print for a text
--                                                                 are equal
use mathlib.Core.Path.{◌≡◌, refl, sym, ap, ap₂, ◌∙◌, subst}
use mathlib.Core.Bool.{true, false≢true}
use mathlib.Core.List.{List, [], ◌∷◌, ◌++◌}
use Prim.Native.Nat.{ℕ}
use native.Mathlib.Omega.{arith}
use lib.ListN.{take}
use Rattle.text_lines.specs.Lines.{lines_of}
use Rattle.text_lines.specs.declared.Awaits.{Awaits}
use Rattle.text_lines.specs.declared.Awaits.TheVariants.{FirstLine, Frames, Nothing}
use Rattle.text_lines.specs.Awaiting.{over}
use Rattle.text_lines.specs.Reading.{new_reading}
use Rattle.settings_lines.specs.Lines.{answer_to, answers_to, answers}
use Rattle.settings_lines.specs.declared.NoRun.{NoRun}
use Rattle.settings_lines.specs.Turns.{no_run, FramesTells, frames_over, frames_room, frames_answer_room}
use Rattle.settings_lines.specs.Laws.{room_is as frames-room}
use Rattle.settings_lines.proofs.Capped.{answer_capped}
use Rattle.coding_lines.specs.declared.Run.{Run as CodingRun}
use Rattle.coding_lines.specs.Lines.{line_text, run_after, new_coding}
use Rattle.coding_lines.specs.Turns.{CodingTells, coding_over, coding_room, coding_answer_room}
use Rattle.coding_lines.specs.Laws.{room_is as coding-room}
use Rattle.coding_lines.proofs.Runs.{line_capped as coding-capped}
use Rattle.receiving_lines.specs.declared.Run.{Run as ReceivingRun}
use Rattle.receiving_lines.specs.Lines.{LineTold, new_receiving}
use Rattle.receiving_lines.specs.Turns.{receiving_over, receiving_room, receiving_answer_room}
use Rattle.receiving_lines.specs.Laws.{room_is as receiving-room}
use Rattle.receiving_lines.proofs.Runs.{line_capped as receiving-capped}
use Rattle.receiving_lines.proofs.Exists.{line_told}
use Rattle.receiving_lines.proofs.Unique.{line_unique}
use Rattle.whole_texts.specs.Reading.{joined, Prints, no_line, one_more}
use Rattle.whole_texts.specs.Programs.{FramesReads, FramesLoop, lines_text, coding_text, CodingReads, CodingLoop}
use Rattle.whole_texts.specs.Programs.{ReceivingPrints, ReceivingReads, ReceivingLoop}
use Rattle.whole_texts.proofs.Reading.{none_held, reads_print}
use Rattle.whole_texts.proofs.Printing.{Printed, reads_all}
use Rattle.whole_texts.proofs.Loop.{nothing_left, loop_reads}

frames_printed : (lines : List (List ℕ)) (run : NoRun) (text : List ℕ) → Prints FramesTells run lines text
    → text ≡ answers_to lines
unfolding answers_to
frames_printed [] run text (no_line _) = refl
frames_printed (line ∷ lines) run text (one_more _ next _ one rest _ told more) =
    ap₂ (λ (x y : List ℕ). x ++ y) told.0 (frames_printed lines next rest more)

-- The turns of `frames` in a row, over the pieces that a text comes in, print what document 01 says of the text.
pub frames_in_pieces : (pieces : List (List ℕ)) (text : List ℕ) → FramesReads pieces text
    → text ≡ answers (joined pieces)
frames_in_pieces pieces text reads =
    unfold answers in frames_printed (lines_of (joined pieces)) no_run text
    (reads_print frames_over FramesTells frames_room (omega (arith, frames-room))
    (λ (run next : NoRun) (line t : List ℕ) (told : FramesTells run (take frames_room line) t next).
    (told.0 ∙ answer_capped line, told.1))
    (λ (run : NoRun) (lines : List (List ℕ)) (is : frames_over run ≡ true). absurd (false≢true is))
    no_run [] text pieces reads [] (none_held frames_room))

pub frames_loop : (text line : List ℕ) (pieces : List (List ℕ)) (printed : List ℕ)
    → FramesLoop text line pieces printed → printed ≡ answers (joined pieces)
unfolding joined
frames_loop text line pieces printed loop =
    frames_in_pieces ([] ∷ pieces) printed (rw (nothing_left text) at
    (loop_reads frames_over FramesTells frames_room frames_answer_room no_run new_reading text line pieces printed
    loop))

pub frames_reads_all : (pieces : List (List ℕ)) → FramesReads pieces (answers (joined pieces))
frames_reads_all pieces =
    let printed = reads_all frames_over FramesTells frames_room (λ (run : NoRun) (line : List ℕ). record {
      text = answer_to line;
      next = run;
      told = (refl, refl);
    }) no_run [] pieces in
    subst (FramesReads pieces) (frames_in_pieces pieces printed.text printed.reads) printed.reads

-- a run that is over awaits nothing
awaits_nothing : (awaits : Awaits) → over awaits ≡ true → awaits ≡ Nothing
awaits_nothing FirstLine is = absurd (false≢true is)
awaits_nothing Frames is = absurd (false≢true is)
awaits_nothing Nothing is = refl

coding_silent : (run : CodingRun) (lines : List (List ℕ)) → coding_over run ≡ true → Prints CodingTells run lines []
unfolding line_text run_after
coding_silent run [] is = no_line run
coding_silent run (line ∷ lines) is =
    one_more run run line [] [] lines (rw (awaits_nothing run.awaits is) (refl, refl)) (coding_silent run lines is)

coding_printed : (lines : List (List ℕ)) (run : CodingRun) (text : List ℕ) → Prints CodingTells run lines text
    → text ≡ lines_text run lines
unfolding lines_text
coding_printed [] run text (no_line _) = refl
coding_printed (line ∷ lines) run text (one_more _ next _ one rest _ told more) =
    ap₂ (λ (x y : List ℕ). x ++ y) told.0
    (coding_printed lines next rest more ∙ ap (λ (r : CodingRun). lines_text r lines) told.1)

pub coding_in_pieces : (pieces : List (List ℕ)) (text : List ℕ) → CodingReads pieces text
    → text ≡ coding_text (joined pieces)
coding_in_pieces pieces text reads =
    unfold coding_text in coding_printed (lines_of (joined pieces)) new_coding text
    (reads_print coding_over CodingTells coding_room (omega (arith, coding-room))
    (λ (run next : CodingRun) (line t : List ℕ) (told : CodingTells run (take coding_room line) t next).
    let same = coding-capped run line in (told.0 ∙ same.0, told.1 ∙ same.1))
    coding_silent new_coding [] text pieces reads [] (none_held coding_room))

pub coding_loop : (text line : List ℕ) (pieces : List (List ℕ)) (printed : List ℕ)
    → CodingLoop text line pieces printed → printed ≡ coding_text (joined pieces)
unfolding joined
coding_loop text line pieces printed loop =
    coding_in_pieces ([] ∷ pieces) printed (rw (nothing_left text) at
    (loop_reads coding_over CodingTells coding_room coding_answer_room new_coding new_reading text line pieces printed
    loop))

-- and each text is printed so
pub coding_reads_all : (pieces : List (List ℕ)) → CodingReads pieces (coding_text (joined pieces))
coding_reads_all pieces =
    let printed = reads_all coding_over CodingTells coding_room (λ (run : CodingRun) (line : List ℕ). record {
      text = line_text run line;
      next = run_after run line;
      told = (refl, refl);
    }) new_coding [] pieces in
    subst (CodingReads pieces) (coding_in_pieces pieces printed.text printed.reads) printed.reads

receiving_silent : (run : ReceivingRun) (lines : List (List ℕ)) → receiving_over run ≡ true
    → Prints LineTold run lines []
receiving_silent run [] is = no_line run
receiving_silent run (line ∷ lines) is =
    one_more run run line [] [] lines
    (let awaits = awaits_nothing run.awaits is in
    record {
      first = λ e. absurd (other (sym awaits ∙ e));
      frame = λ e. absurd (another (sym awaits ∙ e));
      nothing = λ e. (refl, refl);
    }) (receiving_silent run lines is)
  where
    other : Nothing ≡ FirstLine → ⊥
    other e = false≢true (sym (ap over e))

    another : Nothing ≡ Frames → ⊥
    another e = false≢true (sym (ap over e))

pub receiving_in_pieces : (pieces : List (List ℕ)) (text : List ℕ) → ReceivingReads pieces text
    → ReceivingPrints (joined pieces) text
receiving_in_pieces pieces text reads =
    reads_print receiving_over LineTold receiving_room (omega (arith, receiving-room))
    (λ (run next : ReceivingRun) (line t : List ℕ) (told : LineTold run (take receiving_room line) t next).
    receiving-capped run line t next told)
    receiving_silent new_receiving [] text pieces reads [] (none_held receiving_room)

-- and each text is printed so
pub receiving_reads_all : (pieces : List (List ℕ))
    → Printed receiving_over LineTold receiving_room new_receiving [] pieces
receiving_reads_all pieces =
    reads_all receiving_over LineTold receiving_room (λ (run : ReceivingRun) (line : List ℕ).
    let one = line_told run line in record { text = one.text; next = one.next; told = one.told })
    new_receiving [] pieces

pub receiving_loop : (text line : List ℕ) (pieces : List (List ℕ)) (printed : List ℕ)
    → ReceivingLoop text line pieces printed → ReceivingPrints (joined pieces) printed
unfolding joined
receiving_loop text line pieces printed loop =
    receiving_in_pieces ([] ∷ pieces) printed (rw (nothing_left text) at
    (loop_reads receiving_over LineTold receiving_room receiving_answer_room new_receiving new_reading text line pieces
    printed loop))

prints_unique : (lines : List (List ℕ)) (run : ReceivingRun) (text text₁ : List ℕ) → Prints LineTold run lines text
    → Prints LineTold run lines text₁ → text ≡ text₁
prints_unique [] run text text₁ (no_line _) (no_line _) = refl
prints_unique (line ∷ lines) run text text₁ (one_more _ next _ t u _ f rest) (one_more _ next₁ _ t₁ u₁ _ g rest₁) =
    let same = line_unique run line t t₁ next next₁ f g in
    ap₂ (λ (x y : List ℕ). x ++ y) same.0 (prints_unique lines next u u₁ rest
    (subst (λ (n : ReceivingRun). Prints LineTold n lines u₁) (sym same.1) rest₁))

pub receiving_unique : (text printed printed₁ : List ℕ) → ReceivingPrints text printed → ReceivingPrints text printed₁
    → printed ≡ printed₁
receiving_unique text printed printed₁ one other = prints_unique
    (lines_of text) new_receiving printed printed₁ one other
