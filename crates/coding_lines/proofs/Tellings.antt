-- What a line after the first prints, by the outcome of its tests.
--     frame_wrong, frame_right     a line after the first
use mathlib.Core.Path.{◌≡◌, refl, ap}
use mathlib.Core.Bool.{true, false}
use mathlib.Core.List.{List, []}
use Prim.Native.Nat.{ℕ}
use Rattle.hexadecimal.specs.Bytes.{bytes_in}
use Rattle.text_lines.specs.Answer.{answer_text}
use Rattle.coding_lines.specs.declared.Run.{Run}
use Rattle.coding_lines.specs.Lines.{coding_ended, coding_frame, coded_text, after_coded, frame_text}
use Rattle.coding_lines.specs.Lines.{after_frame}

module _ (run : Run) (line : List ℕ) where
  -- a line after the first
  pub frame_wrong : coding_frame run.state line ≡ false
      → (answer_text 255 [] ≡ frame_text run.state line) × (coding_ended run ≡ after_frame run line)
  frame_wrong e = unfold frame_text after_frame in rw e (refl, refl)

  pub frame_right : coding_frame run.state line ≡ true → (packets : List ℕ) → packets ≡ bytes_in line
      → (coded_text run.state packets ≡ frame_text run.state line)
      × (after_coded run.state packets ≡ after_frame run line)
  unfolding frame_text after_frame
  frame_right e packets bytes = rw e (ap (coded_text run.state) bytes, ap (after_coded run.state) bytes)
