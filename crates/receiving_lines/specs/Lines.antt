-- The program `receiving`: "read a settings line and then one frame a line in hexadecimal".
--     new_receiving          before the first line
--     receiving_ended        the run after a line that ends it
--     receiving_frames       the run in which frames are awaited
--     receiving_begun        the run after a first line
--     receiving_frame        a line that is a frame of the layer
--     Shown                  what a frame of carriers prints, and the run after it
--     FrameTold, LineTold    what a line after the first prints, and what any line prints, and the run after it
use Rattle.std.specs.Prelude.{◌≡◌, Bool, true, false, List, [], ℕ, ◌*◌, take, replicate}
use Rattle.settings.specs.Answers.{number_of}
use Rattle.settings.specs.Sizes.{packets_of, carriers_of}
use Rattle.hexadecimal.specs.Bytes.{bytes_in}
use Rattle.receiving_state.specs.declared.State.{State}
use Rattle.receiving_answers.specs.Entry.{Received}
use Rattle.receiving_state.specs.State.{zero_receiving_state, started_receiving_state}
use Rattle.receiving_answers.specs.Entry.{Back}
use Rattle.text_lines.specs.declared.Awaits.TheVariants.{FirstLine, Frames, Nothing}
use Rattle.text_lines.specs.First.{settings_begun, first_text, begun_run, right_frame}
use Rattle.text_lines.specs.Answer.{answer_text}
use Rattle.receiving_lines.specs.declared.Run.{Run}

unfoldable pub new_receiving : Run
new_receiving = record { awaits = FirstLine; state = zero_receiving_state }

unfoldable pub receiving_ended : Run → Run
receiving_ended run = record { awaits = Nothing; state = run.state }

unfoldable pub receiving_frames : State → Run
receiving_frames state = record { awaits = Frames; state = state }

-- "A refused settings line prints its number, a larger layer or any line of wrong form or length prints FF; either
-- ends the run"
abbrev pub receiving_begun : Run → List ℕ → Run
receiving_begun run line =
    begun_run line (receiving_frames (started_receiving_state (settings_begun line))) (receiving_ended run)

-- a frame's line has two digits for each of its carriers
abbrev pub receiving_frame : State → List ℕ → Bool
receiving_frame state line = right_frame state.settings (carriers_of state.settings) line

-- the slots before the call
unfoldable pub blank_slots : State → List ℕ
blank_slots state = replicate (189 * packets_of state.settings) 0

-- "For each frame line they print the refusal (2 digits) and, on 00, .. the slots given"; "a refused frame doesn't"
-- end the run, and gives no slot
pub record Shown (state : State) (carriers text : List ℕ) (next : Run) : Type 0 where
  pub received : Received
  pub slots : List ℕ
  pub back_is : Back state carriers (blank_slots state) received slots
  pub text_is : text ≡ answer_text (number_of received.answer) (take (189 * received.given) slots)
  pub next_is : next ≡ receiving_frames received.state

pub record FrameTold (run : Run) (line text : List ℕ) (next : Run) : Type 0 where
  pub wrong : receiving_frame run.state line ≡ false → (text ≡ answer_text 255 []) × (next ≡ receiving_ended run)
  pub right : receiving_frame run.state line ≡ true → Shown run.state (bytes_in line) text next

pub record LineTold (run : Run) (line text : List ℕ) (next : Run) : Type 0 where
  pub first : run.awaits ≡ FirstLine → (text ≡ first_text line) × (next ≡ receiving_begun run line)
  pub frame : run.awaits ≡ Frames → FrameTold run line text next
  pub nothing : run.awaits ≡ Nothing → (text ≡ []) × (next ≡ run)
