-- The program `coding`: "read a settings line and then one frame a line in hexadecimal".
--     new_coding                 before the first line
--     coding_ended               the run after a line that ends it
--     coding_frames              the run in which frames are awaited
--     coding_begun               the run after a first line
--     coding_frame               a line that is a frame of the layer
--     coded_text, after_coded    what a frame of packets prints, and the run after it
--     frame_text, after_frame    what a line after the first prints, and the run after it
--     line_text, run_after       what a line prints, and the run after it
use Rattle.std.specs.Prelude.{Bool, cond, List, [], ℕ, ◌*◌, eqb, take, replicate}
use Rattle.settings.specs.Sizes.{packets_of, carriers_of}
use Rattle.hexadecimal.specs.Bytes.{bytes_in}
use Rattle.coding_state.specs.declared.State.{State}
use Rattle.coding_state.specs.State.{zero_coding_state, started_coding_state}
use Rattle.coding_answers.specs.Coding.{coding, coded_into, state_coded}
use Rattle.text_lines.specs.declared.Awaits.TheVariants.{FirstLine, Frames, Nothing}
use Rattle.text_lines.specs.Awaiting.{by_awaits}
use Rattle.text_lines.specs.First.{settings_begun, first_text, begun_run, right_frame}
use Rattle.text_lines.specs.Answer.{answer_text}
use Rattle.coding_lines.specs.declared.Run.{Run}

unfoldable pub new_coding : Run
new_coding = record { awaits = FirstLine; state = zero_coding_state }

unfoldable pub coding_ended : Run → Run
coding_ended run = record { awaits = Nothing; state = run.state }

unfoldable pub coding_frames : State → Run
coding_frames state = record { awaits = Frames; state = state }

-- "A refused settings line prints its number, a larger layer or any line of wrong form or length prints FF; either
-- ends the run"
abbrev pub coding_begun : Run → List ℕ → Run
coding_begun run line = begun_run line (coding_frames (started_coding_state (settings_begun line))) (coding_ended run)

-- a frame's line has two digits for each byte of its packets
abbrev pub coding_frame : State → List ℕ → Bool
coding_frame state line = right_frame state.settings (188 * packets_of state.settings) line

-- the carriers before the call
unfoldable pub blank_carriers : State → List ℕ
blank_carriers state = replicate (carriers_of state.settings) 0

-- how many of the carriers are shown
unfoldable pub shown_of : ℕ → ℕ → ℕ
shown_of number count = cond (eqb number 0) count 0

-- "For each frame line they print the refusal (2 digits) and, on 00, the carriers"
unfoldable pub coded_text : State → List ℕ → List ℕ
coded_text state packets =
    answer_text (coding state packets (blank_carriers state))
    (take (shown_of (coding state packets (blank_carriers state)) (carriers_of state.settings))
    (coded_into state packets (blank_carriers state)))

-- "a refused frame doesn't" end the run
unfoldable pub after_coded : State → List ℕ → Run
after_coded state packets = coding_frames (state_coded state packets (blank_carriers state))

unfoldable pub frame_text : State → List ℕ → List ℕ
frame_text state line = cond (coding_frame state line) (coded_text state (bytes_in line)) (answer_text 255 [])

unfoldable pub after_frame : Run → List ℕ → Run
after_frame run line = cond (coding_frame run.state line) (after_coded run.state (bytes_in line)) (coding_ended run)

unfoldable pub line_text : Run → List ℕ → List ℕ
line_text run line = by_awaits run.awaits (first_text line) (frame_text run.state line) []

unfoldable pub run_after : Run → List ℕ → Run
run_after run line = by_awaits run.awaits (coding_begun run line) (after_frame run line) run
