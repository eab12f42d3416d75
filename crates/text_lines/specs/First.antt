-- A line of settings, and the first line of `coding` and `receiving`: "read a settings line and then one frame a line
-- .. for layers with N × 2^(mode−1) at most 2".
--     well_formed         a line of eight hexadecimal digits
--     settings_written    the settings that such a line writes
--     no_settings         all zero
--     settings_begun      the settings that a line writes, and all zero for any other line
--     small               a layer that the two programs take
--     largest             the largest of these layers
--     starting_number     the number that a line of settings prints
--     beginning           the number that a first line prints, 0 where it prints nothing
--     first_text, begun_run what a first line prints, and the run after it
--     right_frame               a line that is a frame of the layer, of so many bytes
--     frame_read, frame_into    what reading such a line into an area tells, and what it leaves there
use Rattle.std.specs.Prelude.{Bool, cond, ◌&&◌, List, [], ◌++◌, ℕ, ◌-◌, ◌*◌, ◌^◌, eqb, leb, length, drop}
use Rattle.settings.specs.declared.Settings.{Settings}
use Rattle.settings.specs.Legal.{starting}
use Rattle.hexadecimal.specs.Bytes.{writes, byte_at, bytes_in}
use Rattle.text_lines.specs.Answer.{answer_text}

-- "lines of eight hexadecimal digits": they write four bytes
unfoldable pub well_formed : List ℕ → Bool
well_formed line = writes 4 line

-- "mode, v, rate, segments, two each"
unfoldable pub settings_written : List ℕ → Settings
settings_written line =
    record { mode = byte_at line 0; v = byte_at line 1; rate = byte_at line 2; segments = byte_at line 3 }

abbrev pub no_settings : Settings
no_settings = record { mode = 0; v = 0; rate = 0; segments = 0 }

unfoldable pub settings_begun : List ℕ → Settings
settings_begun line = cond (well_formed line) (settings_written line) no_settings

unfoldable pub small : Settings → Bool
small settings = eqb (starting settings) 0 && leb (settings.segments * 2 ^ (settings.mode - 1)) 2

-- 64QAM and rate 7/8: proofs/Small.antt shows that no such layer has more packets, nor more carriers
abbrev pub largest : Settings
largest = record { mode = 1; v = 6; rate = 5; segments = 2 }

-- "A refused settings line prints its number, a larger layer .. prints FF"
unfoldable pub starting_number : Settings → ℕ
starting_number settings = cond (eqb (starting settings) 0) (cond (small settings) 0 255) (starting settings)

-- ".. or any line of wrong form or length prints FF"
unfoldable pub beginning : List ℕ → ℕ
beginning line = cond (well_formed line) (starting_number (settings_written line)) 255

-- "A refused settings line prints its number ..": nothing is printed where frames follow
unfoldable pub first_text : List ℕ → List ℕ
first_text line = cond (eqb (beginning line) 0) [] (answer_text (beginning line) [])

-- the run after it, where frames follow and where the line ends the run
unfoldable pub begun_run : {Run : Type 0} → List ℕ → Run → Run → Run
begun_run line frames ended = cond (eqb (beginning line) 0) frames ended

-- "one frame a line in hexadecimal": two digits for each byte
unfoldable pub right_frame : Settings → ℕ → List ℕ → Bool
right_frame settings count line = small settings && writes count line

unfoldable pub frame_read : Settings → ℕ → List ℕ → List ℕ → Bool
frame_read settings count line area = leb count (length area) && right_frame settings count line

unfoldable pub frame_into : Settings → ℕ → List ℕ → List ℕ → List ℕ
frame_into settings count line area = cond (frame_read settings count line area) (bytes_in line ++ drop count area) area
