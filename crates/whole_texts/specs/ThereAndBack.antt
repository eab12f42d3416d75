-- Frames there and back through the programs: what `coding` prints, given to `receiving`. A text begins with a settings
-- line, and "one frame a line in hexadecimal" follows.
--     each_from           so many of a row of lists, from one of them on
--     text_of             lines as a text, with a line feed behind each
--     hexadecimal_line    bytes as a line: "in hexadecimal"
--     FramesOfPackets     the packets of n frames are such as a coder takes
--     packets_text        what `coding` is given: a settings line and the packets of n frames
--     carriers_printed    what it prints: 00 and the carriers of each frame
--     without_numbers     lines that were printed, without "the refusal (2 digits)" in front of each
--     carriers_text       what `receiving` is given: the settings line again, and those lines of a printed text
--     slots_given         the slots that frame f gives, 0 bytes being corrected in each
--     slots_printed       what it prints: 00 and the slots of each frame
-- `packets f` are the packets of frame f.
use Rattle.std.specs.Prelude.{◌≡◌, true, List, [], ◌∷◌, ◌++◌, ℕ, zero, suc, ◌*◌, ◌<◌, length, get_or, drop}
use Rattle.lists.specs.Tab.{laid}
use Rattle.settings.specs.declared.Settings.{Settings}
use Rattle.settings.specs.Sizes.{P}
use Rattle.hexadecimal.specs.Bytes.{digits_of_bytes}
use Rattle.coding_state.specs.State.{fresh_coding_state}
use Rattle.coding_answers.specs.Coding.{all_begin}
use Rattle.demands.specs.Frames.{carriers_at, sent_packet, first_given, given_packets}
use Rattle.text_lines.specs.Lines.{lines_of}
use Rattle.text_lines.specs.First.{settings_written}
use Rattle.text_lines.specs.Answer.{answer_text}

unfoldable pub each_from : (ℕ → List ℕ) → ℕ → ℕ → List (List ℕ)
each_from row f zero = []
each_from row f (suc count) = row f ∷ each_from row (suc f) count

unfoldable pub text_of : List (List ℕ) → List ℕ
text_of [] = []
text_of (line ∷ lines) = line ++ (10 ∷ text_of lines)

-- two digits for each byte
abbrev pub hexadecimal_line : List ℕ → List ℕ
hexadecimal_line bytes = digits_of_bytes (2 * length bytes) bytes

-- "188 × P" bytes in a frame; "Each packet begins with 47"
pub record FramesOfPackets (settings : Settings) (packets : ℕ → List ℕ) (n : ℕ) : Type 0 where
  pub long : (f : ℕ) → f < n → length (packets f) ≡ 188 * P settings
  pub begin : (f : ℕ) → f < n → all_begin (P settings) (packets f) ≡ true
  pub bytes : (f k : ℕ) → f < n → get_or (packets f) k 0 < 256

unfoldable pub packets_text : List ℕ → (ℕ → List ℕ) → ℕ → List ℕ
packets_text first packets n = text_of (first ∷ each_from (λ f. hexadecimal_line (packets f)) 0 n)

-- the coder is at its start in the first frame
unfoldable pub carriers_printed : List ℕ → (ℕ → List ℕ) → ℕ → List ℕ
carriers_printed first packets n =
    laid (each_from (λ f. answer_text 0 (carriers_at (fresh_coding_state (settings_written first)) packets f)) 0 n)

unfoldable pub without_numbers : List (List ℕ) → List (List ℕ)
without_numbers [] = []
without_numbers (line ∷ lines) = drop 2 line ∷ without_numbers lines

unfoldable pub carriers_text : List ℕ → List ℕ → List ℕ
carriers_text first printed = text_of (first ∷ without_numbers (lines_of printed))

-- "the number of bytes corrected .. then the 188 bytes", `count` packets being in a frame
unfoldable pub slots_given : ℕ → (ℕ → List ℕ) → ℕ → List ℕ
slots_given count packets f =
    laid (each_from (λ g. 0 ∷ sent_packet count packets g) (first_given count f) (given_packets count f))

unfoldable pub slots_printed : List ℕ → (ℕ → List ℕ) → ℕ → List ℕ
slots_printed first packets n =
    laid (each_from (λ f. answer_text 0 (slots_given (P (settings_written first)) packets f)) 0 n)
