-- "The settings program" of document 01: what `frames` prints for a text.
--     printed         a line of the output, from its three numbers
--     answer_for      the line printed for settings
--     answer_to       the line printed for a line read
--     answers         what is printed for a text
--     sizes_number    the number that answering a line returns, by the room for its answer
--     sizes_out       what it leaves in the output
use Rattle.std.specs.Prelude.{Bool, cond, List, [], ◌∷◌, ◌++◌, ℕ, leb, length, drop}
use Rattle.hexadecimal.specs.Digits.{digits_of}
use Rattle.settings.specs.declared.Settings.{Settings}
use Rattle.settings.specs.Legal.{starting}
use Rattle.settings.specs.Sizes.{packets_of, carriers_of}
use Rattle.text_lines.specs.Lines.{lines_of}
use Rattle.text_lines.specs.First.{well_formed, settings_written}

-- "refusal (2 digits), P (4), C (8), capitals", and a line feed
unfoldable pub printed : ℕ → ℕ → ℕ → List ℕ
printed refusal packets carriers = digits_of 2 refusal ++ (digits_of 4 packets ++ (digits_of 8 carriers ++ (10 ∷ [])))

-- "zeros for P and C on refusal": `packets_of` and `carriers_of` are 0 there
unfoldable pub answer_for : Settings → List ℕ
answer_for settings = printed (starting settings) (packets_of settings) (carriers_of settings)

-- "FF with zeros for any other line"
unfoldable pub answer_to : List ℕ → List ℕ
answer_to line = cond (well_formed line) (answer_for (settings_written line)) (printed 255 0 0)

-- "prints a line for each": one after the other
unfoldable pub answers_to : List (List ℕ) → List ℕ
answers_to [] = []
answers_to (line ∷ lines) = answer_to line ++ answers_to lines

unfoldable pub answers : List ℕ → List ℕ
answers text = answers_to (lines_of text)

-- an answer has fifteen bytes
abbrev pub sizes_fit : List ℕ → Bool
sizes_fit out = leb 15 (length out)

-- "packet, word or answer area of wrong length"
unfoldable pub sizes_number : List ℕ → ℕ
sizes_number out = cond (sizes_fit out) 0 5

unfoldable pub sizes_out : List ℕ → List ℕ → List ℕ
sizes_out line out = cond (sizes_fit out) (answer_to line ++ drop 15 out) out
