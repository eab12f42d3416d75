-- "Each 204-byte word yields the one codeword that differs in at most eight bytes. It is refused exactly if there is
-- no such codeword."
--     nearest_number, nearest_values    the paper's number and values for each answer of `correct`
--     Corrected w w' number values      what `correct` may do with a word w: it becomes w', and the answer has these
--     told_of, refusal_of               the two numbers that a door tells of it
-- proofs/Unique.antt: it allows one result alone.
use Rattle.std.specs.Prelude.{◌≡◌, ◌≢◌, List, [], ◌∷◌, ℕ, ◌≤◌, length, Result, Ok, Err}
use Rattle.nearest.specs.Codeword.{Codeword, distance}
use Rattle.nearest.specs.declared.Uncorrected.{Uncorrected}
use Rattle.nearest.specs.declared.Uncorrected.TheVariants.{TooFar, WrongLength}

-- done, "the number of bytes corrected, 0 to 8"; "255: no codeword within eight"; "5: .. word .. of wrong length"
abbrev pub nearest_number : Result ℕ Uncorrected → ℕ
nearest_number (Ok n) = 0
nearest_number (Err TooFar) = 255
nearest_number (Err WrongLength) = 5

abbrev pub nearest_values : Result ℕ Uncorrected → List ℕ
nearest_values (Ok n) = n ∷ []
nearest_values (Err TooFar) = []
nearest_values (Err WrongLength) = []

pub data Corrected (w : List ℕ) : List ℕ → ℕ → List ℕ → Type 0 where
  -- the word becomes the codeword c, and the answer is how many bytes differ
  within : (c : List ℕ) → length w ≡ 204 → Codeword c → distance c w ≤ 8 → Corrected w c 0 (distance c w ∷ [])
  -- there is no codeword so near, and the word stays as it was
  nowhere : length w ≡ 204 → ((c : List ℕ) → Codeword c → distance c w ≤ 8 → ⊥) → Corrected w w 255 []
  -- it has another length, and stays as it was
  wrong_length : length w ≢ 204 → Corrected w w 5 []

-- "the number of bytes corrected, 0 to 8 .. 255: no codeword within eight"; what a refused call tells is 0
abbrev pub told_of : Result ℕ Uncorrected → ℕ
told_of (Ok n) = n
told_of (Err TooFar) = 255
told_of (Err WrongLength) = 0

-- a word with no codeword near is no refusal: the call is done
abbrev pub refusal_of : Result ℕ Uncorrected → ℕ
refusal_of (Ok n) = 0
refusal_of (Err TooFar) = 0
refusal_of (Err WrongLength) = 5
