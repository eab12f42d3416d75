-- A line of the output: "the refusal (2 digits) and, on 00, the carriers or the slots given".
--     answer_text                   a number and bytes, as a line
--     fits                          there is room for it
--     answer_length, answer_into    how long it is, and what writing it leaves
--     Told                          a text stands printed at the front of the output, and the run goes on so
--     SomeTold                      the same of some text and run of which a property holds
use Rattle.std.specs.Prelude.{◌≡◌, Bool, cond, List, [], ◌∷◌, ◌++◌, ℕ, ◌+◌, ◌*◌, leb, length, drop}
use Rattle.hexadecimal.specs.Digits.{digits_of}
use Rattle.hexadecimal.specs.Bytes.{digits_of_bytes}

unfoldable pub answer_text : ℕ → List ℕ → List ℕ
answer_text number bytes = digits_of 2 number ++ (digits_of_bytes (2 * length bytes) bytes ++ (10 ∷ []))

unfoldable pub fits : List ℕ → List ℕ → Bool
fits bytes out = leb (2 * length bytes + 3) (length out)

unfoldable pub answer_length : List ℕ → List ℕ → ℕ
answer_length bytes out = cond (fits bytes out) (2 * length bytes + 3) 0

-- the rest of the area stays as it was
unfoldable pub answer_into : ℕ → List ℕ → List ℕ → List ℕ
answer_into number bytes out = cond (fits bytes out) (answer_text number bytes ++ drop (2 * length bytes + 3) out) out

pub record Told {Run : Type 0} (text : List ℕ) (next : Run) (out : List ℕ) (run : Run) (written : ℕ)
    (out' : List ℕ) : Type 0 where
  pub run_is : run ≡ next
  pub written_is : written ≡ length text
  pub out_is : out' ≡ text ++ drop (length text) out

pub record SomeTold {Run : Type 0} (Says : List ℕ → Run → Type 0) (out : List ℕ) (run : Run) (written : ℕ)
    (out' : List ℕ) : Type 0 where
  pub text : List ℕ
  pub next : Run
  pub told : Told text next out run written out'
  pub says : Says text next
