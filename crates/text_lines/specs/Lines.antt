-- The lines of a text: "reads lines .. the last line may lack its line feed".
--     lines_from      the lines of a text of which `begun` has been read already
--     lines_of        the lines of a text
use Rattle.std.specs.Prelude.{cond, List, [], ◌∷◌, ◌++◌, ℕ, eqb}

-- `begun` has no line feed: "the last line may lack its line feed"
unfoldable pub lines_from : List ℕ → List ℕ → List (List ℕ)
lines_from [] [] = []
lines_from (first ∷ begun) [] = (first ∷ begun) ∷ []
lines_from begun (byte ∷ text) =
    cond (eqb byte 10) (begun ∷ lines_from [] text) (lines_from (begun ++ (byte ∷ [])) text)

abbrev pub lines_of : List ℕ → List (List ℕ)
lines_of text = lines_from [] text
