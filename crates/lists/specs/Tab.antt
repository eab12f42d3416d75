-- A list given by a rule for each place, piece by piece, or field by field.
--     tab n f                 has n elements, and f k stands at place k
--     piece_start sizes i     where piece i begins, `sizes i` being its size
--     pieces sizes entry n    the first n pieces one behind the other, `entry i e` being entry e of piece i
--     part_of area place n    n entries of an area from a place on; zeros where the area has ended
--     laid fields             the fields one behind the other
-- proofs/Fields.antt: the part of laid fields at a field's place is that field, and an area is its parts laid end to
-- end.
use Rattle.std.specs.Prelude.{List, [], ◌∷◌, ◌++◌, ℕ, zero, suc, ◌+◌, get_or}

unfoldable pub tab : ℕ → (ℕ → ℕ) → List ℕ
tab zero f = []
tab (suc n) f = f zero ∷ tab n (λ k. f (suc k))

unfoldable pub piece_start : (ℕ → ℕ) → ℕ → ℕ
piece_start sizes zero = 0
piece_start sizes (suc i) = piece_start sizes i + sizes i

unfoldable pub pieces : (ℕ → ℕ) → (ℕ → ℕ → ℕ) → ℕ → List ℕ
pieces sizes entry zero = []
pieces sizes entry (suc i) = pieces sizes entry i ++ tab (sizes i) (entry i)

abbrev pub part_of : List ℕ → ℕ → ℕ → List ℕ
part_of area place count = tab count (λ k. get_or area (place + k) 0)

unfoldable pub laid : List (List ℕ) → List ℕ
laid [] = []
laid (field ∷ fields) = field ++ laid fields
