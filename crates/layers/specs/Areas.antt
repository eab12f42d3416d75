-- A record's lent bytes: "the mode, then A, B, C, each the .. bytes of a .. state". A door for C does to them what its
-- call does to the record that they are.
--     record_of, record_bytes     the bytes of an area as a record, and a record as bytes
--     record_size, record_long    how many they are, and whether an area is so long
--     record_in, area_with        the record that an area is; an area into which a record is put
--     in_area                     the call over an area
--     starting_into               what a start into an area answers
--     layer_at, layers_in         the nine bytes of a start
use Rattle.std.specs.Prelude.{Bool, cond, not, List, [], ◌∷◌, ℕ, ◌+◌, ◌*◌, eqb, length, get_or}
use Rattle.lists.specs.Tab.{part_of, laid}
use Rattle.settings.specs.Answers.{◌when◌, given, first_of}
use Rattle.layers.specs.declared.Layer.{Layer}
use Rattle.layers.specs.Record.{Kind, Three, three_from, empty_record}
use Rattle.layers.specs.Start.{starting_record}
use Rattle.layers.specs.Calls.{Call}

abbrev pub record_size : Kind → ℕ
record_size kind = 1 + 3 * kind.size

unfoldable pub record_of : (kind : Kind) → List ℕ → Three kind.State
record_of kind area =
    three_from (get_or area 0 0)
    (kind.state_of (part_of area 1 kind.size))
    (kind.state_of (part_of area (1 + kind.size) kind.size))
    (kind.state_of (part_of area (1 + 2 * kind.size) kind.size))

unfoldable pub record_bytes : (kind : Kind) → Three kind.State → List ℕ
record_bytes kind three =
    laid ((three.mode ∷ []) ∷ kind.bytes three.a ∷ kind.bytes three.b ∷ kind.bytes three.c ∷ [])

abbrev pub record_long : Kind → List ℕ → Bool
record_long kind area = eqb (length area) (record_size kind)

-- "An area of another length than a state's is a state that isn't good", and a record of zeros is none either
unfoldable pub record_in : (kind : Kind) → List ℕ → Three kind.State
record_in kind area = cond (record_long kind area) (record_of kind area) (empty_record kind)

-- an area of another length is left alone
unfoldable pub area_with : (kind : Kind) → Three kind.State → List ℕ → List ℕ
area_with kind three area = cond (record_long kind area) (record_bytes kind three) area

unfoldable pub in_area : (kind : Kind) → {Lent : Type 0} → Call (Three kind.State) Lent → Call (List ℕ) Lent
in_area kind call =
    record {
      number = λ area. call.number (record_in kind area);
      after = λ area. area_with kind (call.after (record_in kind area)) area;
      Leaves = λ area. call.Leaves (record_in kind area);
    }

-- "an area of another length is left alone and answered with 7, after 1 to 4 and 12"
unfoldable pub starting_into : (kind : Kind) → Three Layer → List ℕ → ℕ
starting_into kind three area = first_of (given (starting_record three) ∷ (7 when not (record_long kind area)) ∷ [])

abbrev pub layer_at : List ℕ → ℕ → Layer
layer_at bytes place =
    record { v = get_or bytes place 0; rate = get_or bytes (place + 1) 0; segments = get_or bytes (place + 2) 0 }

-- "`layers` is nine bytes": v, rate and segments of A, B and C
abbrev pub layers_in : ℕ → List ℕ → Three Layer
layers_in mode bytes = three_from mode (layer_at bytes 0) (layer_at bytes 3) (layer_at bytes 6)
