-- A coding state's bytes, 1,487 of them in document 01's order: "the four settings, the 1,122 bytes (branch 1 first,
-- oldest first), the register 0 to 63 (newest bit highest), and 360 entries of 0 or 1 for the bit lines (line 1 first,
-- oldest first, the rest zero)". They are a layer of a record's lent bytes.
--     coding_state_of, coding_bytes     bytes as a state, and a state as bytes: its fields, laid end to end
-- proofs/States.antt: the bytes of the state of an area that long are the area, and the state of a state's bytes is
-- the state.
use Rattle.std.specs.Prelude.{List, [], ◌∷◌, ℕ, get_or}
use Rattle.lists.specs.Tab.{part_of, laid}
use Rattle.settings.specs.Areas.{settings_of, settings_bytes}
use Rattle.coding_state.specs.declared.State.{State}

unfoldable pub coding_state_of : List ℕ → State
coding_state_of area =
    record {
      settings = settings_of area;
      memory = part_of area 4 1122;
      register = get_or area 1126 0;
      lines = part_of area 1127 360;
    }

unfoldable pub coding_bytes : State → List ℕ
coding_bytes state =
    laid (settings_bytes state.settings ∷ state.memory ∷ (state.register ∷ []) ∷ state.lines ∷ [])
