-- A receiving state's lent bytes, 4,560 of them: "mode, v, rate, segments, taken (0 or 1), the 1,122 bytes, the 360
-- entries, the register, 3,072 bits of the unfinished word".
--     receiving_state_of, receiving_bytes    the bytes of an area as a state, and a state as bytes: its fields, laid
--                                            end to end
-- proofs/States.antt: the bytes of the state of an area that long are the area, and the state of a state's bytes is
-- the state.
use Rattle.std.specs.Prelude.{List, [], ◌∷◌, ℕ, get_or}
use Rattle.lists.specs.Tab.{part_of, laid}
use Rattle.settings.specs.Areas.{settings_of, settings_bytes}
use Rattle.receiving_state.specs.declared.State.{State}

unfoldable pub receiving_state_of : List ℕ → State
receiving_state_of area =
    record {
      settings = settings_of area;
      taken = get_or area 4 0;
      memory = part_of area 5 1122;
      lines = part_of area 1127 360;
      register = get_or area 1487 0;
      held = part_of area 1488 3072;
    }

unfoldable pub receiving_bytes : State → List ℕ
receiving_bytes state =
    laid
    (settings_bytes state.settings
    ∷ (state.taken ∷ [])
    ∷ state.memory
    ∷ state.lines
    ∷ (state.register ∷ [])
    ∷ state.held
    ∷ [])
