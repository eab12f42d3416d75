-- The coding state: "the four settings, the 1,122 bytes (branch 1 first, oldest first), the register 0 to 63 (newest
-- bit highest), and 360 entries of 0 or 1 for the bit lines (line 1 first, oldest first, the rest zero)".
--     fresh_coding_state, zero_coding_state    at a layer's start; after a refused start
--     started_coding_state                     what a start gives
--     good_coding_state                        when a state is good
use Rattle.std.specs.Prelude.{Bool, cond, ◌&&◌, eqb, ltb}
use Rattle.lists.specs.Tests.{bits_then_zeros}
use Rattle.settings.specs.declared.Settings.{Settings}
use Rattle.settings.specs.Legal.{starting}
use Rattle.rules.specs.Bytes.{memory_at_start}
use Rattle.rules.specs.Bits.{lines_at_start, used_lines}
use Rattle.coding_state.specs.declared.State.{State}

-- "The memory is 1,122 bytes, all zero at the start", "Register .. zero at the start", "The lines are empty at the
-- start: bit 0"
unfoldable pub fresh_coding_state : Settings → State
fresh_coding_state settings =
    record { settings = settings; memory = memory_at_start; register = 0; lines = lines_at_start }

-- "A refused start gives the all-zero state, which is not good": a fresh state is all zero but for its settings.
unfoldable pub zero_coding_state : State
zero_coding_state = fresh_coding_state (record { mode = 0; v = 0; rate = 0; segments = 0 })

unfoldable pub started_coding_state : Settings → State
started_coding_state settings = cond (eqb (starting settings) 0) (fresh_coding_state settings) zero_coding_state

-- "good if the settings are legal and these ranges hold, unused entries zero"
unfoldable pub good_coding_state : State → Bool
good_coding_state state =
    eqb (starting state.settings) 0
    && ltb state.register 64
    && bits_then_zeros (used_lines state.settings.v) state.lines
