-- The receiving state: "the settings, whether a frame has been taken, both memories (lowest branch or line first,
-- oldest first), the register and the bits of the unfinished word".
--     fresh_receiving_state, zero_receiving_state    at a layer's start; after a refused start
--     started_receiving_state                        what a start gives
--     good_receiving_state                           when a state is good
use Rattle.std.specs.Prelude.{Bool, true, cond, ◌&&◌, eqb, ltb, replicate}
use Rattle.lists.specs.Tests.{bits_then_zeros, none_set}
use Rattle.settings.specs.declared.Settings.{Settings}
use Rattle.settings.specs.Legal.{starting}
use Rattle.rules.specs.Bits.{used_lines}
use Rattle.rules.specs.Back.{held_count}
use Rattle.receiving_state.specs.declared.State.{State}

-- "Before the first frame all but the settings is zero and there are no such bits"
unfoldable pub fresh_receiving_state : Settings → State
fresh_receiving_state settings =
    record {
      settings = settings;
      taken = 0;
      memory = replicate 1122 0;
      lines = replicate 360 0;
      register = 0;
      held = replicate 3072 0;
    }

-- "A refused start gives the all-zero state, which is not good."
unfoldable pub zero_receiving_state : State
zero_receiving_state = fresh_receiving_state (record { mode = 0; v = 0; rate = 0; segments = 0 })

unfoldable pub started_receiving_state : Settings → State
started_receiving_state settings =
    cond (eqb (starting settings) 0) (fresh_receiving_state settings) zero_receiving_state

-- "before the first frame, all the rest too" is zero
unfoldable pub nothing_taken : State → Bool
nothing_taken state =
    eqb state.register 0 && none_set state.memory && none_set state.lines && none_set state.held

-- "It is good if the settings are legal, each entry is in range, unused ones are zero and, before the first frame,
-- all the rest too."
unfoldable pub good_receiving_state : State → Bool
good_receiving_state state =
    eqb (starting state.settings) 0
    && ltb state.taken 2
    && ltb state.register 64
    && bits_then_zeros (used_lines state.settings.v) state.lines
    && bits_then_zeros (held_count state.settings) state.held
    && cond (eqb state.taken 0) (nothing_taken state) true
