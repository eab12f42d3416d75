-- "Coding tests 7, 5 (188 × P), 6, 8": what `code` answers, and what it leaves.
--     frame_of                   the frame that packets make from a state
--     all_begin                  every packet begins with 47
--     coding                     the number that the call answers
--     carriers_of_frame          the C carriers of the frame
--     coding_state_behind        the state behind it
--     coded_into, state_coded    what the call leaves in the lent carriers, and the state after it
use Rattle.std.specs.Prelude.{Bool, cond, not, List, [], ◌∷◌, ℕ, ◌*◌, eqb, length, get_or}
use Rattle.lists.specs.Tests.{all_below}
use Rattle.lists.specs.Tab.{tab}
use Rattle.settings.specs.Answers.{◌when◌, first_of}
use Rattle.settings.specs.Sizes.{P, C, packets_of, carriers_of}
use Rattle.rules.specs.Frame.{sent_byte, Frame, carrier_value, memory_behind, register_behind, lines_behind}
use Rattle.coding_state.specs.declared.State.{State}
use Rattle.coding_state.specs.State.{good_coding_state}

-- rules 1 and 2 make the bytes that are sent; rules 3 to 6 go on from what the state holds
unfoldable pub frame_of : State → List ℕ → Frame
frame_of state packets =
    record {
      v = state.settings.v;
      rate = state.settings.rate;
      memory = state.memory;
      register = state.register;
      lines = state.lines;
      sent = sent_byte packets;
    }

-- "Each packet begins with 47"
unfoldable pub all_begin : ℕ → List ℕ → Bool
all_begin count packets = all_below count (λ p. eqb (get_or packets (188 * p) 0) 0x47)

unfoldable pub coding : State → List ℕ → List ℕ → ℕ
coding state packets carriers =
    first_of
    ((7 when not (good_coding_state state))
    ∷ (5 when not (eqb (length packets) (188 * packets_of state.settings)))
    ∷ (6 when not (eqb (length carriers) (carriers_of state.settings)))
    ∷ (8 when not (all_begin (packets_of state.settings) packets))
    ∷ [])

unfoldable pub carriers_of_frame : State → List ℕ → List ℕ
carriers_of_frame state packets = tab (C state.settings) (carrier_value (frame_of state packets))

-- "What runs past the frame's end is in the state and comes out in the next frame."
unfoldable pub coding_state_behind : State → List ℕ → State
coding_state_behind state packets =
    record {
      settings = state.settings;
      memory = memory_behind (frame_of state packets) (P state.settings);
      register = register_behind (frame_of state packets) (P state.settings);
      lines = lines_behind (frame_of state packets) (C state.settings);
    }

unfoldable pub coded_into : State → List ℕ → List ℕ → List ℕ
coded_into state packets carriers =
    cond (eqb (coding state packets carriers) 0) (carriers_of_frame state packets) carriers

-- "a refused call .. returns the state it was given"
unfoldable pub state_coded : State → List ℕ → List ℕ → State
state_coded state packets carriers =
    cond (eqb (coding state packets carriers) 0) (coding_state_behind state packets) state
