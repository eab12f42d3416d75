-- "Late replacement": one packet of a frame that is coded already, in its carriers and in the state left behind.
--     added_to                             two lists added, entry by entry
--     difference_word, difference_byte     what the two words differ by, and byte b of a frame of nothing else
--     difference_frame                     that frame, from a state of zeros
--     replaced_carriers, replaced_state    what a replacement makes of carriers and of a state
--     begins                               the test of a packet
--     replacing                            the number that the call answers
--     replaced_into, state_replaced        what the call leaves in the lent carriers, and the state after it
-- `replacing_is_coding_again` in proofs/Demand.antt joins this to coding.
use Rattle.std.specs.Prelude.{Bool, cond, not, ◌&&◌, List, [], ◌∷◌, ℕ, ◌/◌, ◌%◌, eqb, ltb, length, get_or}
use Rattle.std.specs.Int.Bits.{bit_xor}
use Rattle.lists.specs.Tab.{tab}
use Rattle.settings.specs.declared.Settings.{Settings}
use Rattle.settings.specs.Answers.{◌when◌, first_of}
use Rattle.settings.specs.Sizes.{P, C, packets_of, carriers_of}
use Rattle.rules.specs.Bits.{carriers_in_range, lines_at_start}
use Rattle.rules.specs.Bytes.{memory_at_start}
use Rattle.rules.specs.Word.{sent_word}
use Rattle.rules.specs.Frame.{Frame, carrier_value, memory_behind, register_behind, lines_behind}
use Rattle.coding_state.specs.declared.State.{State}
use Rattle.coding_state.specs.State.{good_coding_state}

abbrev pub added_to : ℕ → List ℕ → List ℕ → List ℕ
added_to size one two = tab size (λ k. bit_xor (get_or one k 0) (get_or two k 0))

-- "For each byte .. in which the two words differ": a bit is 1 where they do; "Parity bytes count."
unfoldable pub difference_word : List ℕ → List ℕ → List ℕ
difference_word old new = added_to 204 (sent_word old) (sent_word new)

-- the packet's word is its number's; nothing else differs
unfoldable pub difference_byte : ℕ → List ℕ → List ℕ → ℕ → ℕ
difference_byte number old new b = cond (eqb (b / 204) number) (get_or (difference_word old new) (b % 204) 0) 0

-- "two frames, coded from one state and differing only in that packet": what they differ by is coded by the same rules,
-- from a state of zeros; "which bits these are doesn't depend on the other packets"
unfoldable pub difference_frame : Settings → ℕ → List ℕ → List ℕ → Frame
difference_frame settings number old new =
    record {
      v = settings.v;
      rate = settings.rate;
      memory = memory_at_start;
      register = 0;
      lines = lines_at_start;
      sent = difference_byte number old new;
    }

-- "It flips exactly those carrier bits .."
unfoldable pub replaced_carriers : Settings → ℕ → List ℕ → List ℕ → List ℕ → List ℕ
replaced_carriers settings number old new carriers =
    tab (length carriers)
    (λ k. bit_xor (get_or carriers k 0) (carrier_value (difference_frame settings number old new) k))

-- ".. and state bits in which two frames .. would differ"
unfoldable pub replaced_state : State → ℕ → List ℕ → List ℕ → State
replaced_state state number old new =
    let settings = state.settings in
    let difference = difference_frame settings number old new in
    record {
      settings = settings;
      memory = added_to 1122 state.memory (memory_behind difference (P settings));
      register = bit_xor state.register (register_behind difference (P settings));
      lines = added_to 360 state.lines (lines_behind difference (C settings));
    }

-- "Each packet begins with 47"
abbrev pub begins : List ℕ → Bool
begins packet = eqb (get_or packet 0 0) 0x47

-- "Replacement: 7, 6, 5 (old, then new, 188 each), 9, 10, 8."
unfoldable pub replacing : State → List ℕ → ℕ → List ℕ → List ℕ → ℕ
replacing state carriers number old new =
    first_of
    ((7 when not (good_coding_state state))
    ∷ (6 when not (eqb (length carriers) (carriers_of state.settings)))
    ∷ (5 when not (eqb (length old) 188))
    ∷ (5 when not (eqb (length new) 188))
    ∷ (9 when not (ltb number (packets_of state.settings)))
    ∷ (10 when not (carriers_in_range state.settings.v carriers))
    ∷ (8 when not (begins old && begins new))
    ∷ [])

unfoldable pub replaced_into : State → List ℕ → ℕ → List ℕ → List ℕ → List ℕ
replaced_into state carriers number old new =
    cond (eqb (replacing state carriers number old new) 0)
    (replaced_carriers state.settings number old new carriers)
    carriers

-- "a refused call .. returns the state it was given"
unfoldable pub state_replaced : State → List ℕ → ℕ → List ℕ → List ℕ → State
state_replaced state carriers number old new =
    cond (eqb (replacing state carriers number old new) 0) (replaced_state state number old new) state
