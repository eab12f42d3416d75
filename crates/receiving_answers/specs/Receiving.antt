-- "Going back: 7, 6, 5 (189 × P), 10": what `back` answers, and what it leaves.
--     receiving                         the number that the call answers
--     words_of, passed_of, given_of     how many words it finishes, how many of them are of no packet, how many packets
--                                       it gives
--     sent_place                        the place in its frame of the word that is given in slot i
--     receiving_state_behind            the state behind the frame
--     state_received, count_received    the state and the count after the call
--     Slots                             what the slots hold
use Rattle.std.specs.Prelude.{◌≡◌, cond, not, List, [], ◌∷◌, ℕ, ◌+◌, ◌-◌, ◌*◌, ◌%◌, ◌<◌, ◌≤◌, eqb, length, get_or, take}
use Rattle.lists.specs.Tab.{tab}
use Rattle.settings.specs.Answers.{◌when◌, first_of}
use Rattle.settings.specs.Sizes.{P, packets_of, carriers_of}
use Rattle.rules.specs.Bits.{carriers_in_range, lines_waiting}
use Rattle.rules.specs.Dispersal.{dispersed}
use Rattle.nearest.specs.Slot.{Slot}
use Rattle.rules.specs.Back.{held_after}
use Rattle.receiving_state.specs.declared.State.{State}
use Rattle.receiving_state.specs.State.{good_receiving_state}
use Rattle.receiving_answers.specs.Words.{word_number, call_pairs, register_before, finished_word, memory_at}

unfoldable pub receiving : State → List ℕ → List ℕ → ℕ
receiving state carriers slots =
    first_of
    ((7 when not (good_receiving_state state))
    ∷ (6 when not (eqb (length carriers) (carriers_of state.settings)))
    ∷ (5 when not (eqb (length slots) (189 * packets_of state.settings)))
    ∷ (10 when not (carriers_in_range state.settings.v carriers))
    ∷ [])

-- "The first call finishes P − 1 words and gives P − 12 packets; each later call finishes P words and gives P packets."
unfoldable pub words_of : State → ℕ
words_of state = P state.settings - 1 + state.taken

-- "Finished word n, counted from 0 since the start, is from n = 11 on sent word n − 11"
unfoldable pub passed_of : State → ℕ
passed_of state = cond (eqb state.taken 0) 11 0

unfoldable pub given_of : State → ℕ
given_of state = words_of state - passed_of state

-- the n-th word of the call is the word sent eleven words before the one that was received
unfoldable pub sent_place : State → ℕ → ℕ
sent_place state n = (word_number state n + P state.settings - 11) % P state.settings

-- the last 120 carriers of the frame
unfoldable pub last_carriers : List ℕ → List ℕ
last_carriers carriers = tab 120 (λ k. get_or carriers (length carriers - 120 + k) 0)

unfoldable pub receiving_state_behind : State → List ℕ → State
receiving_state_behind state carriers =
    record {
      settings = state.settings;
      taken = 1;
      memory = memory_at (call_pairs state carriers) state.memory state.register (words_of state);
      lines = lines_waiting state.settings.v (last_carriers carriers);
      register = register_before (call_pairs state carriers) state.register (words_of state);
      held = held_after state.settings carriers;
    }

-- "a refused call .. returns the state it was given"; "a refused one tells 0"
unfoldable pub state_received : State → List ℕ → List ℕ → State
state_received state carriers slots =
    cond (eqb (receiving state carriers slots) 0) (receiving_state_behind state carriers) state

unfoldable pub count_received : State → List ℕ → List ℕ → ℕ
count_received state carriers slots = cond (eqb (receiving state carriers slots) 0) (given_of state) 0

-- "Each packet fills a slot of 189 bytes"
unfoldable pub slot_of : List ℕ → ℕ → List ℕ
slot_of slots i = tab 189 (λ b. get_or slots (189 * i + b) 0)

-- the n-th word of the call: "dispersal is removed at that word's place in its frame", and its bytes 0 to 202 are left
unfoldable pub word_received : State → List ℕ → ℕ → List ℕ
word_received state carriers n =
    take 203
    (dispersed (sent_place state n) (finished_word (call_pairs state carriers) state.memory state.register n))

-- "Slots beyond the number given stay untouched."
pub record Slots (state : State) (carriers slots slots' : List ℕ) : Type 0 where
  pub long : length slots' ≡ length slots
  pub given : (i : ℕ) → i < given_of state
      → Slot (word_received state carriers (passed_of state + i)) (slot_of slots' i)
  pub rest : (b : ℕ) → 189 * given_of state ≤ b → get_or slots' b 0 ≡ get_or slots b 0
