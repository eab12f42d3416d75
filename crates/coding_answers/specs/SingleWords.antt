-- Rules 2 and 3 for one word. "Dispersing one word and byte-interleaving one word (given a coding state, from one lent
-- word into another, 204 each) are entries too: 7, 5, and for dispersal 9." Document 02, Ask 12: "Make them one
-- operation that takes a word and its place in the frame".
--     dispersing_interleaving        the number that the call answers
--     dispersed_interleaved_into     what it leaves in the lent area
--     state_dispersed_interleaved    the state after it
-- proofs/OneAfterTheOther.antt: "The result is the one the two gave, one after the other."
use Rattle.std.specs.Prelude.{Bool, cond, not, ◌&&◌, List, [], ◌∷◌, ℕ, eqb, ltb, length, get_or}
use Rattle.settings.specs.Answers.{◌when◌, first_of}
use Rattle.settings.specs.Sizes.{packets_of}
use Rattle.rules.specs.Dispersal.{dispersed}
use Rattle.rules.specs.Bytes.{waits_there, word_out, memory_after}
use Rattle.coding_state.specs.declared.State.{State}
use Rattle.coding_state.specs.State.{good_coding_state}

-- "204 each"
abbrev pub both_words : List ℕ → List ℕ → Bool
both_words word out = eqb (length word) 204 && eqb (length out) 204

unfoldable pub dispersing_interleaving : State → ℕ → List ℕ → List ℕ → ℕ
dispersing_interleaving state place word out =
    first_of
    ((7 when not (good_coding_state state))
    ∷ (5 when not (both_words word out))
    ∷ (9 when not (ltb place (packets_of state.settings)))
    ∷ [])

-- rule 2, then rule 3
unfoldable pub dispersed_interleaved_into : State → ℕ → List ℕ → List ℕ → List ℕ
dispersed_interleaved_into state place word out =
    cond (eqb (dispersing_interleaving state place word out) 0)
    (word_out waits_there state.memory (dispersed place word))
    out

-- the memory moves on; "a refused call .. returns the state it was given"
unfoldable pub state_dispersed_interleaved : State → ℕ → List ℕ → List ℕ → State
state_dispersed_interleaved state place word out =
    cond (eqb (dispersing_interleaving state place word out) 0)
    (record {
      settings = state.settings;
      memory = memory_after waits_there state.memory (λ b. get_or (dispersed place word) b 0) 1;
      register = state.register;
      lines = state.lines;
    })
    state
