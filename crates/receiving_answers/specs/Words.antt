-- "Rules of going back": the words that a call finishes.
--     word_number        which word of its frame the n-th word of a call is
--     last_word_digit    what is received of the last word of the frame before
--     call_pairs         the received pairs of the n-th word of a call
--     message_of         the message that is chosen
--     register_before    the register in front of the n-th word
--     received_byte      the bytes of the messages, one after the other
--     finished_word      the n-th finished word
use Rattle.std.specs.Prelude.{cond, List, map, ℕ, zero, suc, ◌+◌, ◌-◌, ◌*◌, ◌/◌, ◌%◌, ltb}
use Rattle.lists.specs.Tab.{tab}
use Rattle.settings.specs.Sizes.{P}
use Rattle.rules.specs.Bytes.{waits_back, stream_byte, memory_after}
use Rattle.fewest.specs.Best.{bit, best}
use Rattle.rules.specs.Back.{received_digit, held_digit, pair_at, message_byte, register_of, last_kept, held_count}
use Rattle.receiving_state.specs.declared.State.{State}

-- "The first call finishes P − 1 words", words 0 to P − 2 of the frame; a later one first the last word of the frame
-- before
unfoldable pub word_number : State → ℕ → ℕ
word_number state n = (n + P state.settings - state.taken) % P state.settings

-- first what is held of it, then what comes out of the lines
unfoldable pub last_word_digit : State → List ℕ → ℕ → ℕ
last_word_digit state carriers =
    held_digit state.settings.v (last_kept state.settings) (held_count state.settings) state.held
    state.lines carriers

-- the digit of a kept bit of its frame
unfoldable pub call_digit : State → List ℕ → ℕ → ℕ → ℕ
call_digit state carriers n c =
    cond (ltb n state.taken) (last_word_digit state carriers c) (received_digit state.settings.v carriers c)

-- "The coded bits are read a word at a time: 1,632 message bits .., puncturing at the word's place in its frame."
unfoldable pub call_pairs : State → List ℕ → ℕ → List ℕ
call_pairs state carriers n =
    tab 1632 (λ i. pair_at state.settings.rate (call_digit state carriers n) (1632 * word_number state n + i))

-- "Of all messages, take the one with the fewest disagreements; of equals, the one with 0 at the first bit where they
-- differ."
unfoldable pub message_of : List ℕ → ℕ → List ℕ
message_of pairs register = map bit (best pairs register)

-- ".. from the register's present value", "Its last six bits are the next register"; `pairs n` are the n-th word's
unfoldable pub register_before : (ℕ → List ℕ) → ℕ → ℕ → ℕ
register_before pairs register zero = register
register_before pairs register (suc n) = register_of (message_of (pairs n) (register_before pairs register n))

unfoldable pub received_byte : (ℕ → List ℕ) → ℕ → ℕ → ℕ
received_byte pairs register b =
    message_byte (message_of (pairs (b / 204)) (register_before pairs register (b / 204))) (b % 204)

-- "Byte branch i then waits 17×(11−i)."
unfoldable pub finished_word : (ℕ → List ℕ) → List ℕ → ℕ → ℕ → List ℕ
finished_word pairs memory register n =
    tab 204 (λ j. stream_byte waits_back memory (received_byte pairs register) (204 * n + j))

unfoldable pub memory_at : (ℕ → List ℕ) → List ℕ → ℕ → ℕ → List ℕ
memory_at pairs memory register n = memory_after waits_back memory (received_byte pairs register) n
