-- The generator's register as a number, stage k its bit k - 1, and what is made from it word by word.
--     stages_of          the digits of stages 1 to 15
--     register_from      the register after n steps
--     generator_at       the register before a word of the frame
--     sequence_from      the 204 bytes that a word is given from its register on
--     generator_after    the register behind the 204 bytes
--     added              a word and its 204 bytes added, but for byte 203
-- proofs/Words.antt: with the register of its place, a word is dispersed by rule 2.
use Rattle.std.specs.Prelude.{cond, List, ℕ, ◌+◌, ◌-◌, ◌*◌, ◌/◌, ◌%◌, ◌^◌, ltb, get_or}
use Rattle.std.specs.Int.Bits.{bit_xor}
use Rattle.lists.specs.Tab.{tab}
use Rattle.lists.specs.Binary.{binary}
use Rattle.rules.specs.Dispersal.{load, held, byte_from}

-- a number of sixteen bits has one that is no stage
unfoldable pub stages_of : ℕ → List ℕ
stages_of register = tab 15 (λ k. register / 2 ^ k % 2)

unfoldable pub register_from : List ℕ → ℕ → ℕ
register_from start n = binary 15 (λ l. held start (15 - l) n)

unfoldable pub generator_at : ℕ → ℕ
generator_at place = register_from load (8 * (204 * place))

unfoldable pub sequence_from : ℕ → List ℕ
sequence_from register = tab 204 (λ j. byte_from (stages_of register) j)

-- the last fifteen bits, of which the last stands in stage 1
unfoldable pub generator_after : List ℕ → ℕ
generator_after sequence = (get_or sequence 202 0 * 256 + get_or sequence 203 0) % 32768

unfoldable pub added : List ℕ → List ℕ → List ℕ
added word sequence =
    tab 204 (λ j. cond (ltb j 203) (bit_xor (get_or word j 0) (get_or sequence j 0)) (get_or word j 0))
