-- Rule 2, dispersal: the generator's bits, its bytes, and the word that it is added to.
--     load             what stages 1 to 15 hold at the frame's start
--     held             what a stage holds after n steps
--     output           the generator's output bit n
--     byte_from        its byte b
--     sequence_byte    the byte b of a frame
--     dispersed        the word at a place of the frame
-- proofs/DispersedWords.antt: the first bytes are 03 F6 08 34, and dispersing twice gives the word back.
use Rattle.std.specs.Prelude.{cond, List, [], ◌∷◌, ℕ, zero, suc, ◌+◌, ◌-◌, ◌*◌, ◌%◌, eqb, ltb, get_or}
use Rattle.std.specs.Int.Bits.{bit_xor}
use Rattle.lists.specs.Tab.{tab}
use Rattle.lists.specs.Binary.{binary}

-- "stages 1 to 15 loaded with 100101010000000 at each frame start": stage 1 stands first
abbrev pub load : List ℕ
load = 1 ∷ 0 ∷ 0 ∷ 1 ∷ 0 ∷ 1 ∷ 0 ∷ 1 ∷ 0 ∷ 0 ∷ 0 ∷ 0 ∷ 0 ∷ 0 ∷ 0 ∷ []

-- What a stage holds after n steps, where stages 1 to 15 held the digits `start` at first.
-- "Generator 1+x^14+x^15 .. each output bit is stage 14 plus stage 15 modulo 2 and enters stage 1"; every other stage
-- takes what the stage before it held.
unfoldable pub held : List ℕ → ℕ → ℕ → ℕ
held start stage zero = get_or start (stage - 1) 0
held start stage (suc n) = cond (eqb stage 1) ((held start 14 n + held start 15 n) % 2) (held start (stage - 1) n)

-- the output bit n: what enters stage 1 in the step after n steps
unfoldable pub output : List ℕ → ℕ → ℕ
output start n = held start 1 (suc n)

-- "Highest bit of a byte first."
unfoldable pub byte_from : List ℕ → ℕ → ℕ
byte_from start b = binary 8 (λ l. output start (8 * b + l))

-- "at each frame start": b is counted from there
unfoldable pub sequence_byte : ℕ → ℕ
sequence_byte b = byte_from load b

-- "It runs over all 204 bytes of every word of the frame, and isn't added at byte 203. It covers parity."
unfoldable pub dispersed : ℕ → List ℕ → List ℕ
dispersed place word =
    tab 204 (λ j. cond (ltb j 203) (bit_xor (get_or word j 0) (sequence_byte (204 * place + j))) (get_or word j 0))
