-- Rule 1: the word of a packet. Bytes are coefficients of a polynomial over GF(256), the highest first.
--     generator      the polynomial whose roots are the powers 0 to 15 of 02
--     parity_of      the sixteen bytes that a message times x ^ 16 leaves when the generator divides it
--     packet_at      packet p of a frame, 188 bytes
--     codeword_of    the codeword of a packet
--     sent_word      the word sent
-- rules/proofs/Generator.antt: the generator's coefficients; remainder/proofs/Division.antt: `parity_of message` is
-- the one list of sixteen bytes with which the message is 0 at each root.
use Rattle.std.specs.Prelude.{List, [], ◌∷◌, ◌++◌, ℕ, zero, suc, ◌+◌, ◌*◌, length, get_or, replicate, cond, ltb}
use Rattle.field.specs.Field.{◌⊕◌, ◌⊗◌, power}
use Rattle.lists.specs.Tab.{tab}

-- a polynomial times x + root
unfoldable pub times_root : ℕ → List ℕ → List ℕ
times_root root polynomial =
    tab (suc (length polynomial)) (λ k. get_or polynomial k 0 ⊕ root ⊗ get_or (0 ∷ polynomial) k 0)

-- the polynomial with the highest coefficient 1 whose roots are the powers 0 to n - 1 of 02
unfoldable pub with_roots : ℕ → List ℕ
with_roots zero = 1 ∷ []
with_roots (suc n) = times_root (power 2 n) (with_roots n)

-- "the code's generator has as its roots the powers 0 to 15 of 02"
abbrev pub generator : List ℕ
generator = with_roots 16

-- one byte of the message more: the first byte of the rest and the byte together say which multiple of the generator is
-- taken away, and the rest moves up by a place
unfoldable pub division_step : List ℕ → ℕ → List ℕ
division_step rest byte = tab 16 (λ k. get_or rest (suc k) 0 ⊕ (get_or rest 0 0 ⊕ byte) ⊗ get_or generator (suc k) 0)

-- the rest behind the last byte of the message
unfoldable pub division_rest : List ℕ → List ℕ → List ℕ
division_rest rest [] = rest
division_rest rest (byte ∷ message) = division_rest (division_step rest byte) message

-- "16 parity bytes"
unfoldable pub parity_of : List ℕ → List ℕ
parity_of message = division_rest (replicate 16 0) message

-- packet p of the run, counted from 0
unfoldable pub packet_at : List ℕ → ℕ → List ℕ
packet_at packets p = tab 188 (λ j. get_or packets (188 * p + j) 0)

-- "The codeword of a packet is its 188 bytes, then 16 parity bytes."
unfoldable pub codeword_of : List ℕ → List ℕ
codeword_of packet = packet ++ parity_of packet

-- "The word sent is bytes 1 to 203 of the codeword and then 47, the sync byte of the packet after it"
unfoldable pub sent_word : List ℕ → List ℕ
sent_word packet = tab 204 (λ j. cond (ltb j 203) (get_or (codeword_of packet) (j + 1) 0) 0x47)
