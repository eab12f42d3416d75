-- Words of the frame: from the register of its place on, a word is dispersed by rule 2.
--     sequence_at        the sequence from the register of a place is the frame's, from byte 204 place on
--     register_behind    behind that sequence stands the register of the next place
--     dispersed_at       a word with that sequence added is dispersed
--     sum                a byte of it
use mathlib.Core.Path.{◌≡◌, refl, ap, ap₂, ◌∙◌}
use mathlib.Core.Bool.{cond}
use mathlib.Core.List.{List}
use Prim.Native.Nat.{ℕ, ◌+◌, ◌*◌, ◌%◌, ◌<◌, ◌≤◌}
use native.Mathlib.Omega.{arith}
use lib.Bits.{bit_xor}
use lib.Dec.{ltb}
use borrow.Author.Tests.{lt-ltb, le-ltb}
use lib.ListN.{get_or}
use Rattle.lists.specs.Tab.{tab}
use Rattle.lists.proofs.Tabs.{get_d_tab, tab_cong}
use Rattle.rules.specs.Dispersal.{load, byte_from, sequence_byte, dispersed}
use Rattle.dispersal.specs.Register.{stages_of, register_from, generator_at, sequence_from, generator_after, added}
use Rattle.dispersal.specs.Steps.{next_register}
use Rattle.rules.proofs.Tape.{Digits}
use Rattle.rules.proofs.DispersedWords.{load_digits, byte_lt}
use Rattle.dispersal.proofs.Registers.{stages_digits, register_next, byte_restart, register_restart}

-- ---- the sequence of a word

pub sequence_at : (place : ℕ) → sequence_from (generator_at place) ≡ tab 204 (λ j. sequence_byte (204 * place + j))
unfolding sequence_from generator_at sequence_byte
sequence_at place =
    tab_cong 204 (byte_from (stages_of (register_from load (8 * (204 * place)))))
    (λ j. byte_from load (204 * place + j))
    (λ j h. byte_restart load load_digits (204 * place) j)

-- the last fifteen bits of two bytes of eight steps each
last_fifteen : (register first second : ℕ) → second < 256
    → (first * 256 + second) % 32768 ≡ next_register (next_register register first) second
last_fifteen register first second h = unfold next_register in omega arith

after_from : (register : ℕ) → generator_after (sequence_from register) ≡ register_from (stages_of register) (8 * 204)
unfolding generator_after sequence_from
after_from register =
    ap₂ (λ (x y : ℕ). (x * 256 + y) % 32768) (get_d_tab 204 (byte_from stages) 202 (omega arith))
    (get_d_tab 204 (byte_from stages) 203 (omega arith))
    ∙ last_fifteen (register_from stages (8 * 202)) (byte_from stages 202) (byte_from stages 203)
    (byte_lt stages digits 203)
    ∙ ap (λ (r : ℕ). next_register r (byte_from stages 203)) (register_next stages digits 202)
    ∙ register_next stages digits 203
  where
    stages : List ℕ
    stages = stages_of register

    digits : Digits stages
    digits = stages_digits register

pub register_behind : (place : ℕ) → generator_after (sequence_from (generator_at place)) ≡ generator_at (place + 1)
unfolding generator_at
register_behind place =
    after_from (register_from load (8 * (204 * place))) ∙ register_restart load load_digits (8 * (204 * place))
    (8 * 204)
    ∙ ap (register_from load) (omega arith)

pub dispersed_at : (place : ℕ) (word : List ℕ) → added word (sequence_from (generator_at place)) ≡ dispersed place word
dispersed_at place word =
    unfold added dispersed in ap (λ (s : List ℕ). added word s) (sequence_at place)
    ∙ tab_cong 204 _ (λ j. cond (ltb j 203) (bit_xor (get_or word j 0) (sequence_byte (204 * place + j)))
    (get_or word j 0))
    (λ j h. ap (λ (b : ℕ). cond (ltb j 203) (bit_xor (get_or word j 0) b) (get_or word j 0))
    (get_d_tab 204 (λ j. sequence_byte (204 * place + j)) j h))

-- ---- byte by byte

unfoldable pub sum : List ℕ → List ℕ → ℕ → ℕ
sum word sequence j = cond (ltb j 203) (bit_xor (get_or word j 0) (get_or sequence j 0)) (get_or word j 0)

pub sum_below : (word sequence : List ℕ) (j : ℕ) → j < 203
    → bit_xor (get_or word j 0) (get_or sequence j 0) ≡ sum word sequence j
sum_below word sequence j h = unfold sum in rw (lt-ltb j 203 h) refl

pub sum_behind : (word sequence : List ℕ) (j : ℕ) → 203 ≤ j → get_or word j 0 ≡ sum word sequence j
sum_behind word sequence j h = unfold sum in rw (le-ltb j 203 h) refl
