-- Rule 2 over a word.
--     fifteen_digits, load_digits     digits of fifteen stages; those of the load
--     byte_lt                         a byte of the generator is a byte
--     dispersed_twice                 dispersing twice gives the word back
--     length_dispersed                a dispersed word has 204 bytes
--     dispersed_difference            two dispersed words differ as the words do
--     first_bytes                     "dispersal, first four bytes: 03 F6 08 34"
use mathlib.Core.Path.{◌≡◌, refl, sym, ap, ap₂, ◌∙◌}
use mathlib.Core.Bool.{Bool, true, false, cond}
use mathlib.Core.List.{List, [], ◌∷◌}
use Prim.Native.Nat.{ℕ, ◌+◌, ◌*◌, ◌<◌}
use native.Mathlib.Omega.{arith}
use lib.Bits.{bit_xor, xor_self, xor_zero_r}
use lib.Dec.{ltb, ltb→lt}
use lib.ListN.{length, get_or, get_or-eq_default}
use Rattle.lists.specs.Tab.{tab}
use Rattle.lists.specs.Binary.{binary}
use Rattle.lists.proofs.Tabs.{length_tab, get_d_tab, tab_ext}
use Rattle.lists.proofs.Xor.{xor_cancel, xor_exchange}
use Rattle.rules.specs.Dispersal.{load, held, output, byte_from, sequence_byte, dispersed}
use Rattle.rules.proofs.Tape.{Digits, tape_bit, output_tape}
use native.Mathlib.Decide.{dec_lt}
use Rattle.lists.proofs.Every.{at as each}
use Rattle.lists.proofs.Binaries.{binary_lt}

pub fifteen_digits : (l : List ℕ) → length l ≡ 15 → ((k : ℕ) → k < 15 → get_or l k 0 < 2) → Digits l
fifteen_digits l long small k = elim (dec_lt k 15) [
  | yes h ↦ small k h
  | no h ↦ omega (arith, get_or-eq_default l 0 {n = k} (omega arith))
]

pub load_digits : Digits load
load_digits =
    fifteen_digits load refl
    (λ k h. ltb→lt (get_or load k 0) 2 (each (λ (i : ℕ). ltb (get_or load i 0) 2) 15 tt k h))

-- A byte of the generator, from digits on.
pub byte_lt : (start : List ℕ) → Digits start → (b : ℕ) → byte_from start b < 256
byte_lt start digits b =
    unfold byte_from in binary_lt 8 (λ l. output start (8 * b + l))
    (λ l. rw (output_tape start (8 * b + l)) (tape_bit start digits (8 * b + l + 15)))

twice : (b : Bool) (x y : ℕ) → cond b (bit_xor (cond b (bit_xor x y) x) y) (cond b (bit_xor x y) x) ≡ x
twice true x y = xor_cancel x y
twice false x y = refl

-- Dispersing twice gives the word back.
pub dispersed_twice : (place : ℕ) (word : List ℕ) → length word ≡ 204 → dispersed place (dispersed place word) ≡ word
unfolding dispersed
dispersed_twice place word long = sym (tab_ext 204 _ word long (λ j h. sym (once j h)))
  where
    sequence : ℕ → ℕ
    sequence j = sequence_byte (204 * place + j)

    rule : ℕ → ℕ
    rule j = cond (ltb j 203) (bit_xor (get_or word j 0) (sequence j)) (get_or word j 0)

    once : (j : ℕ) → j < 204
        → cond (ltb j 203) (bit_xor (get_or (tab 204 rule) j 0) (sequence j)) (get_or (tab 204 rule) j 0)
        ≡ get_or word j 0
    once j h =
        ap (λ (x : ℕ). cond (ltb j 203) (bit_xor x (sequence j)) x) (get_d_tab 204 rule j h)
        ∙ twice (ltb j 203) (get_or word j 0) (sequence j)

pub length_dispersed : (place : ℕ) (word : List ℕ) → length (dispersed place word) ≡ 204
length_dispersed place word = unfold dispersed in length_tab 204 _

same_sum : (b : Bool) (x y s : ℕ) → bit_xor (cond b (bit_xor x s) x) (cond b (bit_xor y s) y) ≡ bit_xor x y
same_sum true x y s =
    xor_exchange x s y s ∙ ap (λ (z : ℕ). bit_xor (bit_xor x y) z) (xor_self s) ∙ xor_zero_r (bit_xor x y)
same_sum false x y s = refl

pub dispersed_difference : (place : ℕ) (one other : List ℕ) (j : ℕ) → j < 204
    → bit_xor (get_or (dispersed place one) j 0) (get_or (dispersed place other) j 0)
    ≡ bit_xor (get_or one j 0) (get_or other j 0)
unfolding dispersed
dispersed_difference place one other j h =
    ap₂ (λ (x y : ℕ). bit_xor x y) (get_d_tab 204 (rule one) j h) (get_d_tab 204 (rule other) j h)
    ∙ same_sum (ltb j 203) (get_or one j 0) (get_or other j 0) (sequence_byte (204 * place + j))
  where
    rule : List ℕ → ℕ → ℕ
    rule word j = cond (ltb j 203) (bit_xor (get_or word j 0) (sequence_byte (204 * place + j))) (get_or word j 0)

pub first_bytes : tab 4 sequence_byte ≡ 0x03 ∷ 0xF6 ∷ 0x08 ∷ 0x34 ∷ []
first_bytes = unfold tab sequence_byte byte_from binary output held in refl
