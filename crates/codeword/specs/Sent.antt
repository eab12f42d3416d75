-- Rule 1: the word sent, from a packet and its parity.
--     word_sent_at    byte j of it
--     word_sent       all 204 bytes; zeros where a length is another than 188 or 16
-- proofs/Sent.antt: with the packet's own parity it is `sent_word` of `rules`.
use Rattle.std.specs.Prelude.{cond, ◌&&◌, List, ℕ, ◌+◌, ◌-◌, eqb, ltb, length, get_or, replicate}
use Rattle.lists.specs.Tab.{tab}

-- "bytes 1 to 203 of the codeword", which is the packet "then 16 parity bytes", "and then 47"
unfoldable pub word_sent_at : List ℕ → List ℕ → ℕ → ℕ
word_sent_at packet parity j =
    cond (ltb j 187) (get_or packet (j + 1) 0) (cond (ltb j 203) (get_or parity (j - 187) 0) 0x47)

unfoldable pub word_sent : List ℕ → List ℕ → List ℕ
word_sent packet parity =
    cond (eqb (length packet) 188 && eqb (length parity) 16) (tab 204 (word_sent_at packet parity)) (replicate 204 0)
