-- The word sent, from a packet and its parity.
--     at_packet, at_parity, at_sync     its bytes
--     other_packet, other_parity        zeros where a length is another
--     whole_word                        where they are right, its 204 bytes
--     sent_is                           with the packet's own parity it is that of rule 1
use mathlib.Core.Path.{◌≡◌, refl, sym, ap, ◌∙◌}
use mathlib.Core.Bool.{cond}
use mathlib.Core.Logic.{◌≢◌}
use mathlib.Core.List.{List, ◌++◌}
use Prim.Native.Nat.{ℕ, ◌+◌, ◌-◌, ◌<◌}
use native.Mathlib.Decide.{dec_lt}
use native.Mathlib.Omega.{arith}
use lib.Dec.{ltb}
use lib.ListN.{length, get_or, replicate}
use borrow.Author.Tests.{lt-ltb, le-ltb, eq-eqb, ne_eqb}
use Rattle.lists.specs.Tab.{tab}
use Rattle.lists.proofs.Tabs.{tab_cong}
use Rattle.lists.proofs.Join.{get_d_first, get_d_second}
use Rattle.rules.specs.Word.{parity_of, codeword_of, sent_word}
use Rattle.remainder.proofs.Division.{length_parity}
use Rattle.codeword.specs.Sent.{word_sent_at, word_sent}

module _ (packet parity : List ℕ) where
  pub at_packet : (j : ℕ) → j < 187 → get_or packet (j + 1) 0 ≡ word_sent_at packet parity j
  at_packet j h = unfold word_sent_at in rw (lt-ltb j 187 h) refl

  pub at_parity : (j : ℕ) → j < 16 → get_or parity j 0 ≡ word_sent_at packet parity (187 + j)
  at_parity j h =
      unfold word_sent_at in let place : 187 + j - 187 ≡ j = omega arith in
      rw (le-ltb (187 + j) 187 (omega arith), lt-ltb (187 + j) 203 (omega arith), place) refl

  pub at_sync : 0x47 ≡ word_sent_at packet parity 203
  at_sync = unfold word_sent_at in refl

  pub other_packet : length packet ≢ 188 → replicate 204 0 ≡ word_sent packet parity
  other_packet other = unfold word_sent in rw (ne_eqb (length packet) 188 other) refl

  module _ (long : length packet ≡ 188) where
    pub other_parity : length parity ≢ 16 → replicate 204 0 ≡ word_sent packet parity
    other_parity other =
        unfold word_sent in rw (eq-eqb (length packet) 188 long, ne_eqb (length parity) 16 other) refl

    pub whole_word : length parity ≡ 16 → word_sent packet parity ≡ tab 204 (word_sent_at packet parity)
    whole_word sixteen =
        unfold word_sent in rw (eq-eqb (length packet) 188 long, eq-eqb (length parity) 16 sixteen) refl

-- "The word sent is bytes 1 to 203 of the codeword and then 47"
pub sent_is : (packet parity : List ℕ) → length packet ≡ 188 → parity ≡ parity_of packet
    → word_sent packet parity ≡ sent_word packet
unfolding word_sent_at sent_word codeword_of
sent_is packet parity long own =
    ap (word_sent packet) own ∙ whole_word packet (parity_of packet) long (length_parity packet)
    ∙ tab_cong 204 _ _ (λ j lt. byte j (dec_lt j 187) (dec_lt j 203))
  where
    byte : (j : ℕ) → Dec (j < 187) → Dec (j < 203) → cond (ltb j 187) (get_or packet (j + 1) 0)
        (cond (ltb j 203) (get_or (parity_of packet) (j - 187) 0) 0x47)
        ≡ cond (ltb j 203) (get_or (packet ++ parity_of packet) (j + 1) 0) 0x47
    byte j (yes h) (yes k) =
        rw (lt-ltb j 187 h, lt-ltb j 203 k) (sym (get_d_first packet _ (j + 1) (omega (arith, long))))
    byte j (yes h) (no k) = absurd (omega arith)
    byte j (no h) (yes k) =
        let place : j + 1 - length packet ≡ j - 187 = omega (arith, long) in
        rw (le-ltb j 187 (omega arith), lt-ltb j 203 k) (ap (λ (i : ℕ). get_or (parity_of packet) i 0) (sym place)
        ∙ sym (get_d_second packet _ (j + 1) (omega (arith, long))))
    byte j (no h) (no k) = rw (le-ltb j 187 (omega arith), le-ltb j 203 (omega arith)) refl
