-- A word received as it was sent, from a byte on, gives its packet, with no more bytes corrected than come before.
--     dispersed_byte     the bytes of a dispersed word are below 256
--     taken_off          dispersal is taken off where it was put on
--     packet_given       bytes 0 to 202 of such a word allow one slot alone
use mathlib.Core.Path.{◌≡◌, sym, ap, ◌∙◌}
use mathlib.Core.Bool.{Bool, true, false, cond}
use mathlib.Core.List.{List, ◌∷◌}
use Prim.Native.Nat.{ℕ, suc, ◌+◌, ◌*◌, ◌%◌, ◌<◌, ◌≤◌}
use native.Mathlib.Omega.{arith}
use lib.Bits.{bit_xor, xor_lt}
use lib.Dec.{ltb}
use lib.ListN.{length, get_or, take}
use lib.Seq.{length-take-le, get_or-take, take-append_seam}
use borrow.Author.Tests.{lt-ltb}
use Rattle.lists.proofs.Tabs.{length_tab, get_d_tab}
use Rattle.lists.proofs.Join.{get_d_first}
use Rattle.rules.specs.Word.{parity_of, packet_at, codeword_of, sent_word}
use Rattle.rules.proofs.Packets.{length_packet}
use Rattle.field.proofs.Values.{byte_at}
use Rattle.nearest.specs.Codeword.{Codeword, distance}
use Rattle.codeword.proofs.Message.{packet_codeword}
use Rattle.nearest.specs.Slot.{restored, Slot}
use Rattle.nearest.proofs.Near.{restored_near, near_gives}
use Rattle.rules.specs.Dispersal.{load, sequence_byte, dispersed}
use Rattle.rules.proofs.DispersedWords.{load_digits, byte_lt, dispersed_twice}
use Rattle.demands.specs.CameBack.{PacketGiven}

sequence_lt : (b : ℕ) → sequence_byte b < 256
sequence_lt b = unfold sequence_byte in byte_lt load load_digits b

module _ (packets : List ℕ) (p : ℕ) (bytes : (k : ℕ) → get_or packets k 0 < 256) where
  abbrev word : List ℕ
  word = sent_word (packet_at packets p)

  length_word : length word ≡ 204
  length_word = unfold sent_word in length_tab 204 _

  code : Codeword (codeword_of (packet_at packets p))
  code = unfold codeword_of in packet_codeword packets p bytes

  word_byte : (j : ℕ) → j < 204 → get_or word j 0 < 256
  unfolding sent_word
  word_byte j h =
      rw (get_d_tab 204 (λ j. cond (ltb j 203) (get_or (codeword_of (packet_at packets p)) (j + 1) 0) 0x47) j h)
      (go (ltb j 203))
    where
      go : (b : Bool) → cond b (get_or (codeword_of (packet_at packets p)) (j + 1) 0) 0x47 < 256
      go true = byte_at (codeword_of (packet_at packets p)) (j + 1) code.bytes
      go false = omega arith

  pub dispersed_byte : (place j : ℕ) → j < 204 → get_or (dispersed place word) j 0 < 256
  unfolding dispersed
  dispersed_byte place j h =
      rw (get_d_tab 204
      (λ j. cond (ltb j 203) (bit_xor (get_or word j 0) (sequence_byte (204 * place + j))) (get_or word j 0)) j h)
      (go (ltb j 203))
    where
      go : (b : Bool) → cond b (bit_xor (get_or word j 0) (sequence_byte (204 * place + j))) (get_or word j 0) < 256
      go true =
          xor_lt 8 (get_or word j 0) (sequence_byte (204 * place + j)) (word_byte j h) (sequence_lt (204 * place + j))
      go false = word_byte j h

  -- "dispersal is removed at that word's place in its frame"
  pub taken_off : (place : ℕ) (finished : List ℕ) (j : ℕ) → j < 204
      → get_or finished j 0 ≡ get_or (dispersed place word) j 0 % 256
      → get_or (dispersed place finished) j 0 ≡ get_or word j 0
  taken_off place finished j h same =
      let small = dispersed_byte place j h in
      let byte : get_or finished j 0 ≡ get_or (dispersed place word) j 0 = same ∙ omega arith in
      at finished ∙ ap (λ (b : ℕ). cond (ltb j 203) (bit_xor b (sequence_byte (204 * place + j))) b) byte
      ∙ sym (at (dispersed place word)) ∙ ap (λ (l : List ℕ). get_or l j 0) (dispersed_twice place word length_word)
    where
      at : (l : List ℕ) → get_or (dispersed place l) j 0
          ≡ cond (ltb j 203) (bit_xor (get_or l j 0) (sequence_byte (204 * place + j))) (get_or l j 0)
      at l =
          unfold dispersed in get_d_tab 204
          (λ j. cond (ltb j 203) (bit_xor (get_or l j 0) (sequence_byte (204 * place + j))) (get_or l j 0)) j h

  module _ (begins : get_or packets (188 * p) 0 ≡ 0x47) where
    abbrev codeword : List ℕ
    codeword = codeword_of (packet_at packets p)

    first_byte : get_or codeword 0 0 ≡ 0x47
    unfolding codeword_of packet_at
    first_byte =
        get_d_first (packet_at packets p) (parity_of (packet_at packets p)) 0 (omega (arith, length_packet packets p))
        ∙ get_d_tab 188 (λ j. get_or packets (188 * p + j) 0) 0 (omega arith)
        ∙ ap (λ (k : ℕ). get_or packets k 0) (omega arith) ∙ begins

    front : take 188 codeword ≡ packet_at packets p
    front =
        unfold codeword_of in ap (λ (n : ℕ). take n codeword) (sym (length_packet packets p))
        ∙ take-append_seam (packet_at packets p) (parity_of (packet_at packets p))

    -- the word sent is bytes 1 to 203 of the codeword
    word_of : (j : ℕ) → j < 203 → get_or word j 0 ≡ get_or codeword (suc j) 0
    unfolding sent_word
    word_of j lt =
        get_d_tab 204 (λ j. cond (ltb j 203) (get_or codeword (j + 1) 0) 0x47) j (omega arith)
        ∙ rw (lt-ltb j 203 lt) (ap (λ (n : ℕ). get_or codeword n 0) (omega arith))

    pub packet_given : (from : ℕ) → from ≤ 8 → (finished : List ℕ) → length finished ≡ 204
        → ((j : ℕ) → from ≤ j → j < 204 → get_or finished j 0 ≡ get_or word j 0)
        → (slot : List ℕ) → Slot (take 203 finished) slot → PacketGiven from (packet_at packets p) slot
    packet_given from few finished long same slot allowed =
        let received = take 203 finished in
        let size : length received ≡ 203 = length-take-le 203 finished (omega arith) in
        let near = restored_near from received codeword (code.long ∙ ap suc (sym size)) first_byte
        (λ j h lt. sym (get_or-take 203 finished j 0 (omega arith) ∙ same j h (omega arith) ∙ word_of j (omega arith)))
        in
        record {
          corrected = distance codeword (restored received);
          few = near;
          slot_is = near_gives received codeword slot size code (omega arith) first_byte allowed
              ∙ ap (λ (l : List ℕ). distance codeword (restored received) ∷ l) front;
        }
