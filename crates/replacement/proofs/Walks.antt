-- The difference frame's words on their way through rules 2 and 3.
--     Walked                       what the memory, the stream and the word hold before word p
--     walked_opened                before the packet's word
--     walked_word, walked_more     word p in the stream, and one word more
use mathlib.Core.Path.{◌≡◌, sym, ap₂, ◌∙◌, subst}
use mathlib.Core.Bool.{Bool, cond}
use mathlib.Core.List.{List}
use Prim.Native.Nat.{ℕ, ◌+◌, ◌*◌, ◌/◌, ◌%◌, ◌<◌, ◌≤◌}
use native.Mathlib.Decide.{dec_lt}
use native.Mathlib.Omega.{arith}
use lib.Bits.{bit_xor, xor_zero_r}
use lib.Dec.{ltb}
use lib.ListN.{get_or, replicate}
use borrow.Author.Tests.{eq-eqb, lt-ltb, le-ltb}
use Rattle.lists.proofs.Tabs.{get_d_tab}
use Rattle.settings.specs.declared.Settings.{Settings}
use Rattle.settings.proofs.LegalSettings.{Legal}
use Rattle.remainder.proofs.Zeros.{zeros_at}
use Rattle.rules.specs.Bytes.{waits_there, memory_at_start, word_out, memory_after}
use Rattle.dispersal.specs.Register.{added}
use Rattle.dispersing_interleaver.specs.Stream.{stream_after}
use Rattle.dispersing_interleaver.proofs.Streams.{StreamAt, MessageIn, WordAt, message_in, stream_more}
use Rattle.coding_answers.specs.Replacement.{difference_word, difference_byte, difference_frame}
use Rattle.coding_answers.proofs.Difference.{difference_other}
use Rattle.replacement.proofs.Silent.{stream_silent}

-- with a sequence of zeros added, a word is as it was
silent_byte : (word : List ℕ) (k : ℕ) → k < 204 → get_or (added word (replicate 204 0)) k 0 ≡ get_or word k 0
silent_byte word k lt =
    unfold added in get_d_tab 204
    (λ j. cond (ltb j 203) (bit_xor (get_or word j 0) (get_or (replicate 204 0) j 0)) (get_or word j 0)) k lt
    ∙ elim (dec_lt k 203) [
      | yes h ↦ rw (lt-ltb k 203 h, zeros_at 204 k) (xor_zero_r (get_or word k 0))
      | no h ↦ rw (le-ltb k 203 (omega arith))
    ]

pub record Walked (settings : Settings) (number : ℕ) (old new : List ℕ) (p : ℕ) (memory stream word : List ℕ)
    : Type 0 where
  pub stream_at : StreamAt (difference_frame settings number old new) p memory stream
  pub word_at : WordAt (difference_frame settings number old new) p word

module _ (settings : Settings) (legal : Legal settings) (number : ℕ) (old new : List ℕ) where
  own_word : WordAt (difference_frame settings number old new) number (difference_word old new)
  own_word k lt =
      unfold difference_frame difference_byte in let own : (204 * number + k) / 204 ≡ number = omega arith in
      let byte : (204 * number + k) % 204 ≡ k = omega arith in
      sym (ap₂ (λ (mine : Bool) (j : ℕ). cond mine (get_or (difference_word old new) j 0) 0)
      (eq-eqb ((204 * number + k) / 204) number own) byte)

  pub walked_opened : (word : List ℕ) → word ≡ difference_word old new
      → Walked settings number old new number (replicate 1122 0) (replicate 212 0) word
  walked_opened word e =
      unfold memory_at_start in record {
        stream_at = stream_silent settings legal.rate legal.bits number old new;
        word_at = subst (WordAt (difference_frame settings number old new) number) (sym e) own_word;
      }

  zero_word : (p : ℕ) → (p ≡ number → ⊥) → WordAt (difference_frame settings number old new) p (replicate 204 0)
  unfolding difference_frame
  zero_word p other k lt =
      zeros_at 204 k ∙ sym (difference_other number old new (204 * p + k) (λ e. other (omega arith)))

  module _ (p : ℕ) (memory stream word : List ℕ) (at : Walked settings number old new p memory stream word)
      (stream' : List ℕ)
      (walked : stream' ≡ stream_after stream (word_out waits_there memory (added word (replicate 204 0)))) where
    goes_in : WordAt (difference_frame settings number old new) p (added word (replicate 204 0))
    goes_in k lt = silent_byte word k lt ∙ at.word_at k lt

    pub walked_word : MessageIn (difference_frame settings number old new) p stream'
    walked_word =
        message_in (difference_frame settings number old new) p memory stream at.stream_at
        (added word (replicate 204 0)) goes_in stream' walked

    pub walked_more : number ≤ p → (memory' : List ℕ)
        → memory' ≡ memory_after waits_there memory (λ b. get_or (added word (replicate 204 0)) b 0) 1
        → Walked settings number old new (p + 1) memory' stream' (replicate 204 0)
    walked_more begun memory' m =
        record {
          stream_at =
              stream_more (difference_frame settings number old new) p memory stream at.stream_at
              (added word (replicate 204 0)) goes_in memory' stream' m walked;
          word_at = zero_word (p + 1) (λ same. omega arith);
        }
