-- What the inner functions say of each other.
--     PairsIn             each is a received pair
--     word_of_pairs       the pairs of a word, from those of whole blocks
--     finished_by         a word goes in by its pairs
--     FramePairs          the pairs from block s of a frame on
--     PairsOfCall         the pairs of a word, behind those of its first block that are of the word before
--     pairs_by            the pairs of a word
--     receiving_closed    the state behind the last word
--     Handed              what is done with the n-th word
use Rattle.std.specs.Prelude.{◌≡◌, Bool, cond, List, ℕ, ◌+◌, ◌-◌, ◌*◌, ◌%◌, ◌<◌, ◌≤◌, length, get_or}
use Rattle.lists.specs.Tab.{tab}
use Rattle.settings.specs.declared.Settings.{Settings}
use Rattle.settings.specs.Sizes.{packets_by_rate}
use Rattle.rules.specs.Bytes.{waits_back, word_out, memory_after}
use Rattle.rules.specs.Bits.{lines_waiting}
use Rattle.rules.specs.Back.{received_digit, held_digit, pair_at, message_bytes, register_of, last_kept, held_count, held_after}
use Rattle.received_bits.specs.Received.{whole_blocks}
use Rattle.nearest.specs.Slot.{Slot}
use Rattle.receiving_state.specs.declared.State.{State}
use Rattle.receiver.specs.declared.words.Run.{Run}
use Rattle.receiver.specs.declared.words.Finished.{Finished}
use Rattle.receiving_answers.specs.Words.{message_of}
use Rattle.receiving_answers.specs.Receiving.{last_carriers, slot_of}

pub record PairsIn (pairs : List ℕ) : Type 0 where
  pub few : (i : ℕ) → get_or pairs i 0 < 9

unfoldable pub word_of_pairs : List ℕ → ℕ → List ℕ
word_of_pairs pairs lead = tab 1632 (λ i. get_or pairs (lead + i) 0)

unfoldable pub finished_by : Run → List ℕ → Finished
finished_by run pairs =
    let message = message_of pairs run.register in
    record {
      run = record {
        memory = memory_after waits_back run.memory (λ b. get_or (message_bytes message) b 0) 1;
        register = register_of message;
      };
      word = word_out waits_back run.memory (message_bytes message);
    }

pub record FramePairs (v rate s : ℕ) (carriers pairs : List ℕ) : Type 0 where
  pub few : PairsIn pairs
  pub at : (i : ℕ) → i < whole_blocks rate
      → get_or pairs i 0 ≡ pair_at rate (received_digit v carriers) (packets_by_rate rate * s + i)

-- the digits of this frame, or of the last word of the frame before
unfoldable pub digit_by : Settings → Bool → List ℕ → List ℕ → List ℕ → ℕ → ℕ
digit_by settings last held lines carriers c =
    cond last (held_digit settings.v (last_kept settings) (held_count settings) held lines carriers c)
    (received_digit settings.v carriers c)

pub record PairsOfCall (settings : Settings) (last : Bool) (number : ℕ)
    (held lines carriers pairs : List ℕ) : Type 0 where
  pub few : PairsIn pairs
  pub at : (i : ℕ) → i < 1632
      → get_or pairs (1632 * number % packets_by_rate settings.rate + i) 0
      ≡ pair_at settings.rate (digit_by settings last held lines carriers) (1632 * number + i)

unfoldable pub pairs_by : Settings → Bool → ℕ → List ℕ → List ℕ → List ℕ → List ℕ
pairs_by settings last number held lines carriers =
    tab 1632 (λ i. pair_at settings.rate (digit_by settings last held lines carriers) (1632 * number + i))

-- the state behind the last word
unfoldable pub receiving_closed : Settings → Run → List ℕ → State
receiving_closed settings run carriers =
    record {
      settings = settings;
      taken = 1;
      memory = run.memory;
      lines = lines_waiting settings.v (last_carriers carriers);
      register = run.register;
      held = held_after settings carriers;
    }

-- the n-th word fills its slot, but for the first ones, which are passed over
pub record Handed (passed n : ℕ) (received slots slots' : List ℕ) : Type 0 where
  pub long : length slots' ≡ length slots
  pub over : n < passed → slots' ≡ slots
  pub slot : passed ≤ n → Slot received (slot_of slots' (n - passed))
  pub front : (b : ℕ) → b < 189 * (n - passed) → get_or slots' b 0 ≡ get_or slots b 0
  pub behind : (b : ℕ) → 189 * (n - passed) + 189 ≤ b → get_or slots' b 0 ≡ get_or slots b 0
