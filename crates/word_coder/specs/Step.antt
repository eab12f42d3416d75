-- Rules 4 to 6 for one word, by blocks of message bits that keep 24 coded bits each.
--     per_block         how many symbols 24 kept bits are
--     blocks_in         how many blocks a word completes, `left` being the message bits before it that none has taken
--     bits_of_block     the bits of a block and the six before them
--     kept_of_block     the 24 kept bits of a block
--     symbol_in         a symbol of the word
--     KeptIn            the kept bits of some blocks in a list
--     symbols_behind    the symbols of the word behind the 120 before them
--     step_of           the step: the symbols, how many the word has, and what goes on to the next word
-- `stream` is that of `dispersing_interleaver` after the word: its bit 32 is the first of the 1,632 message bits.
use Rattle.std.specs.Prelude.{◌≡◌, cond, List, ℕ, ◌+◌, ◌-◌, ◌*◌, ◌/◌, ◌%◌, ◌<◌, ltb, get_or}
use Rattle.lists.specs.Binary.{binary}
use Rattle.lists.specs.Tab.{tab}
use Rattle.settings.specs.Legal.{legal_rate}
use Rattle.settings.specs.Sizes.{packets_by_rate}
use Rattle.dispersing_interleaver.specs.Stream.{stream_bit}
use Rattle.puncturing.specs.Block.{block_by}
use Rattle.bit_interleaver.specs.Symbols.{symbol_of}
use Rattle.word_coder.specs.declared.Run.{Run}
use Rattle.word_coder.specs.declared.Coded.{Coded}
use Rattle.rules.proofs.Counts.{blocks_in, per_block}

-- Block s of the word begins `left` bits before the word's first message bit for s = 0, and its bits six earlier.
unfoldable pub bits_of_block : ℕ → ℕ → List ℕ → ℕ → ℕ
bits_of_block size left stream s = binary (6 + size) (λ i. stream_bit stream (26 - left + size * s + i))

-- The 24 kept bits of block s.
unfoldable pub kept_of_block : List ℕ → ℕ → ℕ → List ℕ → ℕ → ℕ
kept_of_block table size left stream s = block_by table (bits_of_block size left stream s)

-- Symbol i of some blocks, `kept s` being the kept bits of block s.
unfoldable pub symbol_in : (ℕ → ℕ) → ℕ → ℕ → ℕ
symbol_in kept v i = symbol_of v (kept (i / per_block v)) (i % per_block v)

-- a list holds the kept bits of the first blocks
pub record KeptIn (kept : ℕ → ℕ) (blocks : ℕ) (list : List ℕ) : Type 0 where
  pub at : (s : ℕ) → s < blocks → get_or list s 0 ≡ kept s

-- 120 symbols in front of nothing
unfoldable pub only_history : List ℕ → List ℕ
only_history history = tab 1760 (λ place. cond (ltb place 120) (get_or history place 0) 0)

-- Symbol i of the word stands at place 120 + i; the places behind the last are 0.
unfoldable pub symbol_at_place : (ℕ → ℕ) → ℕ → ℕ → List ℕ → ℕ → ℕ
symbol_at_place kept blocks v history place =
    cond (ltb place 120) (get_or history place 0)
    (cond (ltb place (120 + blocks * per_block v)) (symbol_in kept v (place - 120)) 0)

unfoldable pub symbols_behind : (ℕ → ℕ) → ℕ → ℕ → List ℕ → List ℕ
symbols_behind kept blocks v history = tab 1760 (symbol_at_place kept blocks v history)

unfoldable pub stepped_by : ℕ → ℕ → ℕ → List ℕ → Coded
stepped_by size left v symbols =
    record {
      run = record {
        left = (left + 1632) % size;
        history = tab 120 (λ i. get_or symbols (blocks_in size left * per_block v + i) 0);
      };
      symbols = symbols;
      count = blocks_in size left * per_block v;
    }

unfoldable pub stepped : List ℕ → ℕ → ℕ → ℕ → Run → List ℕ → Coded
stepped table size left v run stream =
    stepped_by size left v
    (symbols_behind (kept_of_block table size left stream) (blocks_in size left) v run.history)

-- With a number that is no rate there are no blocks: nothing goes on, and nothing comes out.
unfoldable pub idle : Run → Coded
idle run = record { run = run; symbols = only_history run.history; count = 0 }

unfoldable pub step_of : List ℕ → ℕ → ℕ → Run → List ℕ → Coded
step_of table rate v run stream =
    cond (legal_rate rate)
    (stepped table (packets_by_rate rate) (run.left % packets_by_rate rate) v run stream)
    (idle run)
