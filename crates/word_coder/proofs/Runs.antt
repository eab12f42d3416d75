-- What goes from word to word of a frame, and that the step of a word carries it on.
--     RunAt              what a run holds before word p
--     Stepped            what its step gives: what holds before word p + 1, and the frame's symbols
--     word_stepped       the step gives it
use mathlib.Core.Path.{◌≡◌, refl, sym, ap, ◌∙◌, subst}
use mathlib.Core.List.{List}
use Prim.Native.Nat.{ℕ, ◌+◌, ◌-◌, ◌*◌, ◌/◌, ◌%◌, ◌<◌, ◌≤◌}
use native.Mathlib.Nat.{mul-le-mul, mul-add, mul_comm, add_assoc, mod-eq_of_lt}
use native.Mathlib.Decide.{dec_lt}
use native.Mathlib.Omega.{arith}
use lib.ListN.{get_or}
use borrow.Author.Tests.{lt-ltb, le-ltb}
use Rattle.lists.specs.Binary.{binary}
use Rattle.lists.proofs.Tabs.{get_d_tab}
use Rattle.lists.proofs.Binaries.{binary_cong}
use Rattle.settings.specs.Sizes.{packets_by_rate}
use Rattle.settings.proofs.LegalSettings.{LegalRate, LegalBits}
use Rattle.rules.specs.Code.{bit_back}
use Rattle.puncturing.specs.Block.{block_bits, block_kept, block_table, block_by}
use Rattle.rules.proofs.Kept.{kept_lt}
use Rattle.puncturing.proofs.Linear.{block_by_table, legal_true}
use Rattle.bit_interleaver.specs.Symbols.{symbol_at}
use Rattle.bit_interleaver.proofs.Joining.{symbol_joined}
use Rattle.word_coder.specs.declared.Run.{Run}
use Rattle.word_coder.specs.declared.Coded.{Coded}
use Rattle.rules.proofs.Counts.{per_block, blocks_in, whole_blocks, left_over, counted, placed, split, each}
use Rattle.dispersing_interleaver.specs.Stream.{stream_bit}
use Rattle.dispersing_interleaver.proofs.Streams.{MessageIn}
use Rattle.word_coder.specs.Step.{bits_of_block, kept_of_block, symbol_in, symbol_at_place, symbols_behind, stepped_by}
use Rattle.word_coder.specs.Step.{stepped, step_of}
use Rattle.rules.specs.Frame.{Frame, message_bit, kept_bit_of}

-- before word p: how many message bits no block has taken, and the last 120 symbols
pub record RunAt (frame : Frame) (p : ℕ) (run : Run) : Type 0 where
  pub left_is : run.left ≡ left_over (packets_by_rate frame.rate) p
  pub history_is : (i : ℕ) → i < 120 → get_or run.history i 0
      ≡ symbol_at frame.v frame.lines (kept_bit_of frame)
      (per_block frame.v * whole_blocks (packets_by_rate frame.rate) p + i)

-- what the step of word p gives
pub record Stepped (frame : Frame) (p : ℕ) (coded : Coded) : Type 0 where
  pub run_at : RunAt frame (p + 1) coded.run
  pub symbols_at : (i : ℕ) → i < 120 + coded.count → get_or coded.symbols i 0
      ≡ symbol_at frame.v frame.lines (kept_bit_of frame)
      (per_block frame.v * whole_blocks (packets_by_rate frame.rate) p + i)
  pub next : per_block frame.v * whole_blocks (packets_by_rate frame.rate) p + coded.count
      ≡ per_block frame.v * whole_blocks (packets_by_rate frame.rate) (p + 1)
  pub few : coded.count ≤ 1632

module _ (frame : Frame) (rate_legal : LegalRate frame.rate) (bits-legal : LegalBits frame.v)
    (entries : (k : ℕ) → get_or frame.lines k 0 < 2) (p : ℕ) (run : Run) (at : RunAt frame p run) (stream : List ℕ)
    (holds : MessageIn frame p stream) where
  abbrev size : ℕ
  size = packets_by_rate frame.rate

  abbrev before : ℕ
  before = left_over size p

  abbrev message : ℕ → ℕ
  message = message_bit frame

  abbrev symbol : ℕ → ℕ
  symbol = symbol_at frame.v frame.lines (kept_bit_of frame)

  -- ---- the blocks, and the symbols

  abbrev first : ℕ
  first = whole_blocks size p

  abbrev blocks : ℕ
  blocks = blocks_in size before

  block_bits_is : (s : ℕ) → s < blocks
      → bits_of_block size before stream s ≡ block_bits frame.rate frame.register message (first + s)
  unfolding bits_of_block block_bits
  block_bits_is s h =
      binary_cong (6 + size) (λ i. stream_bit stream (26 - before + size * s + i))
      (λ i. bit_back frame.register message (size * (first + s) + i) 6) (λ i lt.
      let place = placed rate_legal p s i h lt in
      holds.bit_is (26 - before + size * s + i) place.inside place.begun
      ∙ ap (λ (n : ℕ). bit_back frame.register message n 6) place.is)

  abbrev table : List ℕ
  table = block_table frame.rate

  abbrev kept : ℕ → ℕ
  kept = kept_of_block table size before stream

  block_kept_is : (s : ℕ) → s < blocks → kept s ≡ binary 24 (λ i. kept_bit_of frame (24 * (first + s) + i))
  unfolding kept_of_block kept_bit_of block_kept
  block_kept_is s h =
      ap (block_by table) (block_bits_is s h) ∙ block_by_table rate_legal frame.register message (first + s)

  kept_bit : (c : ℕ) → kept_bit_of frame c < 2
  kept_bit c = unfold kept_bit_of in kept_lt frame.rate frame.register message c

  symbol_in_is : (i : ℕ) → i < blocks * per_block frame.v
      → symbol_in kept frame.v i ≡ symbol (per_block frame.v * first + (120 + i))
  symbol_in_is i h =
      unfold symbol_in in let v = frame.v in
      let parts = split bits-legal first blocks i h in
      let one = each bits-legal in
      let place : 120 + (per_block v * (first + i / per_block v) + i % per_block v) ≡ per_block v * first + (120 + i) =
      omega (arith, parts.is) in
      symbol_joined v frame.lines (kept_bit_of frame) entries kept_bit (per_block v) (first + i / per_block v)
      (i % per_block v) (kept (i / per_block v)) one.some one.whole parts.within
      (block_kept_is (i / per_block v) parts.block) ∙ ap symbol place

  abbrev symbols : List ℕ
  symbols = symbols_behind kept blocks frame.v run.history

  -- how many symbols the word has
  abbrev count : ℕ
  count = blocks * per_block frame.v

  count_most : count ≤ 1632
  count_most = mul-le-mul (counted rate_legal p).most (each bits-legal).few

  -- the symbols of the word and the 120 before them are the frame's
  symbols_are : (i : ℕ) → i < 120 + count → get_or symbols i 0 ≡ symbol (per_block frame.v * first + i)
  unfolding symbols_behind symbol_at_place
  symbols_are i lt =
      get_d_tab 1760 (symbol_at_place kept blocks frame.v run.history) i (omega (arith, count_most))
      ∙ elim (dec_lt i 120) [
        | yes h ↦ rw (lt-ltb i 120 h) (at.history_is i h)
        | no h ↦
            let place : 120 + (i - 120) ≡ i = omega arith in
            rw (le-ltb i 120 (omega arith), lt-ltb i (120 + count) lt)
            (symbol_in_is (i - 120) (omega arith) ∙ ap (λ (k : ℕ). symbol (per_block frame.v * first + k)) place)
      ]

  -- ---- the step

  step_is : step_of table frame.rate frame.v run stream ≡ stepped_by size before frame.v symbols
  step_is =
      unfold step_of stepped in let left : run.left % size ≡ before =
      ap (λ (n : ℕ). n % size) at.left_is ∙ mod-eq_of_lt (counted rate_legal p).few in
      rw (legal_true rate_legal, left) refl

  -- the word's symbols go on to the first of the next word
  symbols_next : per_block frame.v * first + count ≡ per_block frame.v * whole_blocks size (p + 1)
  symbols_next =
      ap (λ (n : ℕ). per_block frame.v * first + n) (mul_comm blocks (per_block frame.v))
      ∙ sym (mul-add (per_block frame.v) first blocks)
      ∙ ap (λ (n : ℕ). per_block frame.v * n) (counted rate_legal p).next_blocks

  next_run : RunAt frame (p + 1) (stepped_by size before frame.v symbols).run
  next_run =
      unfold stepped_by in record {
        left_is = (counted rate_legal p).next_left;
        history_is = λ i lt.
            get_d_tab 120 (λ i. get_or symbols (count + i) 0) i lt ∙ symbols_are (count + i) (omega arith)
            ∙ ap symbol (sym (add_assoc (per_block frame.v * first) count i) ∙ ap (λ (n : ℕ). n + i) symbols_next);
      }

  pub word_stepped : (coded : Coded) → coded ≡ step_of table frame.rate frame.v run stream → Stepped frame p coded
  word_stepped coded e =
      unfold stepped_by in subst (Stepped frame p) (sym (e ∙ step_is))
      (record { run_at = next_run; symbols_at = symbols_are; next = symbols_next; few = count_most })
