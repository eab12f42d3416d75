-- The difference frame in symbols: before its packet's word and from the thirteenth word after that on it has no bit on
-- any carrier, and none on the lines.
--     symbols_before                   how many symbols the words before word p have
--     stream_silent, run_quiet         before its packet's word the stream and the run hold zeros
--     carrier_before, carrier_after    no bit on the carriers of the other words
--     lines_still                      behind the last of these words the lines are the same, however many come
use mathlib.Core.Path.{◌≡◌, refl, sym, ap, ◌∙◌}
use mathlib.Core.List.{List}
use Prim.Native.Nat.{ℕ, ◌+◌, ◌-◌, ◌*◌, ◌/◌, ◌%◌, ◌^◌, ◌<◌, ◌≤◌}
use native.Mathlib.Nat.{zero-div, mul-le-mul_right, add-mul}
use native.Mathlib.Decide.{dec_lt}
use native.Mathlib.Omega.{arith}
use lib.ListN.{replicate}
use borrow.Author.Tests.{lt-ltb, le-ltb}
use Rattle.lists.proofs.Binaries.{binary_cong}
use Rattle.settings.specs.declared.Settings.{Settings}
use Rattle.settings.specs.Sizes.{packets_by_rate}
use Rattle.settings.specs.Patterns.{pattern_length, kept_below}
use Rattle.settings.proofs.LegalSettings.{LegalRate, half, two_thirds, three_quarters, five_sixths, seven_eighths}
use Rattle.settings.proofs.LegalSettings.{bits_most, LegalBits, qpsk, qam16, qam64}
use Rattle.settings.proofs.Patterns.{kept_below_closed, begun}
use Rattle.remainder.proofs.Zeros.{zeros_at}
use Rattle.rules.specs.Bytes.{memory_at_start}
use Rattle.rules.specs.Code.{bit_back}
use Rattle.rules.proofs.CodeWindows.{back_message, back_register}
use Rattle.rules.specs.Bits.{delay_of, lines_at_start, line_bit, carrier_at, lines_after}
use Rattle.bit_interleaver.specs.Symbols.{entry_before, history_bit, symbol_at}
use Rattle.rules.proofs.Entries.{in_lines_cong}
use Rattle.rules.proofs.Shown.{start_zero, kept_below_is, line_start, line_late}
use Rattle.rules.proofs.Widths.{delay_most}
use Rattle.rules.proofs.Counts.{per_block, whole_blocks}
use Rattle.dispersing_interleaver.specs.Stream.{stream_bit}
use Rattle.dispersing_interleaver.proofs.Streams.{StreamAt}
use Rattle.rules.specs.Frame.{Frame, message_bit, kept_bit_of, carrier_value, lines_behind}
use Rattle.word_coder.proofs.Runs.{RunAt}
use Rattle.coding_answers.specs.Replacement.{difference_frame}
use Rattle.replacement.specs.Steps.{quiet_run}
use Rattle.coding_answers.proofs.Outside.{zeros_binary}
use Rattle.coding_answers.proofs.Quiet.{message_before, kept_before, kept_after, memory_before}

abbrev pub symbols_before : Settings → ℕ → ℕ
symbols_before settings p = per_block settings.v * whole_blocks (packets_by_rate settings.rate) p

-- ---- kept bits and symbols

-- the whole blocks of the words before word p keep no more than these words do
blocks_kept : {rate : ℕ} → LegalRate rate → (p : ℕ)
    → 24 * whole_blocks (packets_by_rate rate) p ≤ kept_below rate (1632 * p)
unfolding packets_by_rate pattern_length begun
blocks_kept half p = let e = kept_below_closed half (1632 * p) in omega arith
blocks_kept two_thirds p = let e = kept_below_closed two_thirds (1632 * p) in omega arith
blocks_kept three_quarters p = let e = kept_below_closed three_quarters (1632 * p) in omega arith
blocks_kept five_sixths p = let e = kept_below_closed five_sixths (1632 * p) in omega arith
blocks_kept seven_eighths p = let e = kept_below_closed seven_eighths (1632 * p) in omega arith

-- a word keeps so many bits that the last 120 of its carriers have none of its first six message bits
word_kept : {rate : ℕ} → LegalRate rate → (p : ℕ)
    → kept_below rate (1632 * p + 6) + 720 ≤ 24 * whole_blocks (packets_by_rate rate) (p + 1)
unfolding packets_by_rate pattern_length begun
word_kept half p = let e = kept_below_closed half (1632 * p + 6) in omega arith
word_kept two_thirds p = let e = kept_below_closed two_thirds (1632 * p + 6) in omega arith
word_kept three_quarters p = let e = kept_below_closed three_quarters (1632 * p + 6) in omega arith
word_kept five_sixths p = let e = kept_below_closed five_sixths (1632 * p + 6) in omega arith
word_kept seven_eighths p = let e = kept_below_closed seven_eighths (1632 * p + 6) in omega arith

-- a block's symbols are its 24 kept bits
symbols_bits : {v : ℕ} → LegalBits v → (blocks : ℕ) → per_block v * blocks * v ≡ 24 * blocks
unfolding per_block
symbols_bits qpsk blocks = omega arith
symbols_bits qam16 blocks = omega arith
symbols_bits qam64 blocks = omega arith

-- the lines are empty at the start
history_none : (v s l : ℕ) → history_bit v lines_at_start s l ≡ 0
unfolding history_bit entry_before
history_none v s l = elim (dec_lt (s + delay_of v l) 120) [
  | yes h ↦ rw (lt-ltb (s + delay_of v l) 120 h) refl
  | no h ↦ rw (le-ltb (s + delay_of v l) 120 (omega arith), start_zero) refl
]

module _ (settings : Settings) (rate_legal : LegalRate settings.rate) (bits-legal : LegalBits settings.v)
    (number : ℕ) (old new : List ℕ) where
  abbrev difference : Frame
  difference = difference_frame settings number old new

  abbrev v : ℕ
  v = settings.v

  abbrev blocks : ℕ → ℕ
  blocks = whole_blocks (packets_by_rate settings.rate)

  -- ---- before its packet's word

  symbol_kept_before : (s l : ℕ) → s < symbols_before settings number → l < v → kept_bit_of difference (s * v + l) ≡ 0
  symbol_kept_before s l lt less =
      let inside : s * v + l < symbols_before settings number * v =
      kept_below_is v (symbols_before settings number) s l lt less in
      kept_before settings number old new rate_legal (s * v + l)
      (omega (arith, symbols_bits bits-legal (blocks number), blocks_kept rate_legal number))

  symbol_before : (s : ℕ) → s < symbols_before settings number + 120
      → symbol_at v lines_at_start (kept_bit_of difference) s ≡ 0
  symbol_before s lt = unfold symbol_at in elim (dec_lt s 120) [
    | yes h ↦
        rw (lt-ltb s 120 h)
        (binary_cong v (history_bit v lines_at_start s) (λ l. 0) (λ l less. history_none v s l) ∙ zeros_binary v)
    | no h ↦
        rw (le-ltb s 120 (omega arith))
        (binary_cong v (λ l. kept_bit_of difference ((s - 120) * v + l)) (λ l. 0)
        (λ l less. symbol_kept_before (s - 120) l (omega arith) less) ∙ zeros_binary v)
  ]

  line_before : (k l : ℕ) → k < symbols_before settings number → l < v
      → line_bit v lines_at_start (kept_bit_of difference) k l ≡ 0
  line_before k l lt less = elim (dec_lt k (delay_of v l)) [
    | yes early ↦ line_start v (kept_bit_of difference) k l early
    | no late ↦
        line_late v lines_at_start (kept_bit_of difference) k l (omega arith)
        ∙ symbol_kept_before (k - delay_of v l) l (omega arith) less
  ]

  pub carrier_before : (k : ℕ) → k < symbols_before settings number
      → carrier_value (difference_frame settings number old new) k ≡ 0
  unfolding carrier_value carrier_at difference_frame
  carrier_before k lt =
      binary_cong v (line_bit v lines_at_start (kept_bit_of difference) k) (λ l. 0) (λ l less. line_before k l lt less)
      ∙ zeros_binary v

  zero_stream : (i : ℕ) → stream_bit (replicate 212 0) i ≡ 0
  zero_stream i =
      unfold stream_bit in ap (λ (x : ℕ). x / 2 ^ (7 - i % 8) % 2) (zeros_at 212 (i / 8))
      ∙ ap (λ (x : ℕ). x % 2) (zero-div (2 ^ (7 - i % 8)))

  -- six places before message bit n, which is no further than the fifth of the packet's word
  back_none : (n : ℕ) → n < 1632 * number + 6 → bit_back 0 (message_bit difference) n 6 ≡ 0
  back_none n lt = elim (dec_lt n 6) [
    | yes early ↦
        back_register 0 (message_bit difference) n 6 early ∙ ap (λ (b : ℕ). b % 2) (zero-div (2 ^ (6 - (6 - n))))
    | no late ↦
        back_message 0 (message_bit difference) n 6 (omega arith)
        ∙ ap (λ (b : ℕ). b % 2) (message_before settings number old new (n - 6) (omega arith))
  ]

  pub stream_silent : StreamAt (difference_frame settings number old new) number memory_at_start (replicate 212 0)
  stream_silent =
      unfold difference_frame in record {
        memory_is = memory_before settings number old new number (omega arith);
        past_is = λ i lt begun. zero_stream (1632 + i) ∙ sym (back_none (1632 * number + i - 26) (omega arith));
      }

  pub run_quiet : RunAt (difference_frame settings number old new) number (quiet_run settings.rate number)
  run_quiet =
      unfold difference_frame quiet_run in record {
        left_is = refl;
        history_is = λ i lt. zeros_at 120 i ∙ sym (symbol_before (symbols_before settings number + i) (omega arith));
      }

  -- ---- from the thirteenth word after it on

  line_after : (k l : ℕ) → symbols_before settings (number + 13) ≤ k → l < v
      → line_bit v lines_at_start (kept_bit_of difference) k l ≡ 0
  line_after k l le less = elim (dec_lt k (delay_of v l)) [
    | yes early ↦ line_start v (kept_bit_of difference) k l early
    | no late ↦
        let s : ℕ = k - delay_of v l in
        let most : delay_of v l ≤ 120 = delay_most v l less in
        let near : symbols_before settings (number + 13) * v ≤ (s + 120) * v = mul-le-mul_right v (omega arith) in
        let few : 120 * v ≤ 720 = let six = bits_most bits-legal in omega arith in
        let next : number + 12 + 1 ≡ number + 13 = omega arith in
        let kept : kept_below settings.rate (1632 * (number + 12) + 6) + 720 ≤ 24 * blocks (number + 13)
        = rw next at (word_kept rate_legal (number + 12)) in
        line_late v lines_at_start (kept_bit_of difference) k l (omega arith)
        ∙ kept_after settings number old new rate_legal (s * v + l)
        (omega (arith, symbols_bits bits-legal (blocks (number + 13)), add-mul s 120 v))
  ]

  pub carrier_after : (k : ℕ) → symbols_before settings (number + 13) ≤ k
      → carrier_value (difference_frame settings number old new) k ≡ 0
  unfolding carrier_value carrier_at difference_frame
  carrier_after k le =
      binary_cong v (line_bit v lines_at_start (kept_bit_of difference) k) (λ l. 0) (λ l less. line_after k l le less)
      ∙ zeros_binary v

  pub lines_still : (m n : ℕ) → symbols_before settings (number + 13) ≤ m → symbols_before settings (number + 13) ≤ n
      → lines_behind (difference_frame settings number old new) m
      ≡ lines_behind (difference_frame settings number old new) n
  unfolding lines_behind lines_after difference_frame
  lines_still m n one two =
      in_lines_cong v (λ l e. line_bit v lines_at_start (kept_bit_of difference) (m + e) l)
      (λ l e. line_bit v lines_at_start (kept_bit_of difference) (n + e) l)
      (λ l e less short. line_after (m + e) l (omega arith) less ∙ sym (line_after (n + e) l (omega arith) less))
