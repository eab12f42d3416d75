-- Going back, every digit of a call that is not refused is there, unless its coded bit was punctured.
--     all_there     what is received of each kept bit of each word that a call finishes is 0 or 1
use mathlib.Core.Path.{◌≡◌, ap, ◌∙◌}
use mathlib.Core.List.{List}
use Prim.Native.Nat.{ℕ, suc, ◌+◌, ◌-◌, ◌*◌, ◌/◌, ◌%◌, ◌<◌, ◌≤◌}
use native.Mathlib.Nat.{mod-eq_of_lt, add-mod_right}
use native.Mathlib.Decide.{dec_lt}
use native.Mathlib.Omega.{arith}
use lib.ListN.{length, get_or}
use borrow.Author.Tests.{lt-ltb, le-ltb}
use Rattle.lists.specs.Binary.{bit_of}
use Rattle.settings.specs.Sizes.{P, C}
use Rattle.settings.specs.Patterns.{kept_below}
use Rattle.settings.proofs.LegalSettings.{Legal, LegalBits, qpsk, qam16, qam64, legal_settings}
use Rattle.settings.proofs.Frame.{Frame as Sizes, frame_of_is}
use Rattle.rules.specs.Bits.{line_of, line_delay, carrier_of, wait_of}
use Rattle.rules.specs.Back.{line_digit, received_digit, shown_by, shown_digit, held_digit, last_kept, held_count}
use Rattle.receiving_state.specs.declared.State.{State}
use Rattle.receiving_state.proofs.Good.{good_of}
use Rattle.receiving_answers.specs.Receiving.{receiving, words_of}
use Rattle.receiving_answers.specs.Words.{word_number, last_word_digit, call_digit}
use Rattle.receiving_answers.proofs.After.{Accepted, accepted}
use Rattle.receiving_answers.proofs.Answers.{carriers_are}
use Rattle.demands.proofs.Counts.{kept_mono}
use Rattle.demands.proofs.Held.{HeldSizes, held_sizes}

bit_few : (v symbol l : ℕ) → bit_of v symbol l < 2
bit_few v symbol l = omega arith

digit_few : (v : ℕ) (carriers : List ℕ) (k l : ℕ) → k < length carriers → line_digit v carriers k l < 2
unfolding line_digit
digit_few v carriers k l h = rw (lt-ltb k (length carriers) h) (bit_few v (get_or carriers k 0) l)

-- a kept bit with 120 rows behind it has its carrier in the frame
carrier_inside : {v : ℕ} → LegalBits v → (c rows : ℕ) → c + 120 * v < rows * v → carrier_of v c < rows
unfolding carrier_of line_delay
carrier_inside qpsk c rows h = omega arith
carrier_inside qam16 c rows h = omega arith
carrier_inside qam64 c rows h = omega arith

row_few : {v : ℕ} → LegalBits v → (c : ℕ) → c < 120 * v → c / v < 120
row_few qpsk c h = omega arith
row_few qam16 c h = omega arith
row_few qam64 c h = omega arith

module _ (state : State) (carriers slots : List ℕ) (done : receiving state carriers slots ≡ 0) where
  passed : Accepted state carriers slots
  passed = accepted state carriers slots done

  abbrev v : ℕ
  v = state.settings.v

  legal : Legal state.settings
  legal = legal_settings state.settings (good_of state passed.good).legal

  sizes : Sizes state.settings
  sizes = frame_of_is state.settings (good_of state passed.good).legal

  held : HeldSizes state.settings legal sizes
  held = held_sizes state.settings legal sizes

  room : length carriers ≡ C state.settings
  room = passed.room ∙ carriers_are state passed.good

  -- what comes out of the lines: first their entries, then this frame's first carriers
  shown_few : (c : ℕ) → c < 120 * v → shown_digit v state.lines carriers c < 2
  unfolding shown_digit shown_by
  shown_few c less = elim (dec_lt (c / v) (wait_of v (line_of v c))) [
    | yes early ↦ rw (lt-ltb (c / v) (wait_of v (line_of v c)) early) (omega arith)
    | no late ↦ rw (le-ltb (c / v) (wait_of v (line_of v c)) (omega arith))
        (digit_few v carriers (c / v - wait_of v (line_of v c)) (line_of v c)
        (omega (arith, row_few legal.bits c less, held.rows, room)))
  ]

  -- of the last word of the frame before
  last_few : (c : ℕ) → last_kept state.settings ≤ c → c < C state.settings * v
      → last_word_digit state carriers c < 2
  last_few c from below =
      unfold last_word_digit held_digit in let lead = last_kept state.settings in
      let count = held_count state.settings in
      elim (dec_lt c (lead + count)) [
        | yes h ↦ rw (le-ltb c lead from, lt-ltb c (lead + count) h) (omega arith)
        | no h ↦ rw (le-ltb c lead from, le-ltb c (lead + count) (omega arith))
            (shown_few (c - (lead + count)) (omega (arith, held.ends, held.room)))
      ]

  -- of a word of this frame that is not its last
  here_few : (c : ℕ) → c < last_kept state.settings → received_digit v carriers c < 2
  here_few c below =
      unfold received_digit in digit_few v carriers (carrier_of v c) (line_of v c)
      (carrier_inside legal.bits c (length carriers) (rw room (omega (arith, held.room))))

  -- which word of its frame it is
  number_last : (n : ℕ) → n < state.taken → word_number state n ≡ P state.settings - 1
  number_last n last =
      unfold word_number in let few = (good_of state passed.good).taken_few in
      let least = sizes.packets_least in
      ap (λ (k : ℕ). k % P state.settings) {x = n + P state.settings - state.taken}
      {y = P state.settings - 1} (omega arith)
      ∙ mod-eq_of_lt (omega arith)

  number_here : (n : ℕ) → state.taken ≤ n → n < words_of state → word_number state n ≡ n - state.taken
  number_here n here few =
      unfold word_number words_of in let least = sizes.packets_least in
      ap (λ (k : ℕ). k % P state.settings) {x = n + P state.settings - state.taken}
      {y = n - state.taken + P state.settings} (omega arith)
      ∙ add-mod_right (n - state.taken) (P state.settings) ∙ mod-eq_of_lt (omega arith)

  number_less : (n : ℕ) → state.taken ≤ n → n < words_of state → n - state.taken < P state.settings - 1
  unfolding words_of
  number_less n here less = omega arith

  -- "The coded bits are read a word at a time": kept bit c is one of message bit i of the n-th word
  pub all_there : (n i c : ℕ) → n < words_of state → i < 1632
      → kept_below state.settings.rate (1632 * word_number state n + i) ≤ c
      → c < kept_below state.settings.rate (suc (1632 * word_number state n + i))
      → call_digit state carriers n c < 2
  unfolding call_digit last_kept
  all_there n i c few inside from below = elim (dec_lt n state.taken) [
    | yes last ↦
        let number = number_last n last in
        let packets = sizes.packets_least in
        let low = kept_mono legal.rate (1632 * (P state.settings - 1)) (1632 * word_number state n + i)
        (omega arith) in
        let high = kept_mono legal.rate (suc (1632 * word_number state n + i)) (1632 * P state.settings)
        (omega arith) in
        rw (lt-ltb n state.taken last) (last_few c (omega arith) (omega (arith, sizes.kept)))
    | no here ↦
        let number = number_here n (omega arith) few in
        let packets = sizes.packets_least in
        let words = number_less n (omega arith) few in
        let high = kept_mono legal.rate (suc (1632 * word_number state n + i)) (1632 * (P state.settings - 1))
        (omega arith) in
        rw (le-ltb n state.taken (omega arith)) (here_few c (omega arith))
  ]
