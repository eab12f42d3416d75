-- The received pairs of a call are those of the stream's words.
--     first_pairs      the first call: words 0 to P − 2 of the stream
--     later_pairs      a later one: words P − 1 to 2 P − 2 of the stream that begins with the frame before
use mathlib.Core.Path.{◌≡◌, sym, ap, ap₂, ◌∙◌}
use mathlib.Core.List.{List}
use Prim.Native.Nat.{ℕ, suc, ◌+◌, ◌-◌, ◌*◌, ◌%◌, ◌<◌, ◌≤◌}
use native.Mathlib.Nat.{mod-eq_of_lt, add-mod_right}
use native.Mathlib.Decide.{dec_lt}
use native.Mathlib.Omega.{arith}
use lib.ListN.{get_or}
use borrow.Author.Tests.{le-ltb}
use Rattle.lists.proofs.Tabs.{length_tab, get_d_tab}
use Rattle.settings.specs.declared.Settings.{Settings}
use Rattle.settings.specs.Patterns.{Kept, pattern_length, kept_below}
use Rattle.settings.specs.Sizes.{P, C}
use Rattle.settings.proofs.LegalSettings.{LegalRate, Legal}
use Rattle.settings.proofs.Frame.{Frame as Sizes}
use Rattle.rules.specs.Code.{coded_x, coded_y}
use Rattle.rules.specs.Puncturing.{pattern_at}
use Rattle.rules.specs.Bits.{lines_waiting}
use Rattle.rules.specs.Back.{pair_of, pair_at, last_kept, held_after}
use Rattle.fewest.proofs.Exact.{pair_sent}
use Rattle.rules.specs.Frame.{Frame, message_bit, kept_bit_of}
use Rattle.receiving_state.specs.declared.State.{State}
use Rattle.receiving_answers.specs.Words.{word_number, last_word_digit, call_digit, call_pairs}
use Rattle.receiving_answers.specs.Receiving.{last_carriers}
use Rattle.demands.specs.Frames.{layered}
use Rattle.demands.specs.InStep.{receiving_state_from}
use Rattle.demands.proofs.Words.{PairsOf}
use Rattle.demands.proofs.Counts.{kept_mono, kept_on, pattern_on}
use Rattle.demands.proofs.Pairs.{pair_sent_is}
use Rattle.demands.proofs.Digits.{Carried, received}
use Rattle.demands.proofs.Held.{held_sizes, held_over}

-- a pair counted from a place behind whole patterns
pair_on : {rate : ℕ} → LegalRate rate → (digit : ℕ → ℕ) (n m : ℕ) → n % pattern_length rate ≡ 0
    → pair_at rate digit m ≡ pair_at rate (λ c. digit (c - kept_below rate n)) (n + m)
unfolding pair_at
pair_on {rate} legal digit n m whole =
    let on = kept_on legal n m whole in
    let first : kept_below rate m ≡ kept_below rate (n + m) - kept_below rate n = omega arith in
    let second : kept_below rate m + 1 ≡ kept_below rate (n + m) + 1 - kept_below rate n = omega arith in
    ap₂ (λ (kept : Kept) (c : ℕ). pair_of kept (digit c) (digit (kept_below rate m + 1)))
    (sym (pattern_on legal n m whole)) first
    ∙ ap (λ (c : ℕ). pair_of (pattern_at rate (n + m)) (digit (kept_below rate (n + m) - kept_below rate n)) (digit c))
    second

number_of : (n count : ℕ) → n < count → (n + count) % count ≡ n
number_of n count h = add-mod_right n count ∙ mod-eq_of_lt h

module _ (settings : Settings) (legal : Legal settings) (sizes : Sizes settings)
    (memory : List ℕ) (register : ℕ) (lines : List ℕ) (sent : ℕ → ℕ) (entries : (k : ℕ) → get_or lines k 0 < 2) where
  abbrev stream : Frame
  stream = layered settings memory register lines sent

  abbrev v : ℕ
  v = settings.v

  abbrev rate : ℕ
  rate = settings.rate

  -- what is received of message bit m, as it was sent
  abbrev sent_at : ℕ → ℕ
  sent_at m =
      pair_sent (pattern_at rate m) (coded_x register (message_bit stream) m) (coded_y register (message_bit stream) m)

  module _ (carriers : List ℕ) (carried : Carried stream 0 (C settings) carriers)
      (memory' lines' : List ℕ) (register' : ℕ) (held' : List ℕ) where
    abbrev fresh : State
    fresh = receiving_state_from settings 0 memory' lines' register' held'

    first_digit : (n c : ℕ) → c < last_kept settings → call_digit fresh carriers n c ≡ kept_bit_of stream c
    first_digit n c h =
        unfold call_digit in let there = held_sizes settings legal sizes in
        rw (le-ltb n 0 (omega arith))
        (received settings legal memory register lines sent entries 0 (C settings) carriers carried c (omega arith)
        ∙ ap (kept_bit_of stream) (omega arith))

    first_right : (n i : ℕ) → n < P settings - 1 → i < 1632
        → get_or (call_pairs fresh carriers n) i 0 ≡ sent_at (1632 * (0 + n) + i)
    first_right n i h lt =
        unfold call_pairs word_number kept_bit_of last_kept in let some = sizes.packets_least in
        let number : (n + P settings - 0) % P settings ≡ 0 + n =
        ap (λ (k : ℕ). k % P settings) {x = n + P settings - 0} {y = n + P settings} (omega arith)
        ∙ number_of n (P settings) (omega arith) ∙ (let e : n ≡ 0 + n = omega arith in e) in
        rw (
          get_d_tab 1632 (λ i. pair_at rate (call_digit fresh carriers n)
              (1632 * ((n + P settings - 0) % P settings) + i)) i lt,
          number,
        )
        (pair_sent_is legal.rate register (message_bit stream) (1632 * (0 + n) + i) (call_digit fresh carriers n)
        (λ c le less.
        let mono = kept_mono legal.rate (suc (1632 * (0 + n) + i)) (1632 * (P settings - 1)) (omega arith) in
        first_digit n c (omega arith)))

    pub first_pairs : PairsOf stream 0 (P settings - 1) (call_pairs fresh carriers)
    first_pairs = unfold call_pairs in record { long = λ n h. length_tab 1632 _; right = first_right }

  module _ (before carriers : List ℕ) (first : Carried stream 0 (C settings) before)
      (next : Carried stream (C settings) (C settings) carriers) (memory' : List ℕ) (register' : ℕ) where
    abbrev later : State
    later = receiving_state_from settings 1 memory' (lines_waiting v (last_carriers before)) register'
        (held_after settings before)

    last_digit : (c : ℕ) → last_kept settings ≤ c → c < C settings * v
        → call_digit later carriers 0 c ≡ kept_bit_of stream c
    unfolding call_digit last_word_digit
    last_digit c h lt =
        held_over settings legal sizes memory register lines sent entries before carriers first next c h lt

    later_digit : (n c : ℕ) → 1 ≤ n → c < last_kept settings
        → call_digit later carriers n c ≡ kept_bit_of stream (C settings * v + c)
    later_digit n c some h =
        unfold call_digit in let there = held_sizes settings legal sizes in
        rw (le-ltb n 1 some)
        (received settings legal memory register lines sent entries (C settings) (C settings) carriers next c
        (omega arith))

    last_right : (i : ℕ) → i < 1632
        → get_or (call_pairs later carriers 0) i 0 ≡ sent_at (1632 * (P settings - 1 + 0) + i)
    last_right i lt =
        unfold call_pairs word_number kept_bit_of last_kept in let some = sizes.packets_least in
        let all = sizes.kept in
        let place : (0 + P settings - 1) % P settings ≡ P settings - 1 + 0 =
        mod-eq_of_lt (omega arith) ∙ (let e : 0 + P settings - 1 ≡ P settings - 1 + 0 = omega arith in e) in
        rw (
          get_d_tab 1632 (λ i. pair_at rate (call_digit later carriers 0)
              (1632 * ((0 + P settings - 1) % P settings) + i)) i lt,
          place,
        ) (pair_sent_is legal.rate register (message_bit stream) (1632 * (P settings - 1 + 0) + i)
        (call_digit later carriers 0) (λ c le less.
        let low = kept_mono legal.rate (1632 * (P settings - 1)) (1632 * (P settings - 1 + 0) + i) (omega arith) in
        let high = kept_mono legal.rate (suc (1632 * (P settings - 1 + 0) + i)) (1632 * P settings) (omega arith) in
        last_digit c (omega arith) (omega arith)))

    later_right : (n i : ℕ) → 1 ≤ n → n < P settings → i < 1632
        → get_or (call_pairs later carriers n) i 0 ≡ sent_at (1632 * (P settings - 1 + n) + i)
    later_right n i some h lt =
        unfold call_pairs word_number kept_bit_of last_kept in let all = sizes.kept in
        let bits = 1632 * P settings in
        let m = 1632 * (n - 1) + i in
        let place : (n + P settings - 1) % P settings ≡ n - 1 =
        ap (λ (k : ℕ). k % P settings) {x = n + P settings - 1} {y = n - 1 + P settings} (omega arith)
        ∙ number_of (n - 1) (P settings) (omega arith) in
        let on : 1632 * (P settings - 1 + n) + i ≡ bits + m = omega arith in
        rw (
          get_d_tab 1632
              (λ i. pair_at rate (call_digit later carriers n) (1632 * ((n + P settings - 1) % P settings) + i)) i lt,
          place,
          on,
          pair_on legal.rate (call_digit later carriers n) bits m sizes.whole,
        ) (pair_sent_is legal.rate register (message_bit stream) (bits + m)
        (λ c. call_digit later carriers n (c - kept_below rate bits)) (λ c le less.
        let low = kept_on legal.rate bits m sizes.whole in
        let high = kept_on legal.rate bits (suc m) sizes.whole in
        let same = ap (kept_below rate) {x = suc (bits + m)} {y = bits + suc m} (omega arith) in
        let mono = kept_mono legal.rate (suc m) (1632 * (P settings - 1)) (omega arith) in
        later_digit n (c - kept_below rate bits) some (omega arith) ∙ ap (kept_bit_of stream) (omega arith)))

    pub later_pairs : PairsOf stream (P settings - 1) (P settings) (call_pairs later carriers)
    later_pairs =
        unfold call_pairs in record {
          long = λ n h. length_tab 1632 _;
          right = λ n i h lt. elim (dec_lt n 1) [
            | yes p ↦ (let none : n ≡ 0 = omega arith in rw none (last_right i lt))
            | no p ↦ later_right n i (omega arith) h lt
          ];
        }
