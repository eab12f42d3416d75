-- The last word of the frame before: what is held of it, and what comes out of the lines.
--     held_sizes      how many of its bits are held
--     line_held       what the lines hold
--     held_over       its digits are the kept bits
use mathlib.Core.Path.{◌≡◌, ap, ◌∙◌}
use mathlib.Core.Bool.{cond}
use mathlib.Core.List.{List}
use Prim.Native.Nat.{ℕ, ◌+◌, ◌-◌, ◌*◌, ◌/◌, ◌%◌, ◌<◌, ◌≤◌}
use native.Mathlib.Nat.{mod-lt}
use native.Mathlib.Decide.{dec_lt}
use native.Mathlib.Omega.{arith}
use lib.Dec.{ltb}
use lib.ListN.{length, get_or}
use borrow.Author.Tests.{lt-ltb, le-ltb}
use Rattle.lists.specs.Binary.{bit_of}
use Rattle.rules.proofs.Widths.{delay_most}
use Rattle.lists.specs.Tab.{piece_start}
use Rattle.lists.proofs.Tabs.{get_d_tab}
use Rattle.settings.specs.declared.Settings.{Settings}
use Rattle.settings.specs.Sizes.{P, C}
use Rattle.settings.proofs.LegalSettings.{LegalBits, qpsk, qam16, qam64, Legal}
use Rattle.settings.proofs.Frame.{Frame as Sizes}
use Rattle.rules.specs.Bits.{delay_of, wait_of, entry_after, lines_waiting}
use Rattle.rules.proofs.Entries.{in_sizes_at}
use Rattle.rules.specs.Back.{line_digit, received_digit, shown_by, shown_digit, held_digit, last_kept, held_count, held_after}
use Rattle.rules.specs.Frame.{Frame, kept_bit_of}
use Rattle.receiving_answers.specs.Receiving.{last_carriers}
use Rattle.demands.specs.Frames.{layered}
use Rattle.demands.proofs.Counts.{word_least, word_most, bits_few, last_row}
use Rattle.demands.proofs.Digits.{Carried, kept_bit, shown, digit_shown, received}

-- 120 v as a number
rows_most : {v : ℕ} → LegalBits v → (240 ≤ 120 * v) × (120 * v ≤ 720)
rows_most qpsk = (omega arith, omega arith)
rows_most qam16 = (omega arith, omega arith)
rows_most qam64 = (omega arith, omega arith)

bit_small : (x : ℕ) → x < 2 → x % 2 ≡ x
bit_small x h = omega arith

module _ (settings : Settings) (legal-are : Legal settings) (sizes : Sizes settings) where
  abbrev v : ℕ
  v = settings.v

  pub record HeldSizes : Type 0 where
    pub ends : last_kept settings + held_count settings ≡ C settings * v - 120 * v
    pub room : last_kept settings + 120 * v ≤ C settings * v
    pub few : held_count settings ≤ 3072
    pub rows : 120 ≤ C settings

  pub held_sizes : HeldSizes
  unfolding last_kept held_count
  held_sizes =
      let least = word_least legal-are.rate (P settings) (omega (arith, sizes.packets_least)) in
      let most = word_most legal-are.rate (P settings) (omega (arith, sizes.packets_least)) in
      let all = sizes.kept in
      let few = rows_most legal-are.bits in
      record {
        ends = omega arith;
        room = omega arith;
        few = omega arith;
        rows = omega (arith, sizes.carriers_least);
      }

  module _ (memory : List ℕ) (register : ℕ) (lines : List ℕ) (sent : ℕ → ℕ) (entries : (k : ℕ) → get_or lines k 0 < 2)
      (before carriers : List ℕ) where
    abbrev stream : Frame
    stream = layered settings memory register lines sent

    module _ (first : Carried stream 0 (C settings) before)
        (next : Carried stream (C settings) (C settings) carriers) where
      some : 0 < v
      some = omega (arith, (bits_few legal-are.bits).0)

      -- entry k of line l: on one of the frame's last carriers
      line_held : (k l : ℕ) → l < v → k < wait_of v l
          → get_or (lines_waiting v (last_carriers before)) (piece_start (wait_of v) l + k) 0
          ≡ kept_bit_of stream ((C settings - 120 + k) * v + l)
      line_held k l lt early =
          unfold lines_waiting wait_of entry_after last_carriers in let most = delay_most v l lt in
          let many = held_sizes.rows in
          let place : 120 - (120 - delay_of v l) + k < 120 = omega arith in
          let at : length before - 120 + (120 - (120 - delay_of v l) + k) ≡ C settings - 120 + delay_of v l + k =
          omega (arith, first.long) in
          let back : 0 + (C settings - 120 + delay_of v l + k) - delay_of v l ≡ C settings - 120 + k = omega arith in
          in_sizes_at (wait_of v) v (entry_after (wait_of v) v (last_carriers before)) l k lt early
          ∙ ap (λ (x : ℕ). bit_of v x l)
          (get_d_tab 120 (λ k. get_or before (length before - 120 + k) 0) (120 - (120 - delay_of v l) + k) place
          ∙ ap (λ (k : ℕ). get_or before k 0) at
          ∙ first.value (C settings - 120 + delay_of v l + k) (omega arith))
          ∙ shown settings legal-are memory register lines sent entries (0 + (C settings - 120 + delay_of v l + k)) l
          lt (omega arith) ∙ ap (λ (s : ℕ). kept_bit_of stream (s * v + l)) back

      -- a later one: on one of the next frame's first carriers
      line_later : (k l : ℕ) → l < v → k < 120 → wait_of v l ≤ k
          → line_digit v carriers (k - wait_of v l) l ≡ kept_bit_of stream ((C settings - 120 + k) * v + l)
      line_later k l lt few h =
          unfold wait_of in let most = delay_most v l lt in
          let many = held_sizes.rows in
          let back : C settings + (k - (120 - delay_of v l)) - delay_of v l ≡ C settings - 120 + k = omega arith in
          digit_shown settings legal-are memory register lines sent entries (C settings) (C settings) carriers next
          (k - (120 - delay_of v l)) l (omega arith) lt (omega arith)
          ∙ ap (λ (s : ℕ). kept_bit_of stream (s * v + l)) back

      shown_held : (k l : ℕ) → l < v → k < 120 → shown_by v (lines_waiting v (last_carriers before)) carriers k l
          ≡ kept_bit_of stream ((C settings - 120 + k) * v + l)
      shown_held k l lt few = unfold shown_by in elim (dec_lt k (wait_of v l)) [
        | yes h ↦
            rw (lt-ltb k (wait_of v l) h) (ap (λ (x : ℕ). x % 2) (line_held k l lt h) ∙ bit_small _
            (kept_bit settings legal-are memory register lines sent entries ((C settings - 120 + k) * v + l)))
        | no h ↦ rw (le-ltb k (wait_of v l) (omega arith)) (line_later k l lt few (omega arith))
      ]

      -- what is held
      first_part : (c : ℕ) → last_kept settings ≤ c → c < last_kept settings + held_count settings
          → get_or (held_after settings before) (c - last_kept settings) 0 % 2 ≡ kept_bit_of stream c
      first_part c h early =
          unfold held_after in let there = held_sizes in
          let place : last_kept settings + (c - last_kept settings) ≡ c = omega arith in
          ap (λ (x : ℕ). x % 2)
          (get_d_tab 3072 (λ i. cond (ltb i (held_count settings)) (received_digit v before (last_kept settings + i)) 0)
          (c - last_kept settings) (omega arith)
          ∙ rw (lt-ltb (c - last_kept settings) (held_count settings) (omega arith))
          (ap (received_digit v before) place
          ∙ received settings legal-are memory register lines sent entries 0 (C settings) before first c (omega arith)
          ∙ ap (kept_bit_of stream) (omega arith)))
          ∙ bit_small _ (kept_bit settings legal-are memory register lines sent entries c)

      -- what comes out of the lines
      second_part : (c : ℕ) → last_kept settings + held_count settings ≤ c → c < C settings * v
          → shown_by v (lines_waiting v (last_carriers before)) carriers
          ((c - (last_kept settings + held_count settings)) / v)
          ((c - (last_kept settings + held_count settings)) % v) ≡ kept_bit_of stream c
      second_part c late lt =
          let there = held_sizes in
          let row = last_row legal-are.bits c (C settings) there.rows (omega arith) lt in
          rw there.ends
          (shown_held ((c - (C settings * v - 120 * v)) / v) ((c - (C settings * v - 120 * v)) % v)
          (mod-lt (c - (C settings * v - 120 * v)) some) row.0 ∙ ap (kept_bit_of stream) row.1)

      pub held_over : (c : ℕ) → last_kept settings ≤ c → c < C settings * v
          → held_digit v (last_kept settings) (held_count settings) (held_after settings before)
          (lines_waiting v (last_carriers before)) carriers c ≡ kept_bit_of stream c
      held_over c h lt =
          unfold held_digit shown_digit in rw (le-ltb c (last_kept settings) h)
          (elim (dec_lt c (last_kept settings + held_count settings)) [
            | yes early ↦ rw (lt-ltb c (last_kept settings + held_count settings) early) (first_part c h early)
            | no late ↦ rw (le-ltb c (last_kept settings + held_count settings) (omega arith))
                (second_part c (omega arith) lt)
          ])
