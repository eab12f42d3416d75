-- A receiver in step, and the carriers of its frame: the call is not refused.
--     behind_good        the state behind a frame is good
--     carriers_small     the carriers are in range
--     call_accepted      so the call answers 0
use mathlib.Core.Path.{◌≡◌, refl, ◌∙◌}
use mathlib.Core.Bool.{true, cond}
use mathlib.Core.List.{List}
use Prim.Native.Nat.{ℕ, ◌+◌, ◌*◌, ◌^◌, ◌<◌, ◌≤◌}
use native.Mathlib.Decide.{dec_lt}
use native.Mathlib.Omega.{arith}
use lib.Dec.{ltb}
use lib.ListN.{length, get_or}
use borrow.Author.Tests.{eq-eqb, lt-ltb, le-ltb}
use Rattle.lists.specs.Tab.{piece_start}
use Rattle.lists.specs.Tests.{bit_or_zero, bits_then_zeros}
use Rattle.lists.proofs.AllBelows.{all_yes}
use Rattle.lists.proofs.BitEntries.{bits_fine}
use Rattle.lists.proofs.Pieces.{place_in}
use Rattle.lists.proofs.Tabs.{length_tab, get_d_tab}
use Rattle.settings.specs.declared.Settings.{Settings}
use Rattle.settings.specs.Legal.{starting}
use Rattle.settings.specs.Sizes.{P, C, packets_of, carriers_of}
use Rattle.settings.proofs.LegalSettings.{LegalBits, qpsk, qam16, qam64, Legal}
use Rattle.settings.proofs.Frame.{Frame as Sizes}
use Rattle.rules.specs.Bits.{line_delay, wait_of, in_sizes, entry_after, lines_waiting, carriers_in_range}
use Rattle.rules.proofs.Shown.{carrier_lt}
use Rattle.rules.proofs.Entries.{length_in_sizes, in_sizes_at, in_sizes_rest}
use Rattle.rules.specs.Back.{received_digit, last_kept, held_count, held_after}
use Rattle.rules.specs.Frame.{Frame, kept_bit_of, carrier_value}
use Rattle.receiving_state.specs.declared.State.{State}
use Rattle.receiving_state.specs.State.{good_receiving_state}
use Rattle.receiving_answers.specs.Receiving.{receiving, last_carriers}
use Rattle.demands.specs.Frames.{layered}
use Rattle.demands.specs.InStep.{receiving_state_from}
use Rattle.demands.proofs.Digits.{Carried, kept_bit, received}
use Rattle.demands.proofs.Held.{held_sizes}

bits_yes : (used : ℕ) (entries : List ℕ) → ((k : ℕ) → k < used → k < length entries → get_or entries k 0 < 2)
    → ((k : ℕ) → used ≤ k → k < length entries → get_or entries k 0 ≡ 0) → bits_then_zeros used entries ≡ true
bits_yes used entries low high =
    unfold bit_or_zero in bits_fine used entries
    (λ k lt. elim (dec_lt k used) [
      | yes h ↦ rw (lt-ltb k used h) (lt-ltb (get_or entries k 0) 2 (low k h lt))
      | no h ↦ rw (le-ltb k used (omega arith), high k (omega arith) lt) refl
    ])

-- ---- a fresh state

-- ---- behind a frame

waits_used : {v : ℕ} → LegalBits v → (piece_start (wait_of v) v ≡ 60 * v) × (piece_start (wait_of v) v ≤ 360)
unfolding piece_start wait_of line_delay
waits_used qpsk = (refl, omega arith)
waits_used qam16 = (refl, omega arith)
waits_used qam64 = (refl, omega arith)

lines_good : {v : ℕ} → LegalBits v → (last : List ℕ) → bits_then_zeros (60 * v) (lines_waiting v last) ≡ true
unfolding lines_waiting entry_after
lines_good {v} bits last =
    let entry = entry_after (wait_of v) v last in
    let used = waits_used bits in
    bits_yes (60 * v) (in_sizes (wait_of v) v entry)
    (λ k h lt. place_in (wait_of v) (λ (k : ℕ). get_or (in_sizes (wait_of v) v entry) k 0 < 2) v
    (λ l e less lt. rw (in_sizes_at (wait_of v) v entry l e less lt) (omega arith)) k (omega arith))
    (λ k h lt. in_sizes_rest (wait_of v) v entry k (omega arith)
    (omega (arith, length_in_sizes (wait_of v) v entry used.1)))

module _ (settings : Settings) (legal-are : Legal settings) (sizes : Sizes settings) (start : starting settings ≡ 0)
    (memory : List ℕ) (register : ℕ) (lines : List ℕ) (sent : ℕ → ℕ) (entries : (k : ℕ) → get_or lines k 0 < 2)
    (carriers : List ℕ) (first : Carried (layered settings memory register lines sent) 0 (C settings) carriers) where
  abbrev stream : Frame
  stream = layered settings memory register lines sent

  held_good : bits_then_zeros (held_count settings) (held_after settings carriers) ≡ true
  held_good =
      unfold held_after in let rule : ℕ → ℕ =
      λ i. cond (ltb i (held_count settings)) (received_digit settings.v carriers (last_kept settings + i)) 0 in
      let size = length_tab 3072 rule in
      let there = held_sizes settings legal-are sizes in
      bits_yes (held_count settings) (held_after settings carriers)
      (λ k h lt. rw (
        get_d_tab 3072 rule k (omega arith),
        lt-ltb k (held_count settings) h,
        received settings legal-are memory register lines sent entries 0 (C settings) carriers first
            (last_kept settings + k) (omega arith),
      )
      (kept_bit settings legal-are memory register lines sent entries (0 * settings.v + (last_kept settings + k))))
      (λ k h lt. get_d_tab 3072 rule k (omega arith) ∙ rw (le-ltb k (held_count settings) h) refl)

  pub behind_good : (memory' : List ℕ) (register' : ℕ) → register' < 64
      → good_receiving_state (receiving_state_from settings 1 memory' (lines_waiting settings.v (last_carriers
      carriers))
      register' (held_after settings carriers)) ≡ true
  behind_good memory' register' small =
      unfold good_receiving_state in rw (
        eq-eqb (starting settings) 0 start,
        lt-ltb register' 64 small,
        lines_good legal-are.bits (last_carriers carriers),
        held_good,
      ) refl

  pub carriers_small : carriers_in_range settings.v carriers ≡ true
  unfolding carriers_in_range carrier_value
  carriers_small =
      all_yes (length carriers) (λ k. ltb (get_or carriers k 0) (2 ^ settings.v))
      (λ k lt. lt-ltb (get_or carriers k 0) (2 ^ settings.v) (rw (first.value k (omega (arith, first.long)))
      (carrier_lt settings.v lines (kept_bit_of stream) entries
      (kept_bit settings legal-are memory register lines sent entries) (0 + k))))

  pub call_accepted : (state : State) → state.settings ≡ settings → good_receiving_state state ≡ true
      → (slots : List ℕ) → length slots ≡ 189 * P settings → receiving state carriers slots ≡ 0
  call_accepted state same good slots room =
      unfold receiving packets_of carriers_of in rw (
        good,
        same,
        eq-eqb (starting settings) 0 start,
        eq-eqb (length carriers) (C settings) first.long,
        eq-eqb (length slots) (189 * P settings) room,
        carriers_small,
      ) refl
