-- What coding and replacing leave is in range.
--     left_sized            the arrays of the state behind a frame have their lengths
--     good_behind           the state behind a frame is good,
--     replaced_good         a good state with a packet replaced is good
--     coded_in_range        the carriers of a frame are below 2^v
--     replaced_in_range     and so they are with a packet replaced
use mathlib.Core.Path.{◌≡◌, refl}
use mathlib.Core.Bool.{true, ◌&&◌}
use mathlib.Core.List.{List}
use Prim.Native.Nat.{ℕ, suc, ◌+◌, ◌*◌, ◌^◌, ◌<◌, ◌≤◌}
use native.Mathlib.Decide.{dec_lt}
use native.Mathlib.Omega.{arith}
use lib.Bits.{bit_xor, xor_lt}
use lib.Dec.{eqb, ltb}
use lib.ListN.{length, get_or}
use borrow.Author.Tests.{eq-eqb, lt-ltb, le-ltb, ltb-true}
use Rattle.lists.proofs.Bools.{and_both}
use Rattle.lists.specs.Tab.{tab, piece_start}
use Rattle.lists.specs.Tests.{bit_or_zero, bits_then_zeros}
use Rattle.lists.proofs.AllBelows.{all_yes, all_at}
use Rattle.lists.proofs.BitEntries.{bits_fine, bits_at}
use Rattle.lists.proofs.Binaries.{binary_lt}
use Rattle.lists.proofs.Pieces.{place_in}
use Rattle.lists.proofs.Tabs.{length_tab, get_d_tab}
use Rattle.settings.specs.declared.Settings.{Settings}
use Rattle.settings.specs.Legal.{starting}
use Rattle.settings.specs.Sizes.{P, C}
use Rattle.settings.proofs.LegalSettings.{LegalBits, qpsk, qam16, qam64, legal_settings}
use Rattle.rules.specs.Bytes.{waits_there}
use Rattle.rules.proofs.Ways.{there_fits}
use Rattle.rules.proofs.Memory.{length_memory}
use Rattle.rules.specs.Code.{bit_back, register_after}
use Rattle.rules.proofs.CodeWindows.{back_lt}
use Rattle.rules.specs.Bits.{line_delay, delay_of, first_entry, lines_after, carriers_in_range, used_lines}
use Rattle.rules.proofs.BitsAfter.{length_lines_after, lines_after_at, lines_after_rest}
use Rattle.rules.proofs.Shown.{line_bit_lt}
use Rattle.rules.specs.Frame.{Frame, message_bit, kept_bit_of, carrier_value, memory_behind, register_behind, lines_behind}
use Rattle.rules.proofs.Added.{kept_bits, carrier_bound}
use Rattle.coding_state.specs.declared.State.{State}
use Rattle.coding_state.specs.State.{good_coding_state}
use Rattle.coding_answers.specs.Coding.{frame_of, carriers_of_frame, coding_state_behind}
use Rattle.coding_state.proofs.Good.{given_of_is, good_legal}
use Rattle.coding_answers.specs.Replacement.{added_to, difference_frame, replaced_carriers, replaced_state}
use Rattle.coding_answers.specs.Calls.{Sized}
use Rattle.coding_answers.proofs.Again.{lines_fit, difference_entries}

-- ---- what a frame leaves

-- line l has l × 120/(v−1) entries
entries_used : {v : ℕ} → LegalBits v → first_entry v v ≡ 60 * v
unfolding piece_start line_delay
entries_used qpsk = refl
entries_used qam16 = refl
entries_used qam64 = refl

module _ (frame : Frame) where
  register_bound : (words : ℕ) → register_behind frame words < 64
  unfolding register_behind register_after
  register_bound words =
      binary_lt 6 (λ k. bit_back frame.register (message_bit frame) (1632 * words) (suc k))
      (λ k. back_lt frame.register (message_bit frame) (1632 * words) (suc k))

  module _ (bits : LegalBits frame.v) (entries : (k : ℕ) → get_or frame.lines k 0 < 2) where
    line_bound : (carriers k : ℕ) → k < first_entry frame.v frame.v → get_or (lines_behind frame carriers) k 0 < 2
    line_bound carriers k lt =
        unfold lines_behind in place_in (delay_of frame.v)
        (λ k. get_or (lines_after frame.v frame.lines (kept_bit_of frame) carriers) k 0 < 2) frame.v
        (λ l e less short.
        rw (lines_after_at frame.v frame.lines (kept_bit_of frame) carriers l e less short)
        (line_bit_lt frame.v frame.lines (kept_bit_of frame) entries (kept_bits frame) (carriers + e) l))
        k lt

    line_rest : (carriers k : ℕ) → first_entry frame.v frame.v ≤ k → k < 360
        → get_or (lines_behind frame carriers) k 0 ≡ 0
    unfolding lines_behind
    line_rest carriers k = lines_after_rest frame.v frame.lines (kept_bit_of frame) carriers k

    lines_good : (carriers k : ℕ) → k < 360 → bit_or_zero (used_lines frame.v) (lines_behind frame carriers) k ≡ true
    lines_good carriers k lt =
        unfold bit_or_zero in let used = entries_used bits in
        elim (dec_lt k (60 * frame.v)) [
          | yes h ↦ rw (lt-ltb k (60 * frame.v) h) (lt-ltb _ 2 (line_bound carriers k (omega arith)))
          | no h ↦ rw (le-ltb k (60 * frame.v) (omega arith), line_rest carriers k (omega arith) lt) refl
        ]

-- ---- good states

good_made : (settings : Settings) (memory : List ℕ) (register : ℕ) (lines : List ℕ) → starting settings ≡ 0
    → register < 64 → length lines ≡ 360 → ((k : ℕ) → k < 360 → bit_or_zero (used_lines settings.v) lines k ≡ true)
    → good_coding_state (record { settings = settings; memory = memory; register = register; lines = lines }) ≡ true
good_made settings memory register lines e less long entries =
    unfold good_coding_state in rw (
      eq-eqb (starting settings) 0 e,
      lt-ltb register 64 less,
      bits_fine (used_lines settings.v) lines (λ k lt. entries k (omega arith)),
    ) refl

pub left_sized : (state : State) → good_coding_state state ≡ true → (packets : List ℕ)
    → Sized (coding_state_behind state packets)
left_sized state good packets =
    unfold coding_state_behind frame_of memory_behind lines_behind in let frame = frame_of state packets in
    let bits = (legal_settings state.settings (good_legal state good)).bits in
    record {
      memory_long = length_memory waits_there there_fits state.memory frame.sent (P state.settings);
      lines_long =
          length_lines_after state.settings.v state.lines (kept_bit_of frame) (C state.settings)
          (lines_fit bits);
    }

pub good_behind : (state : State) → good_coding_state state ≡ true → (packets : List ℕ)
    → good_coding_state (coding_state_behind state packets) ≡ true
good_behind state good packets =
    unfold coding_state_behind frame_of in let given = given_of_is state good in
    let frame = frame_of state packets in
    good_made state.settings _ _ (lines_behind frame (C state.settings)) (good_legal state good)
    (register_bound frame (P state.settings)) (left_sized state good packets).lines_long
    (lines_good frame given.legal.bits given.entries (C state.settings))

-- entries of one range, added
sum_good : (v : ℕ) (one two : List ℕ) (k : ℕ) → k < 360 → bit_or_zero (used_lines v) one k ≡ true
    → bit_or_zero (used_lines v) two k ≡ true → bit_or_zero (used_lines v) (added_to 360 one two) k ≡ true
unfolding bit_or_zero
sum_good v one two k lt a b =
    rw (get_d_tab 360 (λ k. bit_xor (get_or one k 0) (get_or two k 0)) k lt) (elim (dec_lt k (60 * v)) [
      | yes h ↦
          let early = lt-ltb k (60 * v) h in
          rw early (lt-ltb _ 2 (xor_lt 1 (get_or one k 0) (get_or two k 0)
          (ltb-true (get_or one k 0) 2 (rw early at a)) (ltb-true (get_or two k 0) 2 (rw early at b))))
      | no h ↦
          let late = le-ltb k (60 * v) (omega arith) in
          rw late (lt-ltb _ 1 (xor_lt 0 (get_or one k 0) (get_or two k 0)
          (ltb-true (get_or one k 0) 1 (rw late at a)) (ltb-true (get_or two k 0) 1 (rw late at b))))
    ])

good_tests : (state : State) → good_coding_state state ≡ true
    → (state.register < 64) × (bits_then_zeros (used_lines state.settings.v) state.lines ≡ true)
good_tests state good =
    unfold good_coding_state in let start = eqb (starting state.settings) 0 in
    let small = ltb state.register 64 in
    let both = and_both (start && small) (bits_then_zeros (used_lines state.settings.v) state.lines) good in
    (ltb-true state.register 64 (and_both start small both.0).1, both.1)

good_lines : (state : State) → good_coding_state state ≡ true → (k : ℕ)
    → bit_or_zero (used_lines state.settings.v) state.lines k ≡ true
good_lines state good = bits_at _ state.lines (good_tests state good).1

pub replaced_good : (state : State) → good_coding_state state ≡ true → (number : ℕ) (old new : List ℕ)
    → good_coding_state (replaced_state state number old new) ≡ true
replaced_good state good number old new =
    unfold replaced_state difference_frame in let settings = state.settings in
    let legal = legal_settings settings (good_legal state good) in
    let difference = difference_frame settings number old new in
    good_made settings _ _ (added_to 360 state.lines (lines_behind difference (C settings))) (good_legal state good)
    (xor_lt 6 state.register (register_behind difference (P settings)) (good_tests state good).0
    (register_bound difference (P settings))) (length_tab 360 _) (λ k lt.
    sum_good settings.v state.lines (lines_behind difference (C settings)) k lt (good_lines state good k)
    (lines_good difference legal.bits (difference_entries settings number old new) (C settings) k lt))

-- ---- the carriers

in_range : (v : ℕ) (n : ℕ) (f : ℕ → ℕ) → ((k : ℕ) → k < n → f k < 2 ^ v) → carriers_in_range v (tab n f) ≡ true
in_range v n f below =
    unfold carriers_in_range in rw (length_tab n f) (all_yes n (λ k. ltb (get_or (tab n f) k 0) (2 ^ v))
    (λ k lt. rw (get_d_tab n f k lt) (lt-ltb (f k) (2 ^ v) (below k lt))))

pub coded_in_range : (state : State) → good_coding_state state ≡ true → length state.lines ≡ 360 → (packets : List ℕ)
    → carriers_in_range state.settings.v (carriers_of_frame state packets) ≡ true
unfolding carriers_of_frame frame_of
coded_in_range state good wide packets =
    in_range state.settings.v (C state.settings) (carrier_value (frame_of state packets))
    (λ k lt. carrier_bound (frame_of state packets) (given_of_is state good).entries k)

pub replaced_in_range : (settings : Settings) (number : ℕ) (old new carriers : List ℕ)
    → carriers_in_range settings.v carriers ≡ true
    → carriers_in_range settings.v (replaced_carriers settings number old new carriers) ≡ true
unfolding replaced_carriers carriers_in_range difference_frame
replaced_in_range settings number old new carriers ranged =
    in_range settings.v (length carriers) (λ k. bit_xor (get_or carriers k 0) (carrier_value difference k))
    (λ k lt.
    xor_lt settings.v (get_or carriers k 0) (carrier_value difference k) (in_before k lt) (differs_below k))
  where
    difference : Frame
    difference = difference_frame settings number old new

    in_before : (k : ℕ) → k < length carriers → get_or carriers k 0 < 2 ^ settings.v
    in_before k lt =
        ltb-true (get_or carriers k 0) (2 ^ settings.v)
        (all_at (length carriers) (λ k. ltb (get_or carriers k 0) (2 ^ settings.v)) ranged k lt)

    differs_below : (k : ℕ) → carrier_value difference k < 2 ^ settings.v
    differs_below k = carrier_bound difference (difference_entries settings number old new) k
