-- The state after a call, and how many words and packets a call has.
--     Accepted, accepted            what a call that is not refused has passed
--     start_good, zero_not_good     the state after a start; after a refused one
--     good_behind, stays_good       a good state stays good
--     first_counts, later_counts    "The first call finishes P − 1 words and gives P − 12 packets", later ones P and P
use mathlib.Core.Path.{◌≡◌, refl, ◌∙◌}
use mathlib.Core.Bool.{true, false, cond}
use mathlib.Core.List.{List}
use Prim.Native.Nat.{ℕ, zero, suc, ◌+◌, ◌-◌, ◌*◌, ◌<◌, ◌≤◌}
use native.Mathlib.Decide.{ℕ_discrete, dec_lt}
use native.Mathlib.Omega.{arith}
use lib.Dec.{eqb, ltb}
use lib.ListN.{length, get_or}
use borrow.Author.Tests.{lt-ltb, le-ltb, eq-eqb, ne_eqb, eqb-true}
use Rattle.lists.specs.Binary.{bit_of}
use Rattle.lists.specs.Tests.{between, bits_then_zeros}
use Rattle.lists.specs.Tab.{piece_start}
use Rattle.lists.proofs.Binaries.{binary_lt}
use Rattle.lists.proofs.Pieces.{place_in}
use Rattle.lists.proofs.Tabs.{length_tab, get_d_tab}
use Rattle.lists.proofs.BitEntries.{bit_fine, bits_fine}
use Rattle.settings.specs.declared.Settings.{Settings}
use Rattle.settings.specs.Legal.{starting}
use Rattle.settings.specs.Sizes.{P, C, packets_of, carriers_of}
use Rattle.settings.proofs.Refusals.{passed}
use Rattle.settings.proofs.LegalSettings.{LegalBits, qpsk, qam16, qam64, legal_settings}
use Rattle.rules.specs.Bits.{carriers_in_range, line_delay, carrier_of, line_of, wait_of, in_sizes, entry_after, lines_waiting}
use Rattle.rules.specs.Bits.{used_lines}
use Rattle.rules.proofs.Entries.{length_in_sizes, in_sizes_at, in_sizes_rest}
use Rattle.rules.specs.Back.{line_digit, received_digit, register_of, last_kept, held_count, held_after}
use Rattle.receiving_state.specs.declared.State.{State}
use Rattle.receiving_state.specs.State.{fresh_receiving_state, zero_receiving_state, started_receiving_state}
use Rattle.receiving_state.specs.State.{good_receiving_state}
use Rattle.receiving_answers.specs.Words.{call_pairs, register_before}
use Rattle.receiving_answers.specs.Receiving.{receiving, words_of, passed_of, given_of, last_carriers}
use Rattle.receiving_answers.specs.Receiving.{receiving_state_behind, state_received}
use Rattle.receiving_state.proofs.Good.{good_of, fresh_good}
use Rattle.receiving_answers.proofs.Answers.{carriers_are, packets_least}

-- ---- the tests that a call which is not refused has passed

pub record Accepted (state : State) (carriers slots : List ℕ) : Type 0 where
  pub good : good_receiving_state state ≡ true
  pub room : length carriers ≡ carriers_of state.settings
  pub long : length slots ≡ 189 * packets_of state.settings
  pub values : carriers_in_range state.settings.v carriers ≡ true

pub accepted : (state : State) (carriers slots : List ℕ) → receiving state carriers slots ≡ 0
    → Accepted state carriers slots
unfolding receiving
accepted state carriers slots e =
    let good = passed 6 (good_receiving_state state) _ e in
    let room = passed 5 (eqb (length carriers) (carriers_of state.settings)) _ good.1 in
    let long = passed 4 (eqb (length slots) (189 * packets_of state.settings)) _ room.1 in
    record {
      good = good.0;
      room = eqb-true (length carriers) (carriers_of state.settings) room.0;
      long = eqb-true (length slots) (189 * packets_of state.settings) long.0;
      values = (passed 9 (carriers_in_range state.settings.v carriers) 0 long.1).0;
    }

-- ---- the state after a start

pub start_good : (settings : Settings) → starting settings ≡ 0
    → good_receiving_state (started_receiving_state settings) ≡ true
unfolding started_receiving_state
start_good settings e = rw (eq-eqb (starting settings) 0 e) (fresh_good settings e)

-- "A refused start gives the all-zero state, which is not good."
pub zero_not_good : good_receiving_state zero_receiving_state ≡ false
zero_not_good = unfold good_receiving_state zero_receiving_state fresh_receiving_state starting between in refl

-- ---- the state behind a frame: each entry is in range, and unused ones are zero

bit_few : (v symbol l : ℕ) → bit_of v symbol l < 2
bit_few v symbol l = omega arith

digit_few : (v : ℕ) (carriers : List ℕ) (k l : ℕ) → k < length carriers → line_digit v carriers k l < 2
unfolding line_digit
digit_few v carriers k l h = rw (lt-ltb k (length carriers) h) (bit_few v (get_or carriers k 0) l)

-- all but the last 120 carriers' worth of kept bits lie in the frame with all their lines
carrier_inside : {v : ℕ} → LegalBits v → (c n : ℕ) → c + 120 * v < n * v → carrier_of v c < n
unfolding carrier_of line_delay
carrier_inside qpsk c n h = omega arith
carrier_inside qam16 c n h = omega arith
carrier_inside qam64 c n h = omega arith

module _ (settings : Settings) (legal : starting settings ≡ 0) (carriers : List ℕ)
    (room : length carriers ≡ C settings) where
  held_digit : (i : ℕ) → i < held_count settings → received_digit settings.v carriers (last_kept settings + i) < 2
  unfolding received_digit held_count
  held_digit i lt =
      digit_few settings.v carriers (carrier_of settings.v (last_kept settings + i))
      (line_of settings.v (last_kept settings + i))
      (carrier_inside (legal_settings settings legal).bits (last_kept settings + i) (length carriers)
      (rw room (omega arith)))

  held_good : bits_then_zeros (held_count settings) (held_after settings carriers) ≡ true
  unfolding held_after
  held_good =
      bits_fine (held_count settings) (held_after settings carriers) (λ k lt.
      let inside : k < 3072 = omega (arith, length_tab 3072 entry) in
      bit_fine (held_count settings) (held_after settings carriers) k (rw (get_d_tab 3072 entry k inside) (few k))
      (λ unused. get_d_tab 3072 entry k inside ∙ rw (le-ltb k (held_count settings) unused) refl))
    where
      entry : ℕ → ℕ
      entry i = cond (ltb i (held_count settings)) (received_digit settings.v carriers (last_kept settings + i)) 0

      few : (k : ℕ) → entry k < 2
      few k = elim (dec_lt k (held_count settings)) [
        | yes h ↦ rw (lt-ltb k (held_count settings) h) (held_digit k h)
        | no h ↦ rw (le-ltb k (held_count settings) (omega arith)) (omega arith)
      ]

-- entries in pieces whose sizes come to `used`
sizes_good : (sizes : ℕ → ℕ) (v used : ℕ) (entry : ℕ → ℕ → ℕ) → piece_start sizes v ≡ used → used ≤ 360
    → ((l e : ℕ) → entry l e < 2) → bits_then_zeros used (in_sizes sizes v entry) ≡ true
sizes_good sizes v used entry e most few =
    let long = length_in_sizes sizes v entry (omega arith) in
    bits_fine used (in_sizes sizes v entry) (λ k lt.
    bit_fine used (in_sizes sizes v entry) k (elim (dec_lt k used) [
      | yes h ↦ place_in sizes (λ (k : ℕ). get_or (in_sizes sizes v entry) k 0 < 2) v
          (λ l q less small. rw (in_sizes_at sizes v entry l q less small) (few l q)) k (omega arith)
      | no h ↦ rw (in_sizes_rest sizes v entry k (omega arith) (omega arith)) (omega arith)
    ]) (λ unused. in_sizes_rest sizes v entry k (omega arith) (omega arith)))

entry_few : (last : List ℕ) (v l e : ℕ) → entry_after (wait_of v) v last l e < 2
entry_few last v l e = unfold entry_after in bit_few v _ l

-- the lines wait 120 − l × 120/(v−1) carriers, which is 60 × v in all
lines_good : {v : ℕ} → LegalBits v → (last : List ℕ) → bits_then_zeros (used_lines v) (lines_waiting v last) ≡ true
unfolding lines_waiting piece_start wait_of line_delay
lines_good qpsk last =
    sizes_good (wait_of 2) 2 120 (entry_after (wait_of 2) 2 last) refl (omega arith) (entry_few last 2)
lines_good qam16 last =
    sizes_good (wait_of 4) 4 240 (entry_after (wait_of 4) 4 last) refl (omega arith) (entry_few last 4)
lines_good qam64 last =
    sizes_good (wait_of 6) 6 360 (entry_after (wait_of 6) 6 last) refl (omega arith) (entry_few last 6)

pub register_few : (pairs : ℕ → List ℕ) (register n : ℕ) → register < 64 → register_before pairs register n < 64
unfolding register_before register_of
register_few pairs register zero h = h
register_few pairs register (suc n) h = binary_lt 6 _ (λ l. omega arith)

pub good_behind : (state : State) (carriers : List ℕ) → good_receiving_state state ≡ true
    → length carriers ≡ C state.settings → good_receiving_state (receiving_state_behind state carriers) ≡ true
good_behind state carriers good room =
    unfold good_receiving_state receiving_state_behind in let is = good_of state good in
    rw (
      eq-eqb (starting state.settings) 0 is.legal,
      lt-ltb (register_before (call_pairs state carriers) state.register (words_of state)) 64
          (register_few (call_pairs state carriers) state.register (words_of state) is.register_few),
      lines_good (legal_settings state.settings is.legal).bits (last_carriers carriers),
      held_good state.settings is.legal carriers room,
    ) refl

-- whatever a call answers
pub stays_good : (state : State) (carriers slots : List ℕ) → good_receiving_state state ≡ true
    → good_receiving_state (state_received state carriers slots) ≡ true
unfolding state_received
stays_good state carriers slots good = elim (ℕ_discrete (receiving state carriers slots) 0) [
  | yes e ↦
      rw (eq-eqb (receiving state carriers slots) 0 e)
      (good_behind state carriers good ((accepted state carriers slots e).room ∙ carriers_are state good))
  | no ne ↦ rw (ne_eqb (receiving state carriers slots) 0 ne) good
]

-- ---- how many words a call finishes, and how many packets it gives

module _ (state : State) (good : good_receiving_state state ≡ true) where
  pub first_counts : state.taken ≡ 0
      → (words_of state ≡ P state.settings - 1) × (given_of state ≡ P state.settings - 12)
  unfolding words_of passed_of given_of
  first_counts first = (omega arith, rw (eq-eqb state.taken 0 first) (omega (arith, packets_least state good)))

  pub later_counts : (state.taken ≡ 0 → ⊥)
      → (words_of state ≡ P state.settings) × (given_of state ≡ P state.settings)
  later_counts later =
      unfold words_of passed_of given_of in let few = (good_of state good).taken_few in
      let least = packets_least state good in
      (omega arith, rw (ne_eqb state.taken 0 later) (omega arith))
