-- The calls of a run: none is refused, and each gives back the packets that were sent.
--     coder_good, coder_settings     the coder's state is good before each of its calls, with the settings of the first
--     code_done, code_leaves         the coder's calls are done, and leave the run's carriers and states
--     run_good                       the receiver's state is good before each call of a run from a fresh receiver on
--     run_accepted                   and no call is refused
--     run_goes_on                    a call of the run leaves the run's next state
--     call_comes_back                a call of a good receiver in step
--     frames_come_back               the calls of a run from a coder with register 0 and a fresh receiver on
use mathlib.Core.Path.{◌≡◌, refl, sym, ap, ◌∙◌, subst}
use mathlib.Core.Bool.{true}
use mathlib.Core.List.{List}
use Prim.Native.Nat.{ℕ, zero, suc, ◌-◌, ◌*◌, ◌<◌}
use native.Mathlib.Omega.{arith}
use lib.ListN.{length, get_or}
use borrow.Author.Tests.{eq-eqb}
use Rattle.receiving_state.proofs.Good.{fresh_good}
use Rattle.settings.specs.declared.Settings.{Settings}
use Rattle.settings.specs.Sizes.{P, C, packets_of, carriers_of}
use Rattle.settings.proofs.LegalSettings.{Legal, legal_settings}
use Rattle.settings.proofs.Frame.{Frame as Sizes, frame_of_is}
use Rattle.rules.proofs.CodeWindows.{register_lt}
use Rattle.rules.specs.Frame.{message_bit, register_behind}
use Rattle.coding_state.specs.declared.State.{State}
use Rattle.coding_state.specs.State.{good_coding_state as good_coder}
use Rattle.coding_answers.specs.Coding.{coding, coded_into, state_coded, coding_state_behind as coder_behind}
use Rattle.coding_state.proofs.Good.{good_legal, given_of_is}
use Rattle.coding_answers.proofs.StaysGood.{left_sized, good_behind}
use Rattle.receiving_state.specs.declared.State.{State as Receiving}
use Rattle.receiving_answers.specs.Entry.{Received}
use Rattle.receiving_state.specs.State.{fresh_receiving_state, good_receiving_state}
use Rattle.receiving_answers.specs.Receiving.{receiving, receiving_state_behind, state_received, count_received, slot_of}
use Rattle.receiving_answers.specs.Entry.{Back}
use Rattle.demands.specs.Frames.{coder_at, carriers_at, receiver_at, stream_from, Packets, Sending, Started}
use Rattle.demands.specs.InStep.{InStep}
use Rattle.demands.specs.CameBack.{CameBack}
use Rattle.demands.proofs.Streams.{carried_first, lines_hold}
use Rattle.demands.proofs.Accepted.{behind_good, call_accepted}
use Rattle.demands.proofs.Runs.{BehindBy, wrong_behind, behind_of, call_keeps_step, run_in_step, run_joins}
use Rattle.demands.proofs.Gives.{packets_given, in_step_comes_back}

module _ (start : State) (sending : Sending start) (packets : ℕ → List ℕ) where
  abbrev settings : Settings
  settings = start.settings

  legal : Legal settings
  legal = legal_settings settings (good_legal start sending.good)

  sizes : Sizes settings
  sizes = frame_of_is settings (good_legal start sending.good)

  entries : (f k : ℕ) → get_or (coder_at start packets f).lines k 0 < 2
  entries = lines_hold start packets legal sizes (given_of_is start sending.good).entries

  -- ---- the coder's calls

  pub coder_good : (f : ℕ) → (good_coder (coder_at start packets f) ≡ true)
      × (length (coder_at start packets f).lines ≡ 360)
  unfolding coder_at
  coder_good zero = (sending.good, sending.lines_long)
  coder_good (suc f) =
      let before = coder_good f in (
        good_behind (coder_at start packets f) before.0 (packets f),
        (left_sized (coder_at start packets f) before.0 (packets f)).lines_long,
      )

  pub coder_settings : (f : ℕ) → (coder_at start packets f).settings ≡ settings
  unfolding coder_at coder_behind
  coder_settings zero = refl
  coder_settings (suc f) = coder_settings f

  -- With packets of the right length, and room for the carriers, the coder's calls are done.
  pub code_done : Packets settings packets → (f : ℕ) (area : List ℕ) → length (packets f) ≡ 188 * P settings
      → length area ≡ C settings → coding (coder_at start packets f) (packets f) area ≡ 0
  code_done given f area long room =
      unfold coding packets_of carriers_of in rw (
        (coder_good f).0,
        coder_settings f,
        eq-eqb _ 0 (good_legal start sending.good),
        eq-eqb (length (packets f)) (188 * P settings) long,
        eq-eqb (length area) (C settings) room,
        given.begin f,
      ) refl

  -- So they leave the run's carriers and the run's next state.
  pub code_leaves : Packets settings packets → (f : ℕ) (area : List ℕ) → length (packets f) ≡ 188 * P settings
      → length area ≡ C settings
      → (coded_into (coder_at start packets f) (packets f) area ≡ carriers_at start packets f)
      × (state_coded (coder_at start packets f) (packets f) area ≡ coder_at start packets (suc f))
  unfolding coded_into state_coded carriers_at coder_at
  code_leaves given f area long room =
      let done = eq-eqb (coding (coder_at start packets f) (packets f) area) 0 (code_done given f area long room) in
      (rw done refl, rw done refl)

  -- ---- the receiver's calls

  state_settings : (f : ℕ) (state : Receiving) → InStep start packets f state → state.settings ≡ settings
  state_settings zero state b = ap (λ (s : Receiving). s.settings) b.state_is
  state_settings (suc f) state b = ap (λ (s : Receiving). s.settings) b.state_is

  run_settings : (f : ℕ) → (receiver_at start packets f).settings ≡ settings
  unfolding receiver_at fresh_receiving_state
  run_settings zero = refl
  run_settings (suc f) = ap (λ (s : Receiving). s.settings) (run_joins start sending packets f).state_is

  module _ (wrong f : ℕ) (state : Receiving) (b : BehindBy wrong start packets f state) where
    register_small : b.register < 64
    register_small =
        unfold register_behind in rw b.register_is
        (register_lt (coder_at start packets f).register (message_bit (stream_from start packets f))
        (1632 * (P settings - 1)))

    -- behind a frame a receiver's state is good
    state_good : good_receiving_state state ≡ true
    state_good =
        ap good_receiving_state b.state_is
        ∙ behind_good settings legal sizes (good_legal start sending.good) (coder_at start packets f).memory
        (coder_at start packets f).register (coder_at start packets f).lines
        (stream_from start packets f).sent (entries f)
        (carriers_at start packets f) (carried_first start packets legal sizes f) b.memory b.register
        register_small

  -- behind a frame a receiver in step is good
  pub in_step_good : (f : ℕ) (state : Receiving) → InStep start packets (suc f) state → good_receiving_state state
      ≡ true
  in_step_good f state b = state_good 0 f state (behind_of start packets f state b)

  pub run_good : (f : ℕ) → good_receiving_state (receiver_at start packets f) ≡ true
  unfolding receiver_at
  run_good zero = fresh_good settings (good_legal start sending.good)
  run_good (suc f) =
      state_good (wrong_behind f) f (receiver_at start packets (suc f)) (run_joins start sending packets f)

  -- a good receiver of the layer is not refused
  accepted : (f : ℕ) (state : Receiving) → state.settings ≡ settings → good_receiving_state state ≡ true
      → (slots : List ℕ)
      → length slots ≡ 189 * P settings → receiving state (carriers_at start packets f) slots ≡ 0
  accepted f state same good slots room =
      call_accepted settings legal sizes (good_legal start sending.good) (coder_at start packets f).memory
      (coder_at start packets f).register (coder_at start packets f).lines
      (stream_from start packets f).sent (entries f)
      (carriers_at start packets f) (carried_first start packets legal sizes f) state same good slots room

  pub run_accepted : (f : ℕ) (slots : List ℕ) → length slots ≡ 189 * P settings
      → receiving (receiver_at start packets f) (carriers_at start packets f) slots ≡ 0
  run_accepted f slots room = accepted f (receiver_at start packets f) (run_settings f) (run_good f) slots room

  -- A call of the run leaves the run's next state.
  pub run_goes_on : (f : ℕ) (slots : List ℕ) → length slots ≡ 189 * P settings → (r : Received) (slots' : List ℕ)
      → Back (receiver_at start packets f) (carriers_at start packets f) slots r slots'
      → r.state ≡ receiver_at start packets (suc f)
  run_goes_on f slots room r slots' back =
      unfold state_received receiver_at in back.state_is
      ∙ rw (eq-eqb (receiving (receiver_at start packets f) (carriers_at start packets f) slots) 0
      (run_accepted f slots room)) refl

  pub call_comes_back : Packets settings packets → (f : ℕ) (state : Receiving) → InStep start packets f state
      → good_receiving_state state ≡ true
      → (slots : List ℕ) → length slots ≡ 189 * P settings → (r : Received) (slots' : List ℕ)
      → Back state (carriers_at start packets f) slots r slots' → CameBack start packets f r slots'
  call_comes_back given f state in_step good slots room r slots' back =
      unfold state_received count_received in let same = state_settings f state in_step in
      let not_refused = accepted f state same good slots room in
      let zero_is = eq-eqb (receiving state (carriers_at start packets f) slots) 0 not_refused in
      let count = packets_given start sending packets f state in_step in
      let after : r.state ≡ receiving_state_behind state (carriers_at start packets f) =
      back.state_is ∙ rw zero_is refl in
      record {
        done = back.answer_is ∙ not_refused;
        given_is = back.given_is ∙ rw zero_is count;
        in_step = subst (InStep start packets (suc f)) (sym after)
            (call_keeps_step start sending packets f state in_step);
        slots_are = λ i h.
            in_step_comes_back start sending packets given f state in_step i (omega arith) (slot_of slots' i)
            ((back.slots_are not_refused).given i (omega arith));
      }

-- Call f of a run from a fresh receiver on, whatever its slots held.
pub frames_come_back : (start : State) (started : Started start) (packets : ℕ → List ℕ)
    → Packets start.settings packets → (f : ℕ) (slots : List ℕ) → length slots ≡ 189 * P start.settings
    → (r : Received) (slots' : List ℕ)
    → Back (receiver_at start packets f) (carriers_at start packets f) slots r slots'
    → CameBack start packets f r slots'
frames_come_back start started packets given f slots room r slots' back =
    let sending = started.sending in
    call_comes_back start sending packets given f (receiver_at start packets f)
    (run_in_step start sending packets started.register_zero f) (run_good start sending packets f) slots room
    r slots' back
