-- The packets of a frame, read back from its carriers and the state behind it: any next frame is coded from that state,
-- and a fresh receiver takes both.
--     Coded, coded_of     a frame of bytes, coded from a good state
--     same_packets        two of them that have the same carriers and leave the same state are of the same packets
--     held_by_both        the same, of calls
use mathlib.Core.Path.{◌≡◌, refl, sym, ap, ap₂, ◌∙◌, subst}
use mathlib.Core.Bool.{true}
use mathlib.Core.List.{List}
use Prim.Native.Nat.{ℕ, zero, suc, ◌+◌, ◌-◌, ◌<◌}
use native.Mathlib.Nat.{mod-eq_of_lt, div-eq_of_lt}
use native.Mathlib.Decide.{dec_lt}
use native.Mathlib.Omega.{arith}
use lib.ListN.{get_or, drop}
use Rattle.settings.specs.declared.Settings.{Settings}
use Rattle.settings.specs.Sizes.{P, packets_of}
use Rattle.settings.proofs.Frame.{Frame as Sizes, frame_of_is}
use Rattle.rules.specs.Word.{packet_at}
use Rattle.nearest.specs.Slot.{Slot}
use Rattle.nearest.proofs.Exists.{slot_of_is}
use Rattle.coding_state.specs.declared.State.{State}
use Rattle.coding_state.proofs.Good.{good_legal, packets_are}
use Rattle.coding_answers.specs.Coding.{coding, coded_into, state_coded, carriers_of_frame, coding_state_behind, all_begin}
use Rattle.coding_answers.specs.Calls.{Sized}
use Rattle.coding_answers.proofs.Codings.{accepted_of}
use Rattle.receiving_answers.specs.Receiving.{word_received, passed_of, given_of, receiving_state_behind}
use Rattle.receiving_state.specs.declared.State.{State as Receiving}
use Rattle.receiving_state.specs.State.{fresh_receiving_state}
use Rattle.demands.specs.Frames.{coder_at, carriers_at, receiver_at, sent_packet, first_given, given_packets}
use Rattle.demands.specs.Frames.{Packets, Sending}
use Rattle.demands.proofs.Gives.{run_given, joining_comes}
use Rattle.demands.proofs.Spoiled.{left}

-- a frame, and behind it another one again and again
unfoldable followed : List ℕ → List ℕ → ℕ → List ℕ
followed packets next zero = packets
followed packets next (suc f) = next

pub record Coded (start : State) (packets : List ℕ) : Type 0 where
  pub sending : Sending start
  pub begun : all_begin (P start.settings) packets ≡ true
  pub bytes : (k : ℕ) → get_or packets k 0 < 256

pub coded_of : (start : State) (packets carriers : List ℕ) → Sized start → coding start packets carriers ≡ 0
    → ((k : ℕ) → get_or packets k 0 < 256) → Coded start packets
coded_of start packets carriers sized done bytes =
    let all = accepted_of start packets carriers done in
    record {
      sending = record { good = all.good; lines_long = sized.lines_long };
      begun =
          subst (λ (count : ℕ). all_begin count packets ≡ true) (packets_are start all.good) all.begun;
      bytes = bytes;
    }

run_of : (start : State) (packets next : List ℕ) → Coded start packets → all_begin (P start.settings) next ≡ true
    → ((k : ℕ) → get_or next k 0 < 256) → Packets start.settings (followed packets next)
unfolding followed
run_of start packets next coded begun bytes = record { begin = begin; bytes = small }
  where
    begin : (f : ℕ) → all_begin (P start.settings) (followed packets next f) ≡ true
    begin zero = coded.begun
    begin (suc f) = begun

    small : (f k : ℕ) → get_or (followed packets next f) k 0 < 256
    small zero k = coded.bytes k
    small (suc f) k = bytes k

-- what a call of a run is given, on which its slots depend
record Call : Type 0 where
  pub state : Receiving
  pub carriers : List ℕ

abbrev call_at : State → (ℕ → List ℕ) → ℕ → Call
call_at start packets f = record { state = receiver_at start packets f; carriers = carriers_at start packets f }

abbrev received : Call → ℕ → List ℕ
received call i = word_received call.state call.carriers (passed_of call.state + i)

module _ (one other : State) (packets others : List ℕ) (is_one : Coded one packets) (is-other : Coded other others)
    (same_carriers : carriers_of_frame one packets ≡ carriers_of_frame other others)
    (same_state : coding_state_behind one packets ≡ coding_state_behind other others) where
  same_settings : one.settings ≡ other.settings
  unfolding coding_state_behind
  same_settings = ap (λ (state : State). state.settings) same_state

  abbrev run_one : ℕ → List ℕ
  run_one = followed packets packets

  abbrev run_other : ℕ → List ℕ
  run_other = followed others packets

  first_call : call_at one run_one 0 ≡ call_at other run_other 0
  unfolding receiver_at carriers_at coder_at followed
  first_call =
      ap₂ (λ (state : Receiving) (carriers : List ℕ). record { state = state; carriers = carriers })
      (ap fresh_receiving_state same_settings) same_carriers

  second_call : call_at one run_one 1 ≡ call_at other run_other 1
  unfolding receiver_at carriers_at coder_at followed
  second_call =
      ap₂ (λ (state : Receiving) (carriers : List ℕ). record { state = state; carriers = carriers })
      (ap₂ receiving_state_behind (ap fresh_receiving_state same_settings) same_carriers)
      (ap (λ (state : State). carriers_of_frame state packets) same_state)

  one_run : Packets one.settings run_one
  one_run = run_of one packets packets is_one is_one.begun is_one.bytes

  other_run : Packets other.settings run_other
  other_run =
      run_of other others packets is-other
      (subst (λ (settings : Settings). all_begin (P settings) packets ≡ true) same_settings is_one.begun)
      is_one.bytes

  -- in slot i of a call that both runs have
  given_alike : (f i : ℕ) → call_at one run_one f ≡ call_at other run_other f
      → i < given_of (receiver_at one run_one f)
      → sent_packet (P one.settings) run_one (first_given (P one.settings) f + i)
      ≡ sent_packet (P other.settings) run_other (first_given (P other.settings) f + i)
  given_alike f i same h =
      let some = slot_of_is (received (call_at one run_one f) i) in
      let here = joining_comes one is_one.sending run_one one_run f i h some.slot some.is in
      let there = joining_comes other is-other.sending run_other other_run f i
      (subst (λ (call : Call). i < given_of call.state) same h) some.slot
      (subst (λ (call : Call). Slot (received call i) some.slot) same some.is) in
      ap (drop 1) (sym here.slot_is ∙ there.slot_is)

  sizes : Sizes one.settings
  sizes = frame_of_is one.settings (good_legal one is_one.sending.good)

  -- packet `number` of a run's first frame, counted over all frames
  in_first : (count number : ℕ) → number < count → (next : List ℕ) (frame : List ℕ)
      → sent_packet count (followed frame next) number ≡ packet_at frame number
  unfolding sent_packet followed
  in_first count number less next frame = rw (div-eq_of_lt less, mod-eq_of_lt less) refl

  numbered : (f i number : ℕ) → call_at one run_one f ≡ call_at other run_other f
      → i < given_of (receiver_at one run_one f) → first_given (P one.settings) f + i ≡ number
      → number < P one.settings → packet_at packets number ≡ packet_at others number
  numbered f i number same h place less =
      let count : P one.settings ≡ P other.settings = ap P same_settings in
      let alike = given_alike f i same h in
      let here = ap (sent_packet (P one.settings) run_one) place ∙ in_first (P one.settings) number less packets
      packets in
      let there = ap (λ (all : ℕ). sent_packet all run_other (first_given all f + i)) (sym count)
      ∙ ap (sent_packet (P one.settings) run_other) place
      ∙ in_first (P one.settings) number less packets others in
      sym here ∙ alike ∙ there

  -- the first call gives all but twelve, the second one those
  pub same_packets : (number : ℕ) → number < P one.settings → packet_at packets number ≡ packet_at others number
  unfolding first_given given_packets
  same_packets number less = elim (dec_lt number (P one.settings - 12)) [
    | yes early ↦ numbered 0 number number first_call
        (rw (run_given one is_one.sending run_one 0) early) (omega arith) less
    | no late ↦ numbered 1 (number - (P one.settings - 12)) number second_call
        (rw (run_given one is_one.sending run_one 1) (omega (arith, sizes.packets_least)))
        (omega (arith, sizes.packets_least)) less
  ]

-- what accepted calls leave in the lent carriers, and the states after them
pub held_by_both : (one other : State) (packets others carriers room : List ℕ) → Coded one packets → Coded other others
    → coding one packets carriers ≡ 0 → coding other others room ≡ 0
    → coded_into one packets carriers ≡ coded_into other others room
    → state_coded one packets carriers ≡ state_coded other others room
    → (number : ℕ) → number < packets_of one.settings → packet_at packets number ≡ packet_at others number
held_by_both one other packets others carriers room is_one is-other done there carriers-same state-same number less =
    let here = left one packets carriers done in
    let beside = left other others room there in
    same_packets one other packets others is_one is-other
    (sym here.0 ∙ carriers-same ∙ beside.0) (sym here.1 ∙ state-same ∙ beside.1) number
    (subst (λ (count : ℕ). number < count) (packets_are one is_one.sending.good) less)
