-- What a call gives, of frames that are coded and received undisturbed.
--     packets_given, run_given     how many packets a call gives, in step and from a fresh receiver on
--     in_step_comes_back           in step, every packet comes back, with nothing corrected
--     joining_comes                from a fresh receiver on every packet comes back, whatever the coder's register was
use mathlib.Core.Path.{◌≡◌, refl, ap, ◌∙◌, subst}
use mathlib.Core.List.{List, ◌∷◌}
use Prim.Native.Nat.{ℕ, zero, suc, ◌+◌, ◌-◌, ◌*◌, ◌%◌, ◌<◌, ◌≤◌}
use native.Mathlib.Nat.{mod-add-mod, add-mod_right, mul-zero, mul-suc}
use native.Mathlib.Omega.{arith}
use lib.ListN.{replicate}
use Rattle.settings.specs.declared.Settings.{Settings}
use Rattle.settings.specs.Sizes.{P}
use Rattle.settings.proofs.Frame.{Frame as Sizes, frame_of_is}
use Rattle.nearest.specs.Slot.{Slot}
use Rattle.rules.specs.Bits.{lines_waiting}
use Rattle.coding_state.specs.declared.State.{State}
use Rattle.coding_state.proofs.Good.{good_legal}
use Rattle.receiving_state.specs.declared.State.{State as Receiving}
use Rattle.receiving_state.specs.State.{fresh_receiving_state}
use Rattle.receiving_answers.specs.Words.{word_number, call_pairs}
use Rattle.receiving_answers.specs.Receiving.{words_of, passed_of, given_of, sent_place, last_carriers, word_received}
use Rattle.rules.specs.Back.{held_after}
use Rattle.demands.specs.Frames.{carriers_at, receiver_at, sent_packet, first_given, given_packets}
use Rattle.demands.specs.Frames.{stream_from, Packets, Sending}
use Rattle.demands.specs.InStep.{receiving_state_from, InStep}
use Rattle.demands.specs.CameBack.{PacketGiven, most_corrected}
use Rattle.demands.proofs.Words.{Taken}
use Rattle.demands.proofs.Heard.{Hears, hears_of}
use Rattle.demands.proofs.Back.{word_comes_back}
use Rattle.demands.proofs.Runs.{wrong_behind, wrong_few, behind_of, first_taken, later_taken}
use Rattle.demands.proofs.Runs.{joining_taken, fresh_hears, run_joins}

-- eleven words before, by place in the frame
place_back : (x count : ℕ) → 12 ≤ count → 11 ≤ x → (x % count + count - 11) % count ≡ (x - 11) % count
place_back x count many late =
    ap (λ (k : ℕ). k % count) {x = x % count + count - 11} {y = x % count + (count - 11)} (omega arith)
    ∙ mod-add-mod x count (count - 11)
    ∙ ap (λ (k : ℕ). k % count) {x = x + (count - 11)} {y = x - 11 + count} (omega arith)
    ∙ add-mod_right (x - 11) count

-- nothing corrected
none_corrected : (packet slot : List ℕ) → PacketGiven 0 packet slot → slot ≡ 0 ∷ packet
none_corrected packet slot g =
    let none : g.corrected ≡ 0 = omega (arith, g.few) in g.slot_is ∙ ap (λ (n : ℕ). n ∷ packet) none

-- packet 0 of all is the one that the first bytes reach
most_few : (g : ℕ) → most_corrected g ≤ 8
most_few zero = omega arith
most_few (suc g) = omega arith

most_right : (g wrong : ℕ) → wrong ≤ 12 → wrong ≤ 12 * (204 * g + most_corrected g)
most_right zero wrong few = omega arith
most_right (suc g) wrong few = omega arith

module _ (start : State) (sending : Sending start) (packets : ℕ → List ℕ) where
  abbrev settings : Settings
  settings = start.settings

  sizes : Sizes settings
  sizes = frame_of_is settings (good_legal start sending.good)

  abbrev carriers : ℕ → List ℕ
  carriers f = carriers_at start packets f

  abbrev fresh : List ℕ → List ℕ → ℕ → List ℕ → Receiving
  fresh memory lines register held = receiving_state_from settings 0 memory lines register held

  abbrev later : ℕ → List ℕ → ℕ → Receiving
  later f memory register =
      receiving_state_from settings 1 memory (lines_waiting settings.v (last_carriers (carriers f))) register
      (held_after settings (carriers f))

  -- ---- how many

  -- "The first call finishes P − 1 words and gives P − 12 packets"
  first_count : (memory lines : List ℕ) (register : ℕ) (held : List ℕ)
      → given_of (fresh memory lines register held) ≡ P settings - 12
  first_count memory lines register held = unfold given_of words_of passed_of in omega arith

  -- "each later call finishes P words and gives P packets"
  later_count : (f : ℕ) (memory : List ℕ) (register : ℕ) → given_of (later f memory register) ≡ P settings
  later_count f memory register = unfold given_of words_of passed_of in omega (arith, sizes.packets_least)

  -- how many packets call f gives
  pub packets_given : (f : ℕ) (state : Receiving) → InStep start packets f state
      → given_of state ≡ given_packets (P settings) f
  unfolding given_packets
  packets_given zero state b = ap given_of b.state_is ∙ first_count b.memory b.lines b.register b.held
  packets_given (suc f) state b = ap given_of b.state_is ∙ later_count f b.memory b.register

  pub run_given : (f : ℕ) → given_of (receiver_at start packets f) ≡ given_packets (P settings) f
  unfolding given_packets receiver_at fresh_receiving_state
  run_given zero = first_count (replicate 1122 0) (replicate 360 0) 0 (replicate 3072 0)
  run_given (suc f) =
      let b = run_joins start sending packets f in ap given_of b.state_is ∙ later_count f b.memory b.register

  -- ---- which

  module _ (given : Packets settings packets) where
    some : 0 < P settings
    some = omega (arith, sizes.packets_least)

    back_first : (wrong : ℕ) (memory lines : List ℕ) (register : ℕ) (held : List ℕ)
        → Taken (stream_from start packets 0) wrong 0 (P settings - 1)
        (call_pairs (fresh memory lines register held) (carriers 0)) register
        → Hears (stream_from start packets 0) wrong 0 memory
        → (from i : ℕ) → i < P settings - 12 → from ≤ 8 → wrong ≤ 12 → wrong ≤ 12 * (204 * i + from) → (slot : List ℕ)
        → Slot (word_received (fresh memory lines register held) (carriers 0) (11 + i)) slot
        → PacketGiven from (sent_packet (P settings) packets (first_given (P settings) 0 + i)) slot
    back_first wrong memory lines register held taken hears from i h few twelve right slot allowed =
        unfold word_received sent_place word_number first_given in let count = P settings in
        let x = 11 + i + count - 0 in
        let place : (x % count + count - 11) % count ≡ i % count =
        place_back x count sizes.packets_least (omega arith)
        ∙ ap (λ (k : ℕ). k % count) {x = x - 11} {y = i + count} (omega arith)
        ∙ add-mod_right i count in
        subst (λ (g : ℕ). PacketGiven from (sent_packet count packets g) slot)
        (let e : count * 0 + i ≡ 0 + i = omega (arith, mul-zero count) in e)
        (word_comes_back start packets given some 0 wrong 0 (count - 1)
        (call_pairs (fresh memory lines register held) (carriers 0)) memory register taken hears from (11 + i) i
        ((x % count + count - 11) % count) few (omega arith) (omega arith) (omega arith) place twelve right slot
        allowed)

    back_later : (wrong f : ℕ) (memory : List ℕ) (register : ℕ)
        → Taken (stream_from start packets f) wrong (P settings - 1) (P settings)
        (call_pairs (later f memory register) (carriers (suc f))) register
        → Hears (stream_from start packets f) wrong (P settings - 1) memory
        → (from i : ℕ) → i < P settings → from ≤ 8 → wrong ≤ 12 → wrong ≤ 12 * (204 * (P settings - 12 + i) + from)
        → (slot : List ℕ) → Slot (word_received (later f memory register) (carriers (suc f)) (0 + i)) slot
        → PacketGiven from (sent_packet (P settings) packets (first_given (P settings) (suc f) + i)) slot
    back_later wrong f memory register taken hears from i h few twelve right slot allowed =
        unfold word_received sent_place word_number first_given in let count = P settings in
        let many = sizes.packets_least in
        let x = 0 + i + count - 1 in
        let w = count - 1 + (0 + i) - 11 in
        let place : (x % count + count - 11) % count ≡ w % count =
        place_back x count many (omega arith)
        ∙ ap (λ (k : ℕ). k % count) {x = x - 11} {y = w} (omega arith) in
        subst (λ (g : ℕ). PacketGiven from (sent_packet count packets g) slot)
        (let e : count * f + w ≡ count * suc f - 12 + i = omega (arith, mul-suc count f) in e)
        (word_comes_back start packets given some f wrong (count - 1) count
        (call_pairs (later f memory register) (carriers (suc f))) memory register taken hears from (0 + i) w
        ((x % count + count - 11) % count) few (omega arith) (omega arith) refl place twelve (omega arith) slot allowed)

    -- In step, every packet that a call gives is the one sent, with nothing corrected, in the order sent.
    pub in_step_comes_back : (f : ℕ) (state : Receiving) → InStep start packets f state → (i : ℕ) → i < given_of state
        → (slot : List ℕ) → Slot (word_received state (carriers_at start packets f) (passed_of state + i)) slot
        → slot ≡ 0 ∷ sent_packet (P settings) packets (first_given (P settings) f + i)
    unfolding passed_of
    in_step_comes_back zero state b i h slot allowed =
        none_corrected _ slot
        (back_first 0 b.memory b.lines b.register b.held (first_taken start sending packets state b)
        (hears_of (stream_from start packets 0) 0 b.memory b.register b.follows) 0 i
        (omega (arith, ap given_of b.state_is, first_count b.memory b.lines b.register b.held))
        (omega arith) (omega arith) (omega arith) slot
        (subst (λ (s : Receiving). Slot (word_received s (carriers 0) (passed_of s + i)) slot) b.state_is allowed))
    in_step_comes_back (suc f) state in_step i h slot allowed =
        let b = behind_of start packets f state in_step in
        none_corrected _ slot
        (back_later 0 f b.memory b.register (later_taken start sending packets 0 f state b) b.hears 0 i
        (omega (arith, ap given_of b.state_is, later_count f b.memory b.register))
        (omega arith) (omega arith) (omega arith) slot
        (subst (λ (s : Receiving). Slot (word_received s (carriers (suc f)) (passed_of s + i)) slot)
        b.state_is allowed))

    -- ---- from a fresh receiver on, whatever the coder's register was

    joins_first : (i : ℕ) → i < given_of (receiver_at start packets 0) → (slot : List ℕ)
        → Slot (word_received (receiver_at start packets 0) (carriers 0) (passed_of (receiver_at start packets 0) + i))
        slot
        → PacketGiven (most_corrected (first_given (P settings) 0 + i))
        (sent_packet (P settings) packets (first_given (P settings) 0 + i)) slot
    unfolding passed_of receiver_at fresh_receiving_state first_given
    joins_first i h slot allowed =
        let memory : List ℕ = replicate 1122 0 in
        let lines : List ℕ = replicate 360 0 in
        let held : List ℕ = replicate 3072 0 in
        back_first 6 memory lines 0 held (joining_taken start sending packets memory lines held)
        (fresh_hears start sending packets) (most_corrected (0 + i)) i (omega (arith, first_count memory lines 0 held))
        (most_few (0 + i)) (omega arith) (omega (arith, most_right (0 + i) 6 (omega arith))) slot allowed

    joins_later : (f i : ℕ) → i < given_of (receiver_at start packets (suc f)) → (slot : List ℕ)
        → Slot (word_received (receiver_at start packets (suc f)) (carriers (suc f))
        (passed_of (receiver_at start packets (suc f)) + i)) slot
        → PacketGiven (most_corrected (first_given (P settings) (suc f) + i))
        (sent_packet (P settings) packets (first_given (P settings) (suc f) + i)) slot
    unfolding passed_of
    joins_later f i h slot allowed =
        let b = run_joins start sending packets f in
        let wrong = wrong_behind f in
        let g = first_given (P settings) (suc f) + i in
        back_later wrong f b.memory b.register
        (later_taken start sending packets wrong f (receiver_at start packets (suc f)) b) b.hears (most_corrected g) i
        (omega (arith, ap given_of b.state_is, later_count f b.memory b.register)) (most_few g) (wrong_few f)
        (reached f i) slot
        (subst (λ (s : Receiving). Slot (word_received s (carriers (suc f)) (passed_of s + i)) slot)
        b.state_is allowed)
      where
        -- only a frame of twelve packets gives packet 0 in its second call
        reached : (f i : ℕ) → wrong_behind f
            ≤ 12 * (204 * (P settings - 12 + i) + most_corrected (first_given (P settings) (suc f) + i))
        reached zero i =
            unfold first_given in let there : P settings * 1 - 12 + i ≡ P settings - 12 + i = omega arith in
            rw there (most_right (P settings - 12 + i) 6 (omega arith))
        reached (suc f) i = omega arith

    pub joining_comes : (f i : ℕ) → i < given_of (receiver_at start packets f) → (slot : List ℕ)
        → Slot (word_received (receiver_at start packets f) (carriers_at start packets f)
        (passed_of (receiver_at start packets f) + i)) slot
        → PacketGiven (most_corrected (first_given (P settings) f + i))
        (sent_packet (P settings) packets (first_given (P settings) f + i)) slot
    joining_comes zero i h slot allowed = joins_first i h slot allowed
    joining_comes (suc f) i h slot allowed = joins_later f i h slot allowed
