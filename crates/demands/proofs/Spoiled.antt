-- The letter's story, to the receiver: what a replacement leaves that names a wrong packet as old comes back as good.
--     left                 what an accepted coding leaves
--     spoiled_is_taken     a receiver gives the spoiled packets, and corrects nothing
use mathlib.Core.Path.{◌≡◌, refl, sym, ap, ap₂, ◌∙◌, subst}
use mathlib.Core.Bool.{true}
use mathlib.Core.List.{List}
use Prim.Native.Nat.{ℕ, zero, suc, ◌+◌, ◌*◌, ◌/◌, ◌%◌, ◌<◌, ◌≤◌}
use native.Mathlib.Nat.{mod-eq_of_lt, div-eq_of_lt, add-zero}
use native.Mathlib.Decide.{ℕ_discrete, dec_lt}
use native.Mathlib.Omega.{arith}
use lib.Bits.{xor_lt}
use lib.ListN.{length, get_or, replicate, length-replicate, get_or-eq_default}
use borrow.Author.Tests.{eq-eqb, ne_eqb}
use Rattle.settings.specs.declared.Settings.{Settings}
use Rattle.settings.specs.Sizes.{P, C, packets_of}
use Rattle.rules.specs.Word.{packet_at}
use Rattle.rules.proofs.Packets.{length_packet, packet_lt}
use Rattle.coding_state.specs.declared.State.{State}
use Rattle.coding_state.specs.State.{good_coding_state}
use Rattle.coding_state.proofs.Good.{packets_are}
use Rattle.coding_answers.specs.Coding.{coding, coded_into, state_coded, carriers_of_frame, coding_state_behind, all_begin}
use Rattle.coding_answers.specs.Replacement.{begins}
use Rattle.coding_answers.specs.Packets.{with_packet, sum_of_three}
use Rattle.coding_answers.specs.Calls.{Sized, Replaces}
use Rattle.coding_answers.proofs.Codings.{accepted_of}
use Rattle.coding_answers.proofs.Demand.{packet_begins}
use Rattle.coding_answers.proofs.StaysGood.{left_sized}
use Rattle.coding_answers.proofs.NewPacket.{length_with, byte_own, byte_other, own_packet, coded_again}
use Rattle.coding_answers.proofs.Story.{length_sum, sum_at, sum_begins, wrong_old_codes_the_sum}
use Rattle.receiving_answers.specs.Receiving.{slot_of}
use Rattle.demands.specs.Frames.{coder_at, carriers_at, sent_packet, Packets, Sending}
use Rattle.demands.specs.CameBack.{PacketGiven, most_corrected}
use Rattle.demands.specs.Spoiled.{exchanged, spoiled, Spoiled}
use Rattle.demands.proofs.Back.{packet_of}
use Rattle.demands.proofs.Whole.{coder_good, coder_settings, code_done, code_leaves}
use Rattle.demands.proofs.Joins.{joining_comes_back}

-- ---- a run with one frame's packets exchanged

module _ (packets : ℕ → List ℕ) (f : ℕ) (others : List ℕ) where
  here : exchanged packets f others f ≡ others
  here = unfold exchanged in rw (eq-eqb f f refl) refl

  elsewhere : (g : ℕ) → (g ≡ f → ⊥) → exchanged packets f others g ≡ packets g
  elsewhere g other = unfold exchanged in rw (ne_eqb g f other) refl

  -- before that frame it is the run that it was
  before : (start : State) (g : ℕ) → g ≤ f → coder_at start (exchanged packets f others) g ≡ coder_at start packets g
  unfolding coder_at
  before start zero less = refl
  before start (suc g) less =
      ap₂ coding_state_behind (before start g (omega arith)) (elsewhere g (λ same. omega arith))

  carriers_here : (start : State)
      → carriers_at start (exchanged packets f others) f ≡ carriers_of_frame (coder_at start packets f) others
  unfolding carriers_at
  carriers_here start = ap₂ carriers_of_frame (before start f (omega arith)) here

  state_here : (start : State)
      → coder_at start (exchanged packets f others) (suc f) ≡ coding_state_behind (coder_at start packets f) others
  unfolding coder_at
  state_here start = ap₂ coding_state_behind (before start f (omega arith)) here

-- what an accepted coding leaves
pub left : (state : State) (packets carriers : List ℕ) → coding state packets carriers ≡ 0
    → (coded_into state packets carriers ≡ carriers_of_frame state packets)
    × (state_coded state packets carriers ≡ coding_state_behind state packets)
left state packets carriers done =
    unfold coded_into state_coded in rw (eq-eqb (coding state packets carriers) 0 done) (refl, refl)

-- ---- the story

module _ (start : State) (sized : Sized start) (good : good_coding_state start ≡ true) (packets : ℕ → List ℕ)
    (given : Packets start.settings packets)
    (long : (f : ℕ) → length (packets f) ≡ 188 * P start.settings)
    (f number : ℕ) (less : number < P start.settings) (old new : List ℕ)
    (old_long : length old ≡ 188) (new_long : length new ≡ 188) (old_begins : begins old ≡ true)
    (new_begins : begins new ≡ true) (old-bytes : (k : ℕ) → get_or old k 0 < 256)
    (new-bytes : (k : ℕ) → get_or new k 0 < 256) where
  abbrev settings : Settings
  settings = start.settings

  sending : Sending start
  sending = record { good = good; lines_long = sized.lines_long }

  abbrev state : State
  state = coder_at start packets f

  abbrev coded : List ℕ
  coded = packet_at (packets f) number

  abbrev sum : List ℕ
  sum = sum_of_three coded old new

  abbrev others : List ℕ
  others = with_packet (packets f) number sum

  abbrev room : List ℕ
  room = replicate (C settings) 0

  room_long : length room ≡ C settings
  room_long = length-replicate {A = ℕ} (C settings) 0

  first : coding state (packets f) room ≡ 0
  first = code_done start sending packets given f room (long f) room_long

  state_sized : (g : ℕ) → Sized (coder_at start packets g)
  unfolding coder_at
  state_sized zero = sized
  state_sized (suc g) = left_sized (coder_at start packets g) (coder_good start sending packets g).0 (packets g)

  -- P by the state that codes the frame
  count_is : packets_of state.settings ≡ P settings
  count_is =
      packets_are state (coder_good start sending packets f).0 ∙ ap P (coder_settings start sending packets f)

  below : number < packets_of state.settings
  below = rw count_is less

  coded_long : length coded ≡ 188
  coded_long = length_packet (packets f) number

  sum_long : length sum ≡ 188
  sum_long = length_sum coded old new coded_long old_long new_long

  sum_right : begins sum ≡ true
  sum_right =
      sum_begins coded old new coded_long old_long new_long
      (packet_begins (packets_of state.settings) (packets f) (accepted_of state (packets f) room first).begun number
      below) old_begins new_begins

  again : coding state others room ≡ 0
  again = coded_again state (packets f) room first number below sum sum_long sum_right

  replaced : Replaces (coder_at start packets (suc f)) (carriers_at start packets f) number old new
      (carriers_at start (spoiled packets f number old new) f)
      (coder_at start (spoiled packets f number old new) (suc f))
  replaced =
      let is = wrong_old_codes_the_sum state (state_sized f) (packets f) room first number below old new old_long
      new_long old_begins new_begins in
      let were = code_leaves start sending packets given f room (long f) room_long in
      let are = left state others room again in
      let carriers = are.0 ∙ sym (carriers_here packets f others start) in
      let behind = are.1 ∙ sym (state_here packets f others start) in
      subst (λ (s : State). Replaces s (carriers_at start packets f) number old new
      (carriers_at start (spoiled packets f number old new) f)
      (coder_at start (spoiled packets f number old new) (suc f)))
      were.1
      (subst (λ (c : List ℕ). Replaces (state_coded state (packets f) room) c number old new
      (carriers_at start (spoiled packets f number old new) f)
      (coder_at start (spoiled packets f number old new) (suc f)))
      were.0
      (record {
        done = is.done;
        carriers_are = is.carriers_are ∙ carriers;
        state_is = is.state_is ∙ behind;
      }))

  -- ---- the spoiled run is one of packets that begin with 47

  sum_bytes : (k : ℕ) → get_or sum k 0 < 256
  sum_bytes k =
      rw (sum_at coded old new coded_long old_long new_long k)
      (xor_lt 8 _ _ (xor_lt 8 _ _ (packet_lt (packets f) number (given.bytes f) k) (old-bytes k)) (new-bytes k))

  others_bytes : (k : ℕ) → get_or others k 0 < 256
  others_bytes k = elim (dec_lt k (length (packets f))) [
    | yes inside ↦ elim (ℕ_discrete (k / 188) number) [
      | yes own ↦ rw (byte_own (packets f) number sum k inside own) (sum_bytes (k % 188))
      | no other ↦ rw (byte_other (packets f) number sum k inside other) (given.bytes f k)
    ]
    | no beyond ↦ rw (get_or-eq_default others 0 {n = k} (omega (arith, length_with (packets f) number sum)))
        (omega arith)
  ]

  spoiled_packets : Packets settings (spoiled packets f number old new)
  spoiled_packets = record {
    begin = λ g. elim (ℕ_discrete g f) [
      | yes same ↦
          ap (λ (h : ℕ). all_begin (P settings) (spoiled packets f number old new h)) same
          ∙ ap (all_begin (P settings)) (here packets f others)
          ∙ subst (λ (n : ℕ). all_begin n others ≡ true) count_is (accepted_of state others room again).begun
      | no other ↦ ap (all_begin (P settings)) (elsewhere packets f others g other) ∙ given.begin g
    ];
    bytes = λ g k. elim (ℕ_discrete g f) [
      | yes same ↦
          subst (λ (l : List ℕ). get_or l k 0 < 256)
          (sym (ap (spoiled packets f number old new) same ∙ here packets f others)) (others_bytes k)
      | no other ↦
          subst (λ (l : List ℕ). get_or l k 0 < 256) (sym (elsewhere packets f others g other)) (given.bytes g k)
    ];
  }

  -- that packet, counted over all frames, is the sum
  sum_sent : sent_packet (P settings) (spoiled packets f number old new) (P settings * f + number) ≡ sum
  sum_sent =
      let place : number / P settings ≡ 0 = div-eq_of_lt less in
      let rest : number % P settings ≡ number = mod-eq_of_lt less in
      sym (packet_of (P settings) (spoiled packets f number old new) f number (omega arith))
      ∙ ap₂ (λ (g p : ℕ). packet_at (spoiled packets f number old new g) p)
      (ap (λ (k : ℕ). f + k) place ∙ add-zero f) rest
      ∙ ap (λ (l : List ℕ). packet_at l number) (here packets f others)
      ∙ own_packet (packets f) number sum (P settings) (long f) less sum_long

  -- The call is done, the frames are those of the spoiled run, and a receiver takes the packet as good.
  pub spoiled_is_taken : Spoiled start packets f number old new
  spoiled_is_taken = record {
    replaces = replaced;
    taken = λ c slots size r slots' back i few is.
        let came = joining_comes_back start sending (spoiled packets f number old new) spoiled_packets c slots size r
        slots' back in
        let at = subst (λ (g : ℕ). PacketGiven (most_corrected g)
        (sent_packet (P settings) (spoiled packets f number old new) g) (slot_of slots' i)) is (came.slots_are i few) in
        subst (λ (packet : List ℕ). PacketGiven (most_corrected (P settings * f + number)) packet (slot_of slots' i))
        sum_sent at;
  }
