-- Demand 2: "Coding gives the carriers that ARIB STD-B31 defines, as document 01 states it. Going back, the bits chosen
-- are those with the fewest disagreements, and each 204-byte word yields the one codeword that differs in at most eight
-- bytes. It is refused exactly if there is no such codeword, or if that codeword doesn't begin with 47."
--     Near        a codeword at most eight bytes from a received word with 47 in front
--     Demand2     clause by clause; proofs/Demand2.antt: `demand_2`
use Rattle.std.specs.Prelude.{◌≡◌, Bool, true, false, ◌↔◌, List, ◌∷◌, ℕ, ◌+◌, ◌*◌, ◌<◌, ◌≤◌, length, get_or, take}
use Rattle.settings.specs.Sizes.{P, C}
use Rattle.rules.specs.Frame.{carrier_value}
use Rattle.nearest.specs.Codeword.{Codeword, distance}
use Rattle.nearest.specs.Slot.{restored, Slot}
use Rattle.fewest.specs.Best.{Best, best}
use Rattle.layers.specs.Record.{unused, layer_named, good_record}
use Rattle.layers.specs.Areas.{record_in}
use Rattle.layers.specs.Rows.{over_record, over_bytes, through, through_area}
use Rattle.coding_state.specs.declared.State.{State as Coding}
use Rattle.coding_answers.specs.Coding.{frame_of, coding, coded_into, state_coded, coding_state_behind}
use Rattle.coding_answers.specs.Layers.{coding_kind}
use Rattle.coding_answers.specs.Entries.{coding_call, coding_lent}
use Rattle.receiving_state.specs.declared.State.{State as Receiving}
use Rattle.receiving_answers.specs.Entry.{Received}
use Rattle.receiving_answers.specs.Words.{call_pairs, register_before}
use Rattle.receiving_answers.specs.Receiving.{receiving, given_of, passed_of, word_received, slot_of}
use Rattle.receiving_answers.specs.Entry.{Back}
use Rattle.receiving_answers.specs.Layers.{receiving_kind}
use Rattle.receiving_answers.specs.Entries.{receiving_call, receiving_lent}
use Rattle.demands.specs.Frames.{carriers_at, receiver_at, Packets, Sending, Started}
use Rattle.demands.specs.CameBack.{CameBack, CameBackJoining}
use Rattle.demands.specs.Records.{LayerAlone}
use Rattle.demands.specs.Doors.{CodingCalls, ReceivingCalls, CameThrough}

pub record Near (received c : List ℕ) : Type 0 where
  pub codeword : Codeword c
  pub few : distance c (restored received) ≤ 8

pub record Demand2 : Type 0 where
  -- "Coding gives the carriers that ARIB STD-B31 defines, as document 01 states it": C carriers, each of them by rules
  -- 1 to 6 from what the state holds and the packets; and the state that goes to the next frame
  pub coded : (state : Coding) (packets carriers : List ℕ) → coding state packets carriers ≡ 0
      → (length (coded_into state packets carriers) ≡ C state.settings)
      × ((k : ℕ) → k < C state.settings
      → get_or (coded_into state packets carriers) k 0 ≡ carrier_value (frame_of state packets) k)
      × (state_coded state packets carriers ≡ coding_state_behind state packets)
  -- "Going back, the bits chosen are those with the fewest disagreements": of each word that a call reads, and of
  -- equals the one with 0 at the first bit where they differ; no other message is so
  pub chosen : (state : Receiving) (carriers : List ℕ) (n : ℕ)
      → (let pairs = call_pairs state carriers n in
      let register = register_before (call_pairs state carriers) state.register n in
      Best pairs register (best pairs register)
      × ((other : List Bool) → Best pairs register other → other ≡ best pairs register))
  -- "each 204-byte word yields the one codeword that differs in at most eight bytes": there is one at most, and the
  -- slot that a call fills has its packet and how many bytes differ
  pub one_codeword : (word c d : List ℕ) → length word ≡ 204 → Codeword c → Codeword d → distance c word ≤ 8
      → distance d word ≤ 8 → c ≡ d
  pub yields : (received slot c : List ℕ) → length received ≡ 203 → Slot received slot → Near received c
      → get_or c 0 0 ≡ 0x47 → slot ≡ distance c (restored received) ∷ take 188 c
  pub filled : (state : Receiving) (carriers slots : List ℕ) (r : Received) (slots' : List ℕ)
      → Back state carriers slots r slots' → receiving state carriers slots ≡ 0 → (i : ℕ) → i < given_of state
      → Slot (word_received state carriers (passed_of state + i)) (slot_of slots' i)
  -- "It is refused exactly if there is no such codeword": 255; "or if that codeword doesn't begin with 47": 254
  pub none_near : (received slot : List ℕ) → length received ≡ 203 → Slot received slot
      → (get_or slot 0 0 ≡ 255) ↔ ((c : List ℕ) → Near received c → ⊥)
  pub other_start : (received slot c : List ℕ) → length received ≡ 203 → Slot received slot → Near received c
      → (get_or slot 0 0 ≡ 254) ↔ (get_or c 0 0 ≡ 0x47 → ⊥)
  -- So what is coded comes back where it is received undisturbed: from a start on with no byte corrected, and from any
  -- good state on with at most one, in the first packet.
  pub comes_back : (start : Coding) → Started start → (packets : ℕ → List ℕ) → Packets start.settings packets
      → (f : ℕ) (slots : List ℕ) → length slots ≡ 189 * P start.settings → (r : Received) (slots' : List ℕ)
      → Back (receiver_at start packets f) (carriers_at start packets f) slots r slots'
      → CameBack start packets f r slots'
  pub joining : (start : Coding) → Sending start → (packets : ℕ → List ℕ) → Packets start.settings packets
      → (f : ℕ) (slots : List ℕ) → length slots ≡ 189 * P start.settings → (r : Received) (slots' : List ℕ)
      → Back (receiver_at start packets f) (carriers_at start packets f) slots r slots'
      → CameBackJoining start packets f r slots'
  -- Document 02: "Each call names its layer, whose carriers are what that layer alone would give", of coding and of the
  -- other entries over a record; going back gives the slots and the count that the layer alone would give
  pub coding_alone : LayerAlone coding_kind (λ three. three) (over_record coding_kind coding_call coding_lent)
      (through coding_kind coding_call coding_lent) coding_call
  pub coding_door_alone : LayerAlone coding_kind (record_in coding_kind)
      (over_bytes coding_kind coding_call coding_lent)
      (through_area coding_kind coding_call coding_lent) coding_call
  pub back_alone : LayerAlone receiving_kind (λ three. three) (over_record receiving_kind receiving_call receiving_lent)
      (through receiving_kind receiving_call receiving_lent) receiving_call
  pub back_door_alone : LayerAlone receiving_kind (record_in receiving_kind)
      (over_bytes receiving_kind receiving_call receiving_lent)
      (through_area receiving_kind receiving_call receiving_lent) receiving_call
  -- So what is coded in a used layer of a good record comes back from a layer of a receiving record with its settings,
  -- at the doors for C, over the lent bytes of their calls, whatever is done in the other layers between
  pub doors : (name there : ℕ) (packets room area carriers : ℕ → List ℕ) (number : ℕ → ℕ)
      → good_record coding_kind (record_in coding_kind (area 0)) ≡ true
      → unused coding_kind (layer_named coding_kind (record_in coding_kind (area 0)) name) ≡ false
      → (let settings = (layer_named coding_kind (record_in coding_kind (area 0)) name).settings in
      CodingCalls settings name packets room area carriers number → Packets settings packets
      → (slots held filled : ℕ → List ℕ) (answer given : ℕ → ℕ)
      → ReceivingCalls settings there carriers slots held filled answer given
      → (f : ℕ) → CameThrough settings packets f (number f) (answer f) (given f) (filled f))
