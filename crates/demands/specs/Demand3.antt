-- Demand 3: "Take a frame coded from any good state, and replace one packet in the finished carriers and in the state
-- left behind. If the packet named as old is the one that was coded and the new one too begins with 47, both are then
-- equal to coding the frame again with the new packet, and no carrier outside the list in document 01 has altered. This
-- holds for every packet of the frame, the last included, as long as the following frame is coded from the replaced
-- state."
-- Document 02, of a record of three layers: "Demand 3 names the layer."
--     CodedFrame       a frame that is coded: coding it is done, which it is from a good state alone
--     CodedInLayer     .. in the named layer of a record
--     New              a new packet for one of its places, any below P: "the last included"
--     Demand3          clause by clause; proofs/Demand3.antt: `demand_3`
use Rattle.std.specs.Prelude.{◌≡◌, true, ◌↔◌, List, ℕ, ◌+◌, ◌*◌, ◌<◌, ◌≤◌, length, get_or}
use Rattle.settings.specs.declared.Settings.{Settings}
use Rattle.settings.specs.Legal.{starting}
use Rattle.settings.specs.Sizes.{P, packets_of}
use Rattle.rules.specs.Bytes.{waits_there, comes_out_at}
use Rattle.rules.specs.Word.{packet_at}
use Rattle.layers.specs.Record.{Three}
use Rattle.layers.specs.Calls.{Did}
use Rattle.layers.specs.Rows.{NamedEntry, Elsewhere}
use Rattle.coding_state.specs.declared.State.{State}
use Rattle.coding_state.specs.State.{good_coding_state}
use Rattle.coding_answers.specs.Coding.{coding, coded_into, state_coded}
use Rattle.coding_answers.specs.Replacement.{begins, replaced_into, state_replaced}
use Rattle.coding_answers.specs.Listed.{Reached, Listed}
use Rattle.coding_answers.specs.Packets.{with_packet, sum_of_three, Exchange, AllFit, with_packets, ReplacedInARow}
use Rattle.coding_answers.specs.Calls.{Sized, Replaces, AlteredBy}
use Rattle.coding_answers.specs.Entries.{CodingEntry, code, replace}
use Rattle.coding_answers.specs.Records.{layer_in, layer_in_area, in_record, at_door, through_record, through_doors}
use Rattle.coding_answers.specs.Records.{ReplacingIsCoding, Alike}
use Rattle.demands.specs.Frames.{Packets}
use Rattle.demands.specs.Spoiled.{Spoiled, SpoiledInLayer}

pub record CodedFrame (state : State) (packets carriers : List ℕ) : Type 0 where
  pub sized : Sized state
  pub coded : coding state packets carriers ≡ 0

pub record CodedInLayer (name : ℕ) (three : Three State) (packets carriers : List ℕ) : Type 0 where
  pub sized : Sized (layer_in three name)
  pub coded : (in_record name (code packets carriers)).number three ≡ 0

pub record New (state : State) (number : ℕ) (new : List ℕ) : Type 0 where
  pub below : number < packets_of state.settings
  pub long : length new ≡ 188
  pub begun : begins new ≡ true

pub record Demand3 : Type 0 where
  -- "both are then equal to coding the frame again with the new packet": the carriers and the state
  pub equal : (state : State) (packets carriers : List ℕ) → CodedFrame state packets carriers
      → (number : ℕ) (new : List ℕ) → New state number new
      → Replaces (state_coded state packets carriers) (coded_into state packets carriers) number
      (packet_at packets number) new (coded_into state (with_packet packets number new) carriers)
      (state_coded state (with_packet packets number new) carriers)
  -- "coding the frame again with the new packet": it is done, that packet is the new one, and every other is as it was
  pub again : (state : State) (packets carriers : List ℕ) → CodedFrame state packets carriers
      → (number : ℕ) (new : List ℕ) → New state number new
      → (coding state (with_packet packets number new) carriers ≡ 0)
      × (packet_at (with_packet packets number new) number ≡ new)
      × ((other : ℕ) → (other ≡ number → ⊥)
      → packet_at (with_packet packets number new) other ≡ packet_at packets other)
  -- "no carrier outside the list in document 01 has altered", whatever the call; the list has none for equal packets
  pub outside : (state : State) (carriers : List ℕ) (number : ℕ) (old new : List ℕ) (k : ℕ)
      → (Listed state.settings number old new k → ⊥)
      → get_or (replaced_into state carriers number old new) k 0 ≡ get_or carriers k 0
  pub nothing_listed : (state : State) (number : ℕ) (packet : List ℕ) (k : ℕ)
      → Listed state.settings number packet packet k → ⊥
  -- and the list is no larger than it must be: whatever packet was coded, each carrier that a byte of its word reaches
  -- is altered by the replacement with some other packet
  pub no_larger : (settings : Settings) → starting settings ≡ 0 → (number byte : ℕ) → byte ≤ 202 → (carrier : ℕ)
      → Reached settings (comes_out_at waits_there (204 * number + byte)) carrier
      → (old : List ℕ) → length old ≡ 188 → begins old ≡ true → ((k : ℕ) → get_or old k 0 < 256)
      → AlteredBy settings number old carrier
  -- "as long as the following frame is coded from the replaced state": it is then as if the frame had been coded again
  pub following : (state : State) (packets carriers : List ℕ) → CodedFrame state packets carriers
      → (number : ℕ) (new : List ℕ) → New state number new → (next area : List ℕ)
      → (let replaced =
      state_replaced (state_coded state packets carriers) (coded_into state packets carriers) number
      (packet_at packets number) new in
      let recoded = state_coded state (with_packet packets number new) carriers in
      (coding replaced next area ≡ coding recoded next area)
      × (coded_into replaced next area ≡ coded_into recoded next area)
      × (state_coded replaced next area ≡ state_coded recoded next area))
  -- several packets, one after the other, each named as it is then coded
  pub several : (state : State) (packets carriers : List ℕ) → CodedFrame state packets carriers
      → (exchanges : List Exchange) → AllFit (packets_of state.settings) exchanges
      → ReplacedInARow packets (state_coded state packets carriers) (coded_into state packets carriers) exchanges
      (coded_into state (with_packets packets exchanges) carriers)
      (state_coded state (with_packets packets exchanges) carriers)
  -- Why the packet named as old has to be the one that was coded: "the difference of old and new packet fell on another
  -- packet". The call is done, and leaves the frame in which that place holds the sum of what was coded, old and new.
  pub wrong_old : (state : State) (packets carriers : List ℕ) → CodedFrame state packets carriers
      → (number : ℕ) (old new : List ℕ) → New state number old → New state number new
      → Replaces (state_coded state packets carriers) (coded_into state packets carriers) number old new
      (coded_into state (with_packet packets number (sum_of_three (packet_at packets number) old new)) carriers)
      (state_coded state (with_packet packets number (sum_of_three (packet_at packets number) old new)) carriers)
  pub right_old_alone : (coded old new : List ℕ) → length coded ≡ 188 → length old ≡ 188 → length new ≡ 188
      → (sum_of_three coded old new ≡ new) ↔ (old ≡ coded)
  -- But which packet was coded can be known: the carriers and the state behind them together hold each packet of the
  -- frame. Frames that leave both alike, coded from whatever states, are of the same packets.
  pub held_by_both : (one other : State) (packets others carriers room : List ℕ) → CodedFrame one packets carriers
      → CodedFrame other others room → ((k : ℕ) → get_or packets k 0 < 256) → ((k : ℕ) → get_or others k 0 < 256)
      → coded_into one packets carriers ≡ coded_into other others room
      → state_coded one packets carriers ≡ state_coded other others room
      → (number : ℕ) → number < packets_of one.settings → packet_at packets number ≡ packet_at others number
  -- ".. so every receiver in the valley took the spoiled guide as good": over a run of frames, and to the receiver
  pub taken_as_good : (start : State) → Sized start → good_coding_state start ≡ true → (packets : ℕ → List ℕ)
      → Packets start.settings packets → ((f : ℕ) → length (packets f) ≡ 188 * P start.settings)
      → (f number : ℕ) → number < P start.settings → (old new : List ℕ)
      → length old ≡ 188 → length new ≡ 188 → begins old ≡ true → begins new ≡ true
      → ((k : ℕ) → get_or old k 0 < 256) → ((k : ℕ) → get_or new k 0 < 256)
      → Spoiled start packets f number old new
  -- "Demand 3 names the layer": a frame is coded in the named layer of a record, then come any calls in the other two,
  -- and then the replacement, which is coding the frame again, for the layer's carriers and for the whole record
  pub in_a_record : (name : ℕ) (three : Three State) (packets carriers : List ℕ)
      → CodedInLayer name three packets carriers → (between : List (NamedEntry CodingEntry)) → Elsewhere name between
      → (number : ℕ) (new : List ℕ) → New (layer_in three name) number new
      → ReplacingIsCoding (in_record name) (through_record between) three (layer_in three name) packets
      (with_packet packets number new) carriers number (packet_at packets number) new
  -- "no carrier outside the list in document 01 has altered": the list is by the named layer's settings
  pub record_outside : (name : ℕ) (three : Three State) (carriers : List ℕ) (number : ℕ) (old new left : List ℕ)
      → (in_record name (replace carriers number old new)).Leaves three left → (k : ℕ)
      → (Listed (layer_in three name).settings number old new k → ⊥)
      → get_or left k 0 ≡ get_or carriers k 0
  -- "as long as the following frame is coded from the replaced state": that frame, and any call in any layer, behind
  -- any others, is then as if the frame had been coded again
  pub record_following : (name : ℕ) (three : Three State) (packets carriers : List ℕ)
      → CodedInLayer name three packets carriers → (between : List (NamedEntry CodingEntry)) → Elsewhere name between
      → (number : ℕ) (new : List ℕ) → New (layer_in three name) number new
      → (more : List (NamedEntry CodingEntry)) (next : NamedEntry CodingEntry)
      → (let shown = coded_into (layer_in three name) packets carriers in
      let coded = (in_record name (code packets carriers)).after three in
      let recoded = (in_record name (code (with_packet packets number new) carriers)).after three in
      Alike (in_record next.name next.entry)
      (through_record more
      ((in_record name (replace shown number (packet_at packets number) new)).after (through_record between coded)))
      (through_record more (through_record between recoded)))
  -- the letter's story in a record: whatever packet is named as old, that layer holds the sum
  pub record_wrong_old : (name : ℕ) (three : Three State) (packets carriers : List ℕ)
      → CodedInLayer name three packets carriers → (between : List (NamedEntry CodingEntry)) → Elsewhere name between
      → (number : ℕ) (old new : List ℕ) → New (layer_in three name) number old
      → New (layer_in three name) number new
      → ReplacingIsCoding (in_record name) (through_record between) three (layer_in three name) packets
      (with_packet packets number (sum_of_three (packet_at packets number) old new)) carriers number old new
  -- and a receiver takes that layer's packet as good
  pub record_taken_as_good : (start : State) → Sized start → good_coding_state start ≡ true → (packets : ℕ → List ℕ)
      → Packets start.settings packets → ((f : ℕ) → length (packets f) ≡ 188 * P start.settings)
      → (f number : ℕ) → number < P start.settings → (old new : List ℕ)
      → length old ≡ 188 → length new ≡ 188 → begins old ≡ true → begins new ≡ true
      → ((k : ℕ) → get_or old k 0 < 256) → ((k : ℕ) → get_or new k 0 < 256)
      → SpoiledInLayer start packets f number old new
  -- "Coding or replacing in one layer alters no byte of the other two", whatever the record is and whatever is
  -- answered: of a record, and of its lent bytes, those of the named layer alone can alter
  pub other_layers_stay : (name : ℕ) (entry : CodingEntry) (three : Three State)
      → (((in_record name entry).after three).mode ≡ three.mode)
      × ((other : ℕ) → (name ≡ other → ⊥) → layer_in ((in_record name entry).after three) other ≡ layer_in three other)
  pub others_stay : (name : ℕ) (entry : CodingEntry) (area : List ℕ)
      → (length ((at_door name entry).after area) ≡ length area)
      × ((k : ℕ) → (1 + 1487 * name ≤ k → k < 1 + 1487 * name + 1487 → ⊥)
      → get_or ((at_door name entry).after area) k 0 ≡ get_or area k 0)
  -- demand 3 and the letter's story at the doors for C, over the lent bytes of a record, with any calls of the doors in
  -- the other two layers between
  pub doors : (name : ℕ) (area packets carriers : List ℕ) → (at_door name (code packets carriers)).number area ≡ 0
      → (between : List (NamedEntry CodingEntry)) → Elsewhere name between
      → (number : ℕ) (new : List ℕ) → New (layer_in_area area name) number new
      → ReplacingIsCoding (at_door name) (through_doors between) area (layer_in_area area name) packets
      (with_packet packets number new) carriers number (packet_at packets number) new
  -- .. by what the doors have done, in the words of their contracts: two of them in a row, or one of them instead
  pub doors_called : (name : ℕ) (area packets carriers : List ℕ)
      → (between : List (NamedEntry CodingEntry)) → Elsewhere name between
      → (number : ℕ) (new : List ℕ) → New (layer_in_area area name) number new
      → (first shown : List ℕ) → Did (at_door name (code packets carriers)) area 0 first shown
      → (answer : ℕ) (last left : List ℕ)
      → Did (at_door name (replace shown number (packet_at packets number) new))
      (through_doors between first) answer last
      left
      → (answer' : ℕ) (instead left' : List ℕ)
      → Did (at_door name (code (with_packet packets number new) carriers)) area answer' instead left'
      → (answer ≡ 0) × (answer' ≡ 0) × (left ≡ left') × (last ≡ through_doors between instead)
  pub doors_wrong_old : (name : ℕ) (area packets carriers : List ℕ)
      → (at_door name (code packets carriers)).number area ≡ 0
      → (between : List (NamedEntry CodingEntry)) → Elsewhere name between
      → (number : ℕ) (old new : List ℕ) → New (layer_in_area area name) number old
      → New (layer_in_area area name) number new
      → ReplacingIsCoding (at_door name) (through_doors between) area (layer_in_area area name) packets
      (with_packet packets number (sum_of_three (packet_at packets number) old new)) carriers number old new
