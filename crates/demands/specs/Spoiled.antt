-- The letter's story, to the receiver: "the difference of old and new packet fell on another packet .. so every
-- receiver in the valley took the spoiled guide as good."
--     exchanged          the frames' packets, those of one frame exchanged for others
--     spoiled            .. one packet of which holds the sum of what was coded, old and new
--     Spoiled            a replacement in frame f that names a wrong packet as old leaves this run, and a receiver
--                        takes that packet as good; proofs/Spoiled.antt: it does
--     SpoiledInLayer     the same in a named layer of a coding record, and of a receiving record;
--                        proofs/SpoiledLayers.antt: it does
use Rattle.std.specs.Prelude.{◌≡◌, true, cond, List, ℕ, suc, ◌+◌, ◌*◌, ◌<◌, eqb, length}
use Rattle.settings.specs.Sizes.{P}
use Rattle.rules.specs.Word.{packet_at}
use Rattle.layers.specs.Record.{Three, layer_named, with_layer, good_record}
use Rattle.layers.specs.Calls.{Did, in_layer}
use Rattle.coding_state.specs.declared.State.{State}
use Rattle.coding_answers.specs.Packets.{with_packet, sum_of_three}
use Rattle.coding_answers.specs.Calls.{Replaces}
use Rattle.coding_answers.specs.Layers.{coding_kind}
use Rattle.coding_answers.specs.Entries.{replace}
use Rattle.coding_answers.specs.Records.{layer_in, in_record, DoneLeaving}
use Rattle.receiving_state.specs.declared.State.{State as Receiving}
use Rattle.receiving_answers.specs.Entry.{Received}
use Rattle.receiving_answers.specs.Receiving.{slot_of}
use Rattle.receiving_answers.specs.Entry.{Back}
use Rattle.receiving_answers.specs.Layers.{receiving_kind, HandedBack, handed, goes_back}
use Rattle.demands.specs.Frames.{coder_at, carriers_at, receiver_at, first_given, given_packets}
use Rattle.demands.specs.CameBack.{PacketGiven, most_corrected}

unfoldable pub exchanged : (ℕ → List ℕ) → ℕ → List ℕ → ℕ → List ℕ
exchanged packets f others g = cond (eqb g f) others (packets g)

abbrev pub spoiled : (ℕ → List ℕ) → ℕ → ℕ → List ℕ → List ℕ → ℕ → List ℕ
spoiled packets f number old new =
    exchanged packets f (with_packet (packets f) number (sum_of_three (packet_at (packets f) number) old new))

pub record Spoiled (start : State) (packets : ℕ → List ℕ) (f number : ℕ) (old new : List ℕ) : Type 0 where
  -- in the frame's carriers and in the state behind it, so that the frames behind it are those of the spoiled run too
  pub replaces : Replaces (coder_at start packets (suc f)) (carriers_at start packets f) number old new
      (carriers_at start (spoiled packets f number old new) f)
      (coder_at start (spoiled packets f number old new) (suc f))
  -- a receiver gives the sum, with no byte corrected but where it has only just joined
  pub taken : (c : ℕ) (slots : List ℕ) → length slots ≡ 189 * P start.settings → (r : Received) (slots' : List ℕ)
      → Back (receiver_at start (spoiled packets f number old new) c)
      (carriers_at start (spoiled packets f number old new) c) slots r slots'
      → (i : ℕ) → i < given_packets (P start.settings) c
      → first_given (P start.settings) c + i ≡ P start.settings * f + number
      → PacketGiven (most_corrected (P start.settings * f + number))
      (sum_of_three (packet_at (packets f) number) old new) (slot_of slots' i)

-- whatever the other two layers hold
pub record SpoiledInLayer (start : State) (packets : ℕ → List ℕ) (f number : ℕ) (old new : List ℕ) : Type 0 where
  -- in a coding record that has coded frame f in the named layer; the other two stay
  pub replaces : (name : ℕ) (three : Three State) → good_record coding_kind three ≡ true
      → layer_in three name ≡ coder_at start packets (suc f)
      → DoneLeaving (in_record name (replace (carriers_at start packets f) number old new)) three
      (with_layer three name (coder_at start (spoiled packets f number old new) (suc f)))
      (carriers_at start (spoiled packets f number old new) f)
  -- in a receiving record whose named layer is before call c
  pub taken : (name : ℕ) (three : Three Receiving) → good_record receiving_kind three ≡ true → (c : ℕ)
      → layer_named receiving_kind three name ≡ receiver_at start (spoiled packets f number old new) c
      → (slots : List ℕ) → length slots ≡ 189 * P start.settings
      → (answer : ℕ) (after : Three Receiving) (out : HandedBack)
      → Did (in_layer receiving_kind (goes_back (carriers_at start (spoiled packets f number old new) c) slots)
      (handed slots 0) name) three answer after out
      → (i : ℕ) → i < given_packets (P start.settings) c
      → first_given (P start.settings) c + i ≡ P start.settings * f + number
      → PacketGiven (most_corrected (P start.settings * f + number))
      (sum_of_three (packet_at (packets f) number) old new) (slot_of out.slots i)
