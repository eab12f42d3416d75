-- The letter's story, to the receiver, in a named layer of a coding record and of a receiving record.
--     spoiled_in_layer     from what holds of the layer alone
use mathlib.Core.Path.{◌≡◌, refl, sym, ap, subst, ◌∙◌}
use mathlib.Core.Bool.{true, false}
use mathlib.Core.List.{List}
use Prim.Native.Nat.{ℕ, suc, ◌*◌}
use lib.ListN.{length}
use Rattle.std.specs.Prelude.{Ok}
use Rattle.settings.specs.Sizes.{P}
use Rattle.layers.specs.Record.{Three, unused, layer_named, with_layer, good_record}
use Rattle.layers.specs.Calls.{Did, in_layer}
use Rattle.layers.proofs.InLayer.{number_alone, after_alone, leaves_alone, alone_leaves, did_alone}
use Rattle.coding_state.specs.declared.State.{State}
use Rattle.coding_answers.specs.Calls.{Replaces}
use Rattle.coding_answers.specs.Layers.{coding_kind, replaces}
use Rattle.coding_answers.specs.Entries.{replace}
use Rattle.coding_answers.specs.Records.{layer_in, in_record, DoneLeaving}
use Rattle.coding_answers.proofs.Layers.{coding_lawful, good_used}
use Rattle.receiving_state.specs.declared.State.{State as Receiving}
use Rattle.receiving_answers.specs.Entry.{Received}
use Rattle.receiving_answers.specs.Receiving.{count_received, state_received}
use Rattle.receiving_answers.specs.Entry.{Back}
use Rattle.receiving_answers.specs.Layers.{receiving_kind, HandedBack, handed, HandedOut, goes_back}
use Rattle.receiving_answers.proofs.Layers.{receiving_lawful}
use Rattle.receiving_answers.proofs.Layers.{good_used as received-used}
use Rattle.demands.specs.Frames.{coder_at, carriers_at, receiver_at, Sending}
use Rattle.demands.specs.Spoiled.{spoiled, Spoiled, SpoiledInLayer}
use Rattle.demands.proofs.Whole.{coder_good, run_good, run_accepted}

-- a replacement in a used layer of a good record, by the replacement in the layer alone
replaced_in_layer : (name : ℕ) (three : Three State) → good_record coding_kind three ≡ true → (state : State)
    → layer_in three name ≡ state → unused coding_kind state ≡ false
    → (carriers : List ℕ) (number : ℕ) (old new carriers' : List ℕ) (after : State)
    → Replaces state carriers number old new carriers' after
    → DoneLeaving (in_record name (replace carriers number old new)) three (with_layer three name after) carriers'
replaced_in_layer name three good state same in_use carriers number old new carriers' after is =
    let call = replaces carriers number old new in
    let used = ap (unused coding_kind) same ∙ in_use in
    record {
      done = number_alone coding_lawful call carriers name three good used ∙ ap call.number same ∙ is.done;
      after_is =
          after_alone coding_lawful call carriers name three good used
          ∙ ap (λ (s : State). with_layer three name (call.after s)) same
          ∙ ap (with_layer three name) is.state_is;
      left_is = λ other. (
        λ leaves.
            subst (λ (s : State). call.Leaves s other) same
            (leaves_alone coding_lawful call carriers name three good used other leaves)
            ∙ is.carriers_are,
        λ equal.
            alone_leaves coding_lawful call carriers name three good used other
            (subst (λ (s : State). call.Leaves s other) (sym same) (equal ∙ sym is.carriers_are)),
      );
    }

-- going back in a used layer of a good record is going back in the layer alone, which is one of a run
module _ (start : State) (sending : Sending start) (packets : ℕ → List ℕ) (c : ℕ) (slots : List ℕ)
    (room : length slots ≡ 189 * P start.settings) where
  abbrev received : Received
  received =
      record {
        answer = Ok tt;
        given = count_received (receiver_at start packets c) (carriers_at start packets c) slots;
        state = state_received (receiver_at start packets c) (carriers_at start packets c) slots;
      }

  handed_back : (out : HandedBack) → HandedOut (receiver_at start packets c) (carriers_at start packets c) slots out
      → Back (receiver_at start packets c) (carriers_at start packets c) slots received out.slots
  handed_back out is = record {
    answer_is = sym (run_accepted start sending packets c slots room);
    given_is = refl;
    state_is = refl;
    slots_are = is.slots_are;
    slots_stay = is.slots_stay;
  }

  back_in_layer : (name : ℕ) (three : Three Receiving) → good_record receiving_kind three ≡ true
      → layer_named receiving_kind three name ≡ receiver_at start packets c
      → (answer : ℕ) (after : Three Receiving) (out : HandedBack)
      → Did (in_layer receiving_kind (goes_back (carriers_at start packets c) slots) (handed slots 0) name) three answer
      after out
      → Back (receiver_at start packets c) (carriers_at start packets c) slots received out.slots
  back_in_layer name three good same answer after out did =
      let call = goes_back (carriers_at start packets c) slots in
      let in_use = received-used (receiver_at start packets c) (run_good start sending packets c) in
      let used = ap (unused receiving_kind) same ∙ in_use in
      handed_back out (subst (λ (s : Receiving). call.Leaves s out) same
      (did_alone receiving_lawful call (handed slots 0) name three good used answer after out did).lent_is)

-- What the layer alone tells of the story, a layer of a record tells.
pub spoiled_in_layer : (start : State) → Sending start → (packets : ℕ → List ℕ) (f number : ℕ) (old new : List ℕ)
    → Spoiled start packets f number old new → SpoiledInLayer start packets f number old new
spoiled_in_layer start sending packets f number old new is = record {
  replaces = λ name three good same.
      let in_use = good_used (coder_at start packets (suc f)) (coder_good start sending packets (suc f)).0 in
      replaced_in_layer name three good (coder_at start packets (suc f)) same in_use
      (carriers_at start packets f) number
      old new _ _ is.replaces;
  taken = λ name three good c same slots room answer after out did.
      is.taken c slots room (received start sending (spoiled packets f number old new) c slots room) out.slots
      (back_in_layer start sending (spoiled packets f number old new) c slots room name three good same answer after out
      did);
}
