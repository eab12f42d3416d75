-- A receiver that joins: fresh, while the coder goes on from any good state.
--     joining_comes_back     the calls of its run give every packet, of packet 0 at most one byte corrected
--     joined_in_step         behind its second call it is in step
use mathlib.Core.Path.{◌≡◌, ◌∙◌}
use mathlib.Core.List.{List}
use Prim.Native.Nat.{ℕ, suc, ◌*◌}
use native.Mathlib.Omega.{arith}
use lib.ListN.{length}
use borrow.Author.Tests.{eq-eqb}
use Rattle.settings.specs.Sizes.{P}
use Rattle.coding_state.specs.declared.State.{State}
use Rattle.receiving_answers.specs.Entry.{Received}
use Rattle.receiving_answers.specs.Receiving.{receiving, count_received, slot_of}
use Rattle.receiving_answers.specs.Entry.{Back}
use Rattle.demands.specs.Frames.{carriers_at, receiver_at, Packets, Sending}
use Rattle.demands.specs.InStep.{InStep}
use Rattle.demands.specs.CameBack.{CameBackJoining}
use Rattle.demands.proofs.Runs.{in_step_of, run_joins}
use Rattle.demands.proofs.Gives.{run_given, joining_comes}
use Rattle.demands.proofs.Whole.{run_accepted}

module _ (start : State) (sending : Sending start) (packets : ℕ → List ℕ) where
  -- Call f of a run from a fresh receiver on, whatever its slots held.
  pub joining_comes_back : Packets start.settings packets → (f : ℕ) (slots : List ℕ)
      → length slots ≡ 189 * P start.settings → (r : Received) (slots' : List ℕ)
      → Back (receiver_at start packets f) (carriers_at start packets f) slots r slots'
      → CameBackJoining start packets f r slots'
  joining_comes_back given f slots room r slots' back =
      unfold count_received in let not_refused = run_accepted start sending packets f slots room in
      let zero_is = eq-eqb (receiving (receiver_at start packets f) (carriers_at start packets f) slots) 0 not_refused
      in
      let count = run_given start sending packets f in
      record {
        done = back.answer_is ∙ not_refused;
        given_is = back.given_is ∙ rw zero_is count;
        slots_are = λ i h.
            joining_comes start sending packets given f i (omega arith) (slot_of slots' i)
            ((back.slots_are not_refused).given i (omega arith));
      }

  -- Behind its second call, and every later one, what it heard wrong at first is of no account.
  pub joined_in_step : (f : ℕ) → InStep start packets (suc (suc f)) (receiver_at start packets (suc (suc f)))
  joined_in_step f =
      in_step_of start packets (suc f) (receiver_at start packets (suc (suc f)))
      (run_joins start sending packets (suc f))
