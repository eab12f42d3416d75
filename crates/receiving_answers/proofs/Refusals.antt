-- Demand 1 for going back: "A refused call carries its number from document 01". What it leaves, `refused_leaves` of
-- Unique says.
--     back_answers     the number: "The first that applies is given, and none without its reason."
use mathlib.Core.List.{List}
use Prim.Native.Nat.{ℕ, ◌*◌, ◌^◌}
use lib.ListN.{length, get_or}
use Rattle.settings.specs.Sizes.{packets_of, carriers_of}
use Rattle.settings.specs.Reasons.{GivenFirst, none_applies}
use Rattle.settings.proofs.Reasons.{tested, equal, below, every}
use Rattle.rules.specs.Bits.{carriers_in_range}
use Rattle.receiving_state.specs.declared.State.{State}
use Rattle.receiving_answers.specs.Receiving.{receiving}
use Rattle.receiving_answers.specs.Reasons.{back_reasons}

-- "Going back: 7, 6, 5 (189 × P), 10."
pub back_answers : (state : State) (carriers slots : List ℕ)
    → GivenFirst (back_reasons state carriers slots) (receiving state carriers slots)
unfolding receiving carriers_in_range
back_answers state carriers slots =
    tested 7 (record { holds = λ e. e; passing = λ e. e })
    (tested 6 (equal (length carriers) (carriers_of state.settings))
    (tested 5 (equal (length slots) (189 * packets_of state.settings))
    (tested 10 (every (length carriers) (λ k. below (get_or carriers k 0) (2 ^ state.settings.v))) none_applies)))
