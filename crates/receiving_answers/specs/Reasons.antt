-- "Numbers of refusal" for going back: what a call asks for, in document 01's order, and the number that is given where
-- it isn't so.
--     back_reasons     "Going back: 7, 6, 5 (189 × P), 10."
-- proofs/Refusals.antt: `receiving` answers so.
use Rattle.std.specs.Prelude.{◌≡◌, true, List, [], ◌∷◌, ℕ, ◌*◌, ◌^◌, ◌<◌, length, get_or}
use Rattle.settings.specs.Sizes.{packets_of, carriers_of}
use Rattle.settings.specs.Reasons.{Reason, ◌unless◌}
use Rattle.receiving_state.specs.declared.State.{State}
use Rattle.receiving_state.specs.State.{good_receiving_state}

abbrev pub back_reasons : State → List ℕ → List ℕ → List {1} Reason
back_reasons state carriers slots =
    (7 unless (good_receiving_state state ≡ true))
    ∷ (6 unless (length carriers ≡ carriers_of state.settings))
    ∷ (5 unless (length slots ≡ 189 * packets_of state.settings))
    ∷ (10 unless ((k : ℕ) → k < length carriers → get_or carriers k 0 < 2 ^ state.settings.v))
    ∷ []
