-- "Numbers of refusal" for the calls over a coding state: what each asks for, in document 01's order, and the number
-- that is given where it isn't so.
--     code_reasons, replace_reasons            "Coding tests ..", "Replacement: .."
--     disperse_interleave_reasons              of the entry for one word
-- proofs/Refusals.antt: `coding`, `replacing` and `dispersing_interleaving` answer so.
use Rattle.std.specs.Prelude.{◌≡◌, true, List, [], ◌∷◌, ℕ, ◌*◌, ◌^◌, ◌<◌, length, get_or}
use Rattle.settings.specs.Sizes.{packets_of, carriers_of}
use Rattle.settings.specs.Reasons.{Reason, ◌unless◌}
use Rattle.coding_state.specs.declared.State.{State}
use Rattle.coding_state.specs.State.{good_coding_state}

-- "Coding tests 7, 5 (188 × P), 6, 8."
abbrev pub code_reasons : State → List ℕ → List ℕ → List {1} Reason
code_reasons state packets carriers =
    (7 unless (good_coding_state state ≡ true))
    ∷ (5 unless (length packets ≡ 188 * packets_of state.settings))
    ∷ (6 unless (length carriers ≡ carriers_of state.settings))
    ∷ (8 unless ((p : ℕ) → p < packets_of state.settings → get_or packets (188 * p) 0 ≡ 0x47))
    ∷ []

-- "Replacement: 7, 6, 5 (old, then new, 188 each), 9, 10, 8."
abbrev pub replace_reasons : State → List ℕ → ℕ → List ℕ → List ℕ → List {1} Reason
replace_reasons state carriers number old new =
    (7 unless (good_coding_state state ≡ true))
    ∷ (6 unless (length carriers ≡ carriers_of state.settings))
    ∷ (5 unless (length old ≡ 188))
    ∷ (5 unless (length new ≡ 188))
    ∷ (9 unless (number < packets_of state.settings))
    ∷ (10 unless ((k : ℕ) → k < length carriers → get_or carriers k 0 < 2 ^ state.settings.v))
    ∷ (8 unless ((get_or old 0 0 ≡ 0x47) × (get_or new 0 0 ≡ 0x47)))
    ∷ []

-- "(.. from one lent word into another, 204 each) are entries too: 7, 5, and for dispersal 9."
abbrev pub disperse_interleave_reasons : State → ℕ → List ℕ → List ℕ → List {1} Reason
disperse_interleave_reasons state place word out =
    (7 unless (good_coding_state state ≡ true))
    ∷ (5 unless ((length word ≡ 204) × (length out ≡ 204)))
    ∷ (9 unless (place < packets_of state.settings))
    ∷ []
