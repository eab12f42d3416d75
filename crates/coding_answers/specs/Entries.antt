-- The entries over a coding state as one type, so that "any calls" can be said.
--     CodingEntry       a call of one of the three, with what it is given
--     coding_call       what it does to a state
--     coding_lent       what it is lent, and leaves where it is refused
--     coding_reasons    its reasons for refusing
use Rattle.std.specs.Prelude.{List, ℕ}
use Rattle.settings.specs.Reasons.{Reason}
use Rattle.layers.specs.Calls.{Call}
use Rattle.coding_state.specs.declared.State.{State}
use Rattle.coding_answers.specs.Layers.{codes, replaces, disperses_interleaves}
use Rattle.coding_answers.specs.Reasons.{code_reasons, replace_reasons, disperse_interleave_reasons}

pub data CodingEntry : Type 0 where
  code : (packets carriers : List ℕ) → CodingEntry
  replace : (carriers : List ℕ) (number : ℕ) (old new : List ℕ) → CodingEntry
  disperse_interleave : (place : ℕ) (word out : List ℕ) → CodingEntry

abbrev pub coding_call : CodingEntry → Call State (List ℕ)
coding_call (code packets carriers) = codes packets carriers
coding_call (replace carriers number old new) = replaces carriers number old new
coding_call (disperse_interleave place word out) = disperses_interleaves place word out

abbrev pub coding_lent : CodingEntry → List ℕ
coding_lent (code packets carriers) = carriers
coding_lent (replace carriers number old new) = carriers
coding_lent (disperse_interleave place word out) = out

abbrev pub coding_reasons : CodingEntry → State → List {1} Reason
coding_reasons (code packets carriers) state = code_reasons state packets carriers
coding_reasons (replace carriers number old new) state = replace_reasons state carriers number old new
coding_reasons (disperse_interleave place word out) state = disperse_interleave_reasons state place word out
