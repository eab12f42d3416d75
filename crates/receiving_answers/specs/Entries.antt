-- The entry over a receiving state as a type of entries, so that "any calls" can be said.
--     ReceivingEntry       a call of it, with what it is given
--     receiving_call       what it does to a state
--     receiving_lent       what is handed out where it is refused
--     receiving_reasons    its reasons for refusing
use Rattle.std.specs.Prelude.{List, ℕ}
use Rattle.settings.specs.Reasons.{Reason}
use Rattle.layers.specs.Calls.{Call}
use Rattle.receiving_state.specs.declared.State.{State}
use Rattle.receiving_answers.specs.Layers.{HandedBack, handed, goes_back}
use Rattle.receiving_answers.specs.Reasons.{back_reasons}

pub data ReceivingEntry : Type 0 where
  back : (carriers slots : List ℕ) → ReceivingEntry

abbrev pub receiving_call : ReceivingEntry → Call State HandedBack
receiving_call (back carriers slots) = goes_back carriers slots

-- "`given` is 0 on refusal", whatever it was
abbrev pub receiving_lent : ReceivingEntry → HandedBack
receiving_lent (back carriers slots) = handed slots 0

abbrev pub receiving_reasons : ReceivingEntry → State → List {1} Reason
receiving_reasons (back carriers slots) state = back_reasons state carriers slots
