-- The record of the code as the definitions have it: "the mode and three layers", each a state of one type.
--     three_of       a record
--     three_or       what a start gives, or another record where it is refused
--     with_state     the record with another state in the layer that is named
--     LendsLayer     the state of the layer that is named is lent
use Rattle.std.specs.Prelude.{ℕ, zero, suc, Result, Ok, Err}
use Rattle.std.specs.Borrow.{LendsIfOk, RattleType, MutBor, Fml}
use Rattle.settings.specs.declared.Refusal.{Refusal}
use Rattle.layers.specs.Record.{Three, three_from}
use Rattle.layer_records.specs.declared.Record.{Record}
use Rattle.layer_records.specs.contracts.Record.{the_row}

abbrev pub three_of : {State : Type 0} → Record State → Three State
three_of record' = three_from record'.mode record'.a record'.b record'.c

abbrev pub three_or : {State : Type 0} → Three State → Result (Record State) Refusal → Three State
three_or other (Ok record') = three_of record'
three_or other (Err refusal) = other

abbrev pub with_state : {State : Type 0} → Record State → ℕ → State → Record State
with_state record' zero state = record record' { a = state }
with_state record' (suc zero) state = record record' { b = state }
with_state record' (suc (suc zero)) state = record record' { c = state }
with_state record' (suc (suc (suc other))) state = record'

-- once the loan is over the layer has the last state behind it; refused, the record stays as it was
abbrev pub LendsLayer : (State : RattleType) → MutBor (Record State.Denot) → ℕ → Result (MutBor State.Denot) Refusal → Fml
LendsLayer State record' name lent =
    LendsIfOk (the_row State) State record' lent (with_state record'.now name) record'.now
