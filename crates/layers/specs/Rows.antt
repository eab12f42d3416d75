-- Calls in a row, each in the layer that it names: frames of the three layers, in turn and out of turn.
--     over_record, over_bytes      an entry in the named layer of a record, and over a record's lent bytes
--     NamedEntry                   an entry, and the layer that it names
--     through, through_area        the record behind a row of calls, and the lent area
--     Elsewhere                    each of them names another layer
--     own_entries, alone_behind    those that name a layer, and the state of that layer alone behind them
use Rattle.std.specs.Prelude.{◌≡◌, cond, List, [], ◌∷◌, ℕ, eqb}
use Rattle.layers.specs.Record.{Kind, Three}
use Rattle.layers.specs.Calls.{Call, in_layer}
use Rattle.layers.specs.Areas.{in_area}

-- `call_of` tells what an entry does to a state, and `lent_of` what it is lent
abbrev pub over_record : (kind : Kind) → {Entry Lent : Type 0} → (Entry → Call kind.State Lent) → (Entry → Lent) → ℕ
    → Entry → Call (Three kind.State) Lent
over_record kind call_of lent_of name entry = in_layer kind (call_of entry) (lent_of entry) name

abbrev pub over_bytes : (kind : Kind) → {Entry Lent : Type 0} → (Entry → Call kind.State Lent) → (Entry → Lent) → ℕ
    → Entry → Call (List ℕ) Lent
over_bytes kind call_of lent_of name entry = in_area kind (over_record kind call_of lent_of name entry)

pub record NamedEntry (Entry : Type 0) : Type 0 where
  pub name : ℕ
  pub entry : Entry

-- a call that is refused is one of the row too: it leaves the record
unfoldable pub through : (kind : Kind) → {Entry Lent : Type 0} → (Entry → Call kind.State Lent) → (Entry → Lent)
    → List (NamedEntry Entry) → Three kind.State → Three kind.State
through kind call_of lent_of [] three = three
through kind call_of lent_of (one ∷ more) three =
    through kind call_of lent_of more ((over_record kind call_of lent_of one.name one.entry).after three)

-- each call over the lent bytes that the one before has left
unfoldable pub through_area : (kind : Kind) → {Entry Lent : Type 0} → (Entry → Call kind.State Lent) → (Entry → Lent)
    → List (NamedEntry Entry) → List ℕ → List ℕ
through_area kind call_of lent_of [] area = area
through_area kind call_of lent_of (one ∷ more) area =
    through_area kind call_of lent_of more ((over_bytes kind call_of lent_of one.name one.entry).after area)

abbrev pub Elsewhere : {Entry : Type 0} → ℕ → List (NamedEntry Entry) → Type 0
Elsewhere name [] = Unit {0}
Elsewhere name (one ∷ more) = (one.name ≡ name → ⊥) × Elsewhere name more

-- in their order
unfoldable pub own_entries : {Entry : Type 0} → ℕ → List (NamedEntry Entry) → List Entry
own_entries name [] = []
own_entries name (one ∷ more) =
    cond (eqb one.name name) (one.entry ∷ own_entries name more) (own_entries name more)

unfoldable pub alone_behind : {State Entry Lent : Type 0} → (Entry → Call State Lent) → List Entry → State → State
alone_behind call_of [] state = state
alone_behind call_of (entry ∷ more) state = alone_behind call_of more ((call_of entry).after state)
