-- Demand 1: "Every entry answers for all settings, states, lengths and bytes, by itself, without trusting its caller. A
-- refused call carries its number from document 01, returns the state it was given and alters no byte that was lent."
--     Demand1     clause by clause, for every entry and every door for C; proofs/Demand1.antt: `demand_1`
-- What an entry answers and leaves is said by the functions in its contract, of going back by the relation `Back`. What
-- is asked of a record of three layers, and of the doors over its lent bytes, stands in Records.antt.
use Rattle.std.specs.Prelude.{◌≡◌, false, List, ℕ, length}
use Rattle.layers.specs.Rows.{over_record, over_bytes}
use Rattle.settings.specs.declared.Settings.{Settings}
use Rattle.settings.specs.Answers.{number_of}
use Rattle.settings.specs.Legal.{starting}
use Rattle.settings.specs.Reasons.{GivenFirst, start_reasons}
use Rattle.layers.specs.Areas.{record_in}
use Rattle.coding_state.specs.declared.State.{State as Coding}
use Rattle.coding_state.specs.State.{good_coding_state, started_coding_state, zero_coding_state}
use Rattle.coding_answers.specs.Coding.{coding, state_coded, coded_into}
use Rattle.coding_answers.specs.Replacement.{replacing, state_replaced, replaced_into}
use Rattle.coding_answers.specs.SingleWords.{dispersing_interleaving}
use Rattle.coding_answers.specs.SingleWords.{state_dispersed_interleaved, dispersed_interleaved_into}
use Rattle.coding_answers.specs.Reasons.{code_reasons, replace_reasons, disperse_interleave_reasons}
use Rattle.coding_answers.specs.Layers.{coding_kind}
use Rattle.coding_answers.specs.Entries.{CodingEntry, coding_call, coding_lent, coding_reasons}
use Rattle.receiving_state.specs.declared.State.{State as Receiving}
use Rattle.receiving_answers.specs.Entry.{Received}
use Rattle.receiving_state.specs.State.{good_receiving_state, started_receiving_state, zero_receiving_state}
use Rattle.receiving_answers.specs.Receiving.{receiving}
use Rattle.receiving_answers.specs.Entry.{Back}
use Rattle.receiving_answers.specs.Reasons.{back_reasons}
use Rattle.receiving_answers.specs.Layers.{receiving_kind}
use Rattle.receiving_answers.specs.Entries.{ReceivingEntry, receiving_call, receiving_lent, receiving_reasons}
use Rattle.demands.specs.Records.{Refused, CallsAnswer, StartsAnswer}

pub record Demand1 : Type 1 where
  -- "Every entry answers for all settings, states, lengths and bytes, by itself": each has a number for each input; "A
  -- refused call carries its number from document 01": that of the first reason that applies
  pub start_answers : (settings : Settings) → GivenFirst (start_reasons settings) (starting settings)
  pub code_answers : (state : Coding) (packets carriers : List ℕ)
      → GivenFirst (code_reasons state packets carriers) (coding state packets carriers)
  pub disperse_interleave_answers : (state : Coding) (place : ℕ) (word out : List ℕ)
      → GivenFirst (disperse_interleave_reasons state place word out) (dispersing_interleaving state place word out)
  pub replace_answers : (state : Coding) (carriers : List ℕ) (number : ℕ) (old new : List ℕ)
      → GivenFirst (replace_reasons state carriers number old new) (replacing state carriers number old new)
  pub back_answers : (state : Receiving) (carriers slots : List ℕ)
      → GivenFirst (back_reasons state carriers slots) (receiving state carriers slots)
  -- ".. returns the state it was given and alters no byte that was lent"
  pub code_leaves : (state : Coding) (packets carriers : List ℕ) → Refused (coding state packets carriers)
      → (state_coded state packets carriers ≡ state) × (coded_into state packets carriers ≡ carriers)
  pub disperse_interleave_leaves : (state : Coding) (place : ℕ) (word out : List ℕ)
      → Refused (dispersing_interleaving state place word out)
      → (state_dispersed_interleaved state place word out ≡ state)
      × (dispersed_interleaved_into state place word out ≡ out)
  pub replace_leaves : (state : Coding) (carriers : List ℕ) (number : ℕ) (old new : List ℕ)
      → Refused (replacing state carriers number old new)
      → (replaced_into state carriers number old new ≡ carriers)
      × (state_replaced state carriers number old new ≡ state)
  pub back_leaves : (state : Receiving) (carriers slots : List ℕ) (r : Received) (slots' : List ℕ)
      → Back state carriers slots r slots' → Refused (number_of r.answer)
      → (r.given ≡ 0) × (r.state ≡ state) × (slots' ≡ slots)
  -- "A refused start gives the all-zero state, which is not good": a start is given no state
  pub start_refused : (settings : Settings) → Refused (starting settings)
      → (started_coding_state settings ≡ zero_coding_state) × (started_receiving_state settings ≡ zero_receiving_state)
  pub zero_not_good : (good_coding_state zero_coding_state ≡ false)
      × (good_receiving_state zero_receiving_state ≡ false)
  -- Document 02, "One record now holds layers A, B and C": all of it of the calls over a record, each in the layer that
  -- it names, and of the doors for C, of which the record's bytes are lent too. The entries are `code`, `replace` and
  -- `disperse_interleave` over a coding record, and `back` over a receiving record.
  pub coding_records : CallsAnswer coding_kind (λ three. three) (over_record coding_kind coding_call coding_lent)
      coding_lent
      coding_reasons
  pub coding_doors : CallsAnswer coding_kind (record_in coding_kind) (over_bytes coding_kind coding_call coding_lent)
      coding_lent coding_reasons
  pub receiving_records : CallsAnswer receiving_kind (λ three. three)
      (over_record receiving_kind receiving_call receiving_lent) receiving_lent receiving_reasons
  pub receiving_doors : CallsAnswer receiving_kind (record_in receiving_kind)
      (over_bytes receiving_kind receiving_call receiving_lent) receiving_lent receiving_reasons
  -- "An area of another length than a state's is a state that isn't good: 7, and it is left alone."
  pub other_coding_area : (area : List ℕ) → (length area ≡ 4462 → ⊥) → (name : ℕ) (entry : CodingEntry)
      → ((over_bytes coding_kind coding_call coding_lent name entry).number area ≡ 7)
      × ((over_bytes coding_kind coding_call coding_lent name entry).after area ≡ area)
  pub other_receiving_area : (area : List ℕ) → (length area ≡ 13681 → ⊥) → (name : ℕ) (entry : ReceivingEntry)
      → ((over_bytes receiving_kind receiving_call receiving_lent name entry).number area ≡ 7)
      × ((over_bytes receiving_kind receiving_call receiving_lent name entry).after area ≡ area)
  -- and of the starts: "a refused start gives zeros throughout"
  pub coding_starts : StartsAnswer coding_kind
  pub receiving_starts : StartsAnswer receiving_kind
