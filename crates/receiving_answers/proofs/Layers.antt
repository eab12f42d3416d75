-- Receiving states are lawful layers of a record, and going back is a lawful call: what is proved of records holds of
-- receiving records.
--     good_legal, good_used        a good state has legal settings, and isn't all zero
--     unused_bytes                 and an unused layer is
--     fresh_settings, of_sized     a fresh state's settings; the arrays of any area's state have their lengths
--     receiving_lawful             all that is asked of the states
--     back_lawful,                 and of going back, also as a type of entries
--     entries_lawful
--     entries_answer               it answers by its reasons, the first of which is that the state is good
--     back_door                    the call that the door's contract names is that of the demands
--     back_hands_out, back_does    what the entry's contract says that it hands out, and does
use mathlib.Core.Path.{◌≡◌, refl, sym, ap, ap₂, ◌∙◌}
use mathlib.Core.Bool.{true, false}
use mathlib.Core.List.{List, [], ◌∷◌}
use Prim.Native.Nat.{ℕ}
use native.Mathlib.Decide.{ℕ_discrete}
use lib.ListN.{replicate}
use borrow.Author.Tests.{eq-eqb, ne_eqb, le-ltb}
use Rattle.lists.specs.Tests.{bits_then_zeros, bit_or_zero, all_below}
use Rattle.lists.proofs.Tabs.{length_tab}
use Rattle.std.specs.Prelude.{Result, Ok, Err}
use Rattle.std.specs.Result.{result_unwrap_or}
use Rattle.settings.specs.declared.Refusal.{Refusal}
use Rattle.settings.specs.declared.Settings.{Settings}
use Rattle.settings.specs.Answers.{number_of}
use Rattle.settings.specs.Legal.{starting}
use Rattle.settings.specs.Areas.{settings_bytes}
use Rattle.settings.specs.Reasons.{◌unless◌, GivenFirst}
use Rattle.settings.proofs.LegalSettings.{legal_settings}
use Rattle.layers.specs.Record.{unused, unused_layer}
use Rattle.layers.specs.Calls.{in_layer}
use Rattle.layers.specs.Areas.{in_area}
use Rattle.layers.specs.Rows.{over_bytes}
use Rattle.layers.specs.Reasons.{behind_first}
use Rattle.layers.proofs.Laws.{LawfulKind, Lawful}
use Rattle.layers.proofs.Steps.{none_laid}
use Rattle.receiving_state.specs.declared.State.{State}
use Rattle.receiving_state.specs.State.{fresh_receiving_state, zero_receiving_state, good_receiving_state}
use Rattle.receiving_state.proofs.Good.{good_of, fresh_good}
use Rattle.receiving_state.specs.Bytes.{receiving_state_of, receiving_bytes}
use Rattle.receiving_answers.specs.Layers.{receiving_kind, HandedBack, handed, HandedOut, goes_back}
use Rattle.receiving_answers.specs.Entry.{Received, received, Back}
use Rattle.receiving_answers.specs.Entries.{ReceivingEntry, back, receiving_call, receiving_lent, receiving_reasons}
use Rattle.receiving_answers.specs.Receiving.{receiving, state_received, count_received, receiving_state_behind}
use Rattle.receiving_answers.proofs.After.{accepted, stays_good}
use Rattle.receiving_answers.proofs.Areas.{Sized, fresh_sized, behind_sized}
use Rattle.receiving_answers.proofs.Refusals.{back_answers}
use Rattle.receiving_state.proofs.States.{read_back, length_bytes, state_back, zero_bytes}
use Rattle.receiving_answers.proofs.Unique.{slots_equal}

-- ---- the states

pub good_legal : (state : State) → good_receiving_state state ≡ true → starting state.settings ≡ 0
good_legal state good = (good_of state good).legal

-- legal settings have a segment
pub good_used : (state : State) → good_receiving_state state ≡ true → unused receiving_kind state ≡ false
unfolding unused receiving_bytes bits_then_zeros all_below bit_or_zero
good_used state good =
    let some = (legal_settings state.settings (good_legal state good)).some in
    none_laid
    (settings_bytes state.settings
    ∷ (state.taken ∷ [])
    ∷ state.memory
    ∷ state.lines
    ∷ (state.register ∷ [])
    ∷ state.held
    ∷ [])
    ∙ rw (le-ltb state.settings.segments 1 some) refl

pub unused_bytes : receiving_bytes (unused_layer receiving_kind) ≡ replicate 4560 0
unused_bytes = unfold unused_layer zero_receiving_state in zero_bytes

pub fresh_settings : (settings : Settings) → (fresh_receiving_state settings).settings ≡ settings
fresh_settings settings = unfold fresh_receiving_state in refl

pub of_sized : (area : List ℕ) → Sized (receiving_state_of area)
unfolding receiving_state_of
of_sized area = record {
  memory_long = length_tab 1122 _;
  lines_long = length_tab 360 _;
  held_long = length_tab 3072 _;
}

abbrev pub receiving_lawful : LawfulKind receiving_kind
receiving_lawful = record {
  Sized = Sized;
  good_used = good_used;
  fresh_good = fresh_good;
  fresh_settings = fresh_settings;
  fresh_sized = fresh_sized;
  of_sized = of_sized;
  bytes_long = λ state sized. length_bytes state sized.memory_long sized.lines_long sized.held_long;
  state_back = λ state sized. state_back state sized.memory_long sized.lines_long sized.held_long;
  bytes_back = read_back;
  zero_bytes = unused_bytes;
}

-- ---- going back

module _ (carriers slots : List ℕ) (state : State) where
  received_is : receiving state carriers slots ≡ 0
      → state_received state carriers slots ≡ receiving_state_behind state carriers
  received_is done = unfold state_received in rw (eq-eqb (receiving state carriers slots) 0 done) refl

  received_stays : (receiving state carriers slots ≡ 0 → ⊥) → state_received state carriers slots ≡ state
  received_stays refused = unfold state_received in rw (ne_eqb (receiving state carriers slots) 0 refused) refl

  none_given : (receiving state carriers slots ≡ 0 → ⊥) → count_received state carriers slots ≡ 0
  none_given refused = unfold count_received in rw (ne_eqb (receiving state carriers slots) 0 refused) refl

  received_settings : (state_received state carriers slots).settings ≡ state.settings
  unfolding receiving_state_behind
  received_settings = elim (ℕ_discrete (receiving state carriers slots) 0) [
    | yes done ↦ ap (λ (s : State). s.settings) (received_is done)
    | no refused ↦ ap (λ (s : State). s.settings) (received_stays refused)
  ]

  sized_received : Sized state → Sized (state_received state carriers slots)
  sized_received sized = elim (ℕ_discrete (receiving state carriers slots) 0) [
    | yes done ↦ rw (received_is done) (behind_sized state carriers (accepted state carriers slots done).good)
    | no refused ↦ rw (received_stays refused) sized
  ]

  -- the slots and how many packets were given
  one_handed : (one two : HandedBack) → HandedOut state carriers slots one → HandedOut state carriers slots two
      → one ≡ two
  one_handed one two first second = ap₂ handed same_slots (first.given_is ∙ sym second.given_is)
    where
      same_slots : one.slots ≡ two.slots
      same_slots = elim (ℕ_discrete (receiving state carriers slots) 0) [
        | yes done ↦
            slots_equal state carriers slots one.slots two.slots (first.slots_are done) (second.slots_are done)
        | no refused ↦ first.slots_stay refused ∙ sym (second.slots_stay refused)
      ]

pub back_lawful : (carriers slots : List ℕ) → Lawful receiving_lawful (goes_back carriers slots) (handed slots 0)
back_lawful carriers slots = record {
  refused_state = received_stays carriers slots;
  refused_lent = λ state refused left is.
      ap₂ handed (is.slots_stay refused) (is.given_is ∙ none_given carriers slots state refused);
  keeps_good = λ state good. stays_good state carriers slots good;
  keeps_settings = received_settings carriers slots;
  keeps_sized = sized_received carriers slots;
  one_result = one_handed carriers slots;
}

pub entries_lawful : (entry : ReceivingEntry) → Lawful receiving_lawful (receiving_call entry) (receiving_lent entry)
entries_lawful (back carriers slots) = back_lawful carriers slots

pub entries_answer : (entry : ReceivingEntry) (state : State)
    → GivenFirst ((7 unless (good_receiving_state state ≡ true)) ∷ behind_first (receiving_reasons entry state))
    ((receiving_call entry).number state)
entries_answer (back carriers slots) state = back_answers state carriers slots

-- the call that the door's contract names
pub back_door : (name : ℕ) (carriers slots : List ℕ)
    → over_bytes receiving_kind receiving_call receiving_lent name (back carriers slots)
    ≡ in_area receiving_kind (in_layer receiving_kind (goes_back carriers slots) (handed slots 0) name)
back_door name carriers slots = refl

-- what the entry's contract says that it hands out
pub back_hands_out : (state : State) (carriers slots : List ℕ) (r : Received) (slots' : List ℕ)
    → Back state carriers slots r slots' → HandedOut state carriers slots (handed slots' r.given)
back_hands_out state carriers slots r slots' is =
    record { given_is = is.given_is; slots_are = is.slots_are; slots_stay = is.slots_stay }

-- .. and what it does, by its result
pub back_does : (before : State) (carriers slots : List ℕ) (told : Result ℕ Refusal) (after : State) (slots' : List ℕ)
    → Back before carriers slots (received told after) slots'
    → (number_of told ≡ receiving before carriers slots)
    × (after ≡ state_received before carriers slots)
    × HandedOut before carriers slots (handed slots' (result_unwrap_or told 0))
back_does before carriers slots (Ok given) after slots' is =
    (is.answer_is, is.state_is, back_hands_out before carriers slots _ slots' is)
back_does before carriers slots (Err refusal) after slots' is =
    (is.answer_is, is.state_is, back_hands_out before carriers slots _ slots' is)
