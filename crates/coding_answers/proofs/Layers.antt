-- Coding states are lawful layers of a record, and the entries over them lawful calls: what is proved of records holds
-- of coding records.
--     good_used                              a good state isn't all zero
--     unused_bytes                           and an unused layer is
--     fresh_settings, fresh_sized            a fresh state's settings; its arrays have their lengths,
--     of_sized                               and so have those of any area's state
--     coding_lawful                          all that is asked of the states
--     codes_lawful, replaces_lawful,
--     disperses_interleaves_lawful,
--     entries_lawful                         and of the entries, one by one and as one type
--     entries_answer                         each answers by its reasons, the first of which is that the state is good
use mathlib.Core.Path.{◌≡◌, refl, sym, ap, ◌∙◌}
use mathlib.Core.Bool.{true, false}
use mathlib.Core.List.{List, [], ◌∷◌}
use Prim.Native.Nat.{ℕ}
use native.Mathlib.Decide.{ℕ_discrete}
use lib.ListN.{replicate, length-replicate}
use borrow.Author.Tests.{eq-eqb, le-ltb}
use Rattle.lists.specs.Tests.{bits_then_zeros, bit_or_zero, all_below}
use Rattle.lists.proofs.Tabs.{length_tab}
use Rattle.settings.specs.declared.Settings.{Settings}
use Rattle.settings.specs.Areas.{settings_bytes}
use Rattle.settings.specs.Reasons.{◌unless◌, GivenFirst}
use Rattle.settings.proofs.LegalSettings.{legal_settings}
use Rattle.rules.specs.Bytes.{waits_there, memory_at_start}
use Rattle.rules.specs.Bits.{lines_at_start}
use Rattle.rules.proofs.Ways.{there_fits}
use Rattle.rules.proofs.Memory.{length_memory}
use Rattle.layers.specs.Record.{unused, unused_layer}
use Rattle.layers.specs.Reasons.{behind_first}
use Rattle.layers.proofs.Laws.{LawfulKind, Lawful}
use Rattle.layers.proofs.Steps.{none_laid}
use Rattle.coding_state.specs.declared.State.{State}
use Rattle.coding_state.specs.State.{fresh_coding_state, zero_coding_state, good_coding_state}
use Rattle.coding_state.proofs.Good.{good_legal, fresh_good}
use Rattle.coding_state.specs.Bytes.{coding_state_of, coding_bytes}
use Rattle.coding_answers.specs.Calls.{Sized}
use Rattle.coding_answers.specs.Coding.{coding, state_coded, coding_state_behind}
use Rattle.coding_answers.specs.Layers.{coding_kind, codes, replaces, disperses_interleaves}
use Rattle.coding_answers.specs.Entries.{CodingEntry, code, replace, disperse_interleave}
use Rattle.coding_answers.specs.Entries.{coding_call, coding_lent, coding_reasons}
use Rattle.coding_answers.specs.Replacement.{replacing, state_replaced, replaced_state}
use Rattle.coding_answers.specs.SingleWords.{dispersing_interleaving, state_dispersed_interleaved}
use Rattle.coding_answers.proofs.Demand.{coded_sized}
use Rattle.coding_answers.proofs.Refusals.{code_answers, replace_answers, disperse_interleave_answers}
use Rattle.coding_answers.proofs.Refusals.{code_leaves, disperse_interleave_leaves}
use Rattle.coding_answers.proofs.Replacements.{refused_stays}
use Rattle.coding_state.proofs.States.{read_back, length_bytes, state_back, zero_bytes}
use Rattle.coding_answers.proofs.StaysGood.{good_behind, replaced_good}

-- ---- the states

-- legal settings have a segment
pub good_used : (state : State) → good_coding_state state ≡ true → unused coding_kind state ≡ false
unfolding unused coding_bytes bits_then_zeros all_below bit_or_zero
good_used state good =
    let some = (legal_settings state.settings (good_legal state good)).some in
    none_laid (settings_bytes state.settings ∷ state.memory ∷ (state.register ∷ []) ∷ state.lines ∷ [])
    ∙ rw (le-ltb state.settings.segments 1 some) refl

pub unused_bytes : coding_bytes (unused_layer coding_kind) ≡ replicate 1487 0
unused_bytes = unfold unused_layer zero_coding_state in zero_bytes

pub fresh_settings : (settings : Settings) → (fresh_coding_state settings).settings ≡ settings
fresh_settings settings = unfold fresh_coding_state in refl

pub fresh_sized : (settings : Settings) → Sized (fresh_coding_state settings)
unfolding fresh_coding_state memory_at_start lines_at_start
fresh_sized settings = record {
  memory_long = length-replicate {A = ℕ} 1122 0;
  lines_long = length-replicate {A = ℕ} 360 0;
}

pub of_sized : (area : List ℕ) → Sized (coding_state_of area)
unfolding coding_state_of
of_sized area = record { memory_long = length_tab 1122 _; lines_long = length_tab 360 _ }

abbrev pub coding_lawful : LawfulKind coding_kind
coding_lawful = record {
  Sized = Sized;
  good_used = good_used;
  fresh_good = fresh_good;
  fresh_settings = fresh_settings;
  fresh_sized = fresh_sized;
  of_sized = of_sized;
  bytes_long = λ state sized. length_bytes state sized.memory_long sized.lines_long;
  state_back = λ state sized. state_back state sized.memory_long sized.lines_long;
  bytes_back = read_back;
  zero_bytes = unused_bytes;
}

-- ---- the entries

-- what a call leaves keeps a property, whether it is done or refused
module _ (packets carriers : List ℕ) (state : State) where
  coded_is : coding state packets carriers ≡ 0 → state_coded state packets carriers ≡ coding_state_behind state packets
  coded_is done = unfold state_coded in rw (eq-eqb (coding state packets carriers) 0 done) refl

  coded_good : good_coding_state state ≡ true → good_coding_state (state_coded state packets carriers) ≡ true
  coded_good good = elim (ℕ_discrete (coding state packets carriers) 0) [
    | yes done ↦ rw (coded_is done) (good_behind state good packets)
    | no refused ↦ rw (code_leaves state packets carriers refused).0 good
  ]

  coded_settings : (state_coded state packets carriers).settings ≡ state.settings
  unfolding coding_state_behind
  coded_settings = elim (ℕ_discrete (coding state packets carriers) 0) [
    | yes done ↦ ap (λ (s : State). s.settings) (coded_is done)
    | no refused ↦ ap (λ (s : State). s.settings) (code_leaves state packets carriers refused).0
  ]

  sized_coded : Sized state → Sized (state_coded state packets carriers)
  sized_coded sized = elim (ℕ_discrete (coding state packets carriers) 0) [
    | yes done ↦ coded_sized state packets carriers done
    | no refused ↦ rw (code_leaves state packets carriers refused).0 sized
  ]

pub codes_lawful : (packets carriers : List ℕ) → Lawful coding_lawful (codes packets carriers) carriers
codes_lawful packets carriers = record {
  refused_state = λ state refused. (code_leaves state packets carriers refused).0;
  refused_lent = λ state refused left is. is ∙ (code_leaves state packets carriers refused).1;
  keeps_good = coded_good packets carriers;
  keeps_settings = coded_settings packets carriers;
  keeps_sized = sized_coded packets carriers;
  one_result = λ state one two first second. first ∙ sym second;
}

module _ (carriers : List ℕ) (number : ℕ) (old new : List ℕ) (state : State) where
  replaced_is : replacing state carriers number old new ≡ 0
      → state_replaced state carriers number old new ≡ replaced_state state number old new
  replaced_is done = unfold state_replaced in rw (eq-eqb (replacing state carriers number old new) 0 done) refl

  good_replaced : good_coding_state state ≡ true → good_coding_state (state_replaced state carriers number old new)
      ≡ true
  good_replaced good = elim (ℕ_discrete (replacing state carriers number old new) 0) [
    | yes done ↦ rw (replaced_is done) (replaced_good state good number old new)
    | no refused ↦ rw (refused_stays state carriers number old new refused).1 good
  ]

  replaced_settings : (state_replaced state carriers number old new).settings ≡ state.settings
  unfolding replaced_state
  replaced_settings = elim (ℕ_discrete (replacing state carriers number old new) 0) [
    | yes done ↦ ap (λ (s : State). s.settings) (replaced_is done)
    | no refused ↦ ap (λ (s : State). s.settings) (refused_stays state carriers number old new refused).1
  ]

  sized_replaced : Sized state → Sized (state_replaced state carriers number old new)
  unfolding replaced_state
  sized_replaced sized = elim (ℕ_discrete (replacing state carriers number old new) 0) [
    | yes done ↦ rw (replaced_is done) (record { memory_long = length_tab 1122 _; lines_long = length_tab 360 _ })
    | no refused ↦ rw (refused_stays state carriers number old new refused).1 sized
  ]

pub replaces_lawful : (carriers : List ℕ) (number : ℕ) (old new : List ℕ)
    → Lawful coding_lawful (replaces carriers number old new) carriers
replaces_lawful carriers number old new = record {
  refused_state = λ state refused. (refused_stays state carriers number old new refused).1;
  refused_lent = λ state refused left is. is ∙ (refused_stays state carriers number old new refused).0;
  keeps_good = good_replaced carriers number old new;
  keeps_settings = replaced_settings carriers number old new;
  keeps_sized = sized_replaced carriers number old new;
  one_result = λ state one two first second. first ∙ sym second;
}

-- the memory alone moves on
module _ (place : ℕ) (word out : List ℕ) (state : State) where
  abbrev number : ℕ
  number = dispersing_interleaving state place word out

  abbrev after : State
  after = state_dispersed_interleaved state place word out

  good_after : good_coding_state state ≡ true → good_coding_state after ≡ true
  unfolding good_coding_state
  good_after good = elim (ℕ_discrete number 0) [
    | yes done ↦ unfold state_dispersed_interleaved in rw (eq-eqb number 0 done) good
    | no refused ↦ rw (disperse_interleave_leaves state place word out refused).0 good
  ]

  settings_after : after.settings ≡ state.settings
  settings_after = elim (ℕ_discrete number 0) [
    | yes done ↦ unfold state_dispersed_interleaved in rw (eq-eqb number 0 done) refl
    | no refused ↦ ap (λ (s : State). s.settings) (disperse_interleave_leaves state place word out refused).0
  ]

  sized_after : Sized state → Sized after
  sized_after sized = elim (ℕ_discrete number 0) [
    | yes done ↦ unfold state_dispersed_interleaved in rw (eq-eqb number 0 done) (record {
      memory_long = length_memory waits_there there_fits _ _ 1;
      lines_long = sized.lines_long;
    })
    | no refused ↦ rw (disperse_interleave_leaves state place word out refused).0 sized
  ]

pub disperses_interleaves_lawful : (place : ℕ) (word out : List ℕ)
    → Lawful coding_lawful (disperses_interleaves place word out) out
disperses_interleaves_lawful place word out = record {
  refused_state = λ state refused. (disperse_interleave_leaves state place word out refused).0;
  refused_lent = λ state refused left is. is ∙ (disperse_interleave_leaves state place word out refused).1;
  keeps_good = good_after place word out;
  keeps_settings = settings_after place word out;
  keeps_sized = sized_after place word out;
  one_result = λ state one two first second. first ∙ sym second;
}

pub entries_lawful : (entry : CodingEntry) → Lawful coding_lawful (coding_call entry) (coding_lent entry)
entries_lawful (code packets carriers) = codes_lawful packets carriers
entries_lawful (replace carriers number old new) = replaces_lawful carriers number old new
entries_lawful (disperse_interleave place word out) = disperses_interleaves_lawful place word out

pub entries_answer : (entry : CodingEntry) (state : State)
    → GivenFirst ((7 unless (good_coding_state state ≡ true)) ∷ behind_first (coding_reasons entry state))
    ((coding_call entry).number state)
entries_answer (code packets carriers) state = code_answers state packets carriers
entries_answer (replace carriers number old new) state = replace_answers state carriers number old new
entries_answer (disperse_interleave place word out) state = disperse_interleave_answers state place word out
