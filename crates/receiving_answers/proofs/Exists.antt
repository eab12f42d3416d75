-- Going back always has a result: for each state, carriers and slots there is one that the contract of `back` allows.
-- `back_unique` says that there is no other.
--     SomeBack, back_of
use mathlib.Core.Path.{◌≡◌, refl, sym, ap, ◌∙◌, subst}
use mathlib.Core.Bool.{Bool, true, false, not, cond}
use mathlib.Core.List.{List}
use Prim.Native.Nat.{ℕ, suc, ◌+◌, ◌*◌, ◌/◌, ◌%◌, ◌≤◌}
use native.Mathlib.Decide.{ℕ_discrete, dec_lt}
use native.Mathlib.Omega.{arith}
use lib.Dec.{eqb, ltb}
use lib.ListN.{length, get_or, length-replicate, get_or-eq_default}
use lib.Seq.{length-take-le}
use borrow.Author.Tests.{lt-ltb, le-ltb}
use Rattle.lists.specs.Tab.{tab}
use Rattle.lists.proofs.Tabs.{length_tab, get_d_tab, tab_ext}
use Rattle.std.specs.Prelude.{Ok, Err}
use Rattle.settings.specs.Answers.{Answer}
use Rattle.settings.specs.declared.Refusal.TheVariants.{WrongLength, WrongNumberOfCarriers, StateNotGood}
use Rattle.settings.specs.declared.Refusal.TheVariants.{CarrierValueTooLarge}
use Rattle.settings.specs.Answers.{number_of}
use Rattle.settings.specs.Sizes.{P, packets_of, carriers_of}
use Rattle.rules.specs.Bits.{carriers_in_range}
use Rattle.nearest.specs.Slot.{Slot, corrected, other_start, none}
use Rattle.nearest.proofs.Exists.{slot_of_is}
use Rattle.receiving_state.specs.declared.State.{State}
use Rattle.receiving_answers.specs.Entry.{Received}
use Rattle.receiving_state.specs.State.{good_receiving_state}
use Rattle.receiving_answers.specs.Receiving.{receiving, given_of, passed_of, slot_of, word_received}
use Rattle.receiving_answers.specs.Receiving.{state_received, count_received, Slots}
use Rattle.receiving_answers.specs.Entry.{Back}
use Rattle.receiving_answers.proofs.Answers.{packets_are}
use Rattle.receiving_answers.proofs.After.{Accepted, accepted, first_counts, later_counts}

-- ---- the answer

record SomeAnswer (number : ℕ) : Type 0 where
  pub answer : Answer
  pub is : number_of answer ≡ number

answered : (good room long ranged : Bool)
    → SomeAnswer (cond (not good) 7 (cond (not room) 6 (cond (not long) 5 (cond (not ranged) 10 0))))
answered false room long ranged = record { answer = Err StateNotGood; is = refl }
answered true false long ranged = record { answer = Err WrongNumberOfCarriers; is = refl }
answered true true false ranged = record { answer = Err WrongLength; is = refl }
answered true true true false = record { answer = Err CarrierValueTooLarge; is = refl }
answered true true true true = record { answer = Ok tt; is = refl }

answer_of : (state : State) (carriers slots : List ℕ) → SomeAnswer (receiving state carriers slots)
unfolding receiving
answer_of state carriers slots =
    answered (good_receiving_state state) (eqb (length carriers) (carriers_of state.settings))
    (eqb (length slots) (189 * packets_of state.settings)) (carriers_in_range state.settings.v carriers)

-- ---- the slots

slot_long : (received slot : List ℕ) → Slot received slot → length slot ≡ 189
slot_long received slot (corrected c code near begins) =
    ap suc (length-take-le 188 c (let long = code.long in omega arith))
slot_long received slot (other_start c code near other) = ap suc (length-replicate {A = ℕ} 188 0)
slot_long received slot (none missing) = ap suc (length-replicate {A = ℕ} 188 0)

module _ (state : State) (carriers slots : List ℕ) where
  abbrev slot : ℕ → List ℕ
  slot i = (slot_of_is (word_received state carriers (passed_of state + i))).slot

  abbrev byte : ℕ → ℕ
  byte b = cond (ltb b (189 * given_of state)) (get_or (slot (b / 189)) (b % 189) 0) (get_or slots b 0)

  abbrev filled : List ℕ
  filled = tab (length slots) byte

  -- no more packets are given than there are slots
  enough : receiving state carriers slots ≡ 0 → 189 * given_of state ≤ length slots
  enough done = elim (ℕ_discrete state.taken 0) [
    | yes first ↦ omega (arith, (first_counts state passed.good first).1, passed.long, packets)
    | no later ↦ omega (arith, (later_counts state passed.good later).1, passed.long, packets)
  ]
    where
      passed : Accepted state carriers slots
      passed = accepted state carriers slots done

      packets : packets_of state.settings ≡ P state.settings
      packets = packets_are state passed.good

  slots_of : receiving state carriers slots ≡ 0 → Slots state carriers slots filled
  unfolding slot_of
  slots_of done =
      record {
        long = length_tab (length slots) byte;
        given = λ i less.
            let word = slot_of_is (word_received state carriers (passed_of state + i)) in
            subst (Slot (word_received state carriers (passed_of state + i)))
            (tab_ext 189 (λ b. get_or filled (189 * i + b) 0) (slot i) (slot_long _ (slot i) word.is) (λ b lt.
            let place : (189 * i + b) / 189 ≡ i = omega arith in
            let rest : (189 * i + b) % 189 ≡ b = omega arith in
            sym (get_d_tab (length slots) byte (189 * i + b) (omega (arith, enough done))
            ∙ rw (lt-ltb (189 * i + b) (189 * given_of state) (omega arith), place, rest) refl)))
            word.is;
        rest = λ b beyond. elim (dec_lt b (length slots)) [
          | yes inside ↦ get_d_tab (length slots) byte b inside ∙ rw (le-ltb b (189 * given_of state) beyond) refl
          | no outside ↦ get_or-eq_default filled 0 {n = b} (omega (arith, length_tab (length slots) byte))
              ∙ sym (get_or-eq_default slots 0 {n = b} (omega arith))
        ];
      }

  pub record SomeBack : Type 0 where
    pub received : Received
    pub slots' : List ℕ
    pub is : Back state carriers slots received slots'

  abbrev made : Received
  made =
      record {
        answer = (answer_of state carriers slots).answer;
        given = count_received state carriers slots;
        state = state_received state carriers slots;
      }

  pub back_of : SomeBack
  back_of = elim (ℕ_discrete (receiving state carriers slots) 0) [
    | yes done ↦ record {
      received = made;
      slots' = filled;
      is = record {
        answer_is = (answer_of state carriers slots).is;
        given_is = refl;
        state_is = refl;
        slots_are = slots_of;
        slots_stay = λ refused. absurd (refused done);
      };
    }
    | no refused ↦ record {
      received = made;
      slots' = slots;
      is = record {
        answer_is = (answer_of state carriers slots).is;
        given_is = refl;
        state_is = refl;
        slots_are = λ done. absurd (refused done);
        slots_stay = λ other. refl;
      };
    }
  ]
