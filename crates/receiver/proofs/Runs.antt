-- A frame, word by word: what `take_frame` holds before the n-th word of a call, and what it leaves.
--     Good, good_of           what a good state says
--     passed_is               how many words are of no packet
--     call_finished           the n-th word as it goes in
--     At                      what holds before the n-th word
--     at_opened, at_more      before the first word; one word more
--     closed_is, slots_are    behind the last
use mathlib.Core.Path.{◌≡◌, refl, sym, ap, ap₂, ◌∙◌, subst}
use mathlib.Core.Bool.{Bool, true}
use mathlib.Core.List.{List}
use Prim.Native.Nat.{ℕ, suc, ◌+◌, ◌-◌, ◌*◌, ◌/◌, ◌%◌, ◌<◌, ◌≤◌}
use native.Mathlib.Decide.{dec_lt, ℕ_discrete}
use native.Mathlib.Omega.{arith}
use lib.Dec.{ltb}
use lib.ListN.{length, get_or, take}
use borrow.Author.Tests.{eq-eqb, ne_eqb, eqb-true, ltb-true}
use Rattle.lists.proofs.Bools.{and_both}
use Rattle.lists.proofs.Tabs.{tab_cong, get_d_tab}
use Rattle.settings.specs.Legal.{starting}
use Rattle.rules.specs.Dispersal.{dispersed}
use Rattle.rules.specs.Bytes.{waits_back}
use Rattle.rules.proofs.Memory.{memory_none, word_more, memory_more}
use Rattle.rules.proofs.Ways.{back_fits}
use Rattle.rules.specs.Back.{message_byte, message_bytes}
use Rattle.nearest.specs.Slot.{Slot}
use Rattle.receiving_state.specs.declared.State.{State}
use Rattle.receiver.specs.declared.words.Run.{Run}
use Rattle.receiver.specs.declared.words.Finished.{Finished}
use Rattle.receiving_state.specs.State.{good_receiving_state}
use Rattle.receiving_answers.specs.Words.{word_number, last_word_digit, call_digit, call_pairs, message_of, register_before}
use Rattle.receiving_answers.specs.Words.{received_byte, finished_word, memory_at}
use Rattle.receiving_answers.specs.Receiving.{words_of, passed_of, given_of, sent_place, receiving_state_behind, slot_of}
use Rattle.receiving_answers.specs.Receiving.{word_received, Slots}
use Rattle.receiver.specs.Steps.{finished_by, digit_by, pairs_by, receiving_closed, Handed}

-- what a good state says, for the proof
pub record Good (state : State) : Type 0 where
  pub start : starting state.settings ≡ 0
  pub taken : state.taken < 2
  pub register : state.register < 64

pub good_of : (state : State) → good_receiving_state state ≡ true → Good state
good_of state e =
    unfold good_receiving_state in let lines = (and_both _ _ (and_both _ _ (and_both _ _ e).0).0).0 in
    let register = and_both _ _ lines in
    let taken = and_both _ _ register.0 in
    record {
      start = eqb-true (starting state.settings) 0 taken.0;
      taken = ltb-true state.taken 2 taken.1;
      register = ltb-true state.register 64 register.1;
    }

pub passed_is : (state : State) → state.taken < 2 → 11 - 11 * state.taken ≡ passed_of state
passed_is state h = unfold passed_of in elim (ℕ_discrete state.taken 0) [
  | yes e ↦ rw (eq-eqb state.taken 0 e) (omega arith)
  | no n ↦ rw (ne_eqb state.taken 0 n) (omega arith)
]

call_pairs_are : (state : State) (carriers : List ℕ) (n : ℕ) (last : Bool) (number : ℕ) → last ≡ ltb n state.taken
    → number ≡ word_number state n
    → pairs_by state.settings last number state.held state.lines carriers ≡ call_pairs state carriers n
unfolding pairs_by call_pairs digit_by call_digit last_word_digit
call_pairs_are state carriers n last number e f = rw (e, f) refl

-- the n-th word as it goes in
pub call_finished : (state : State) (carriers : List ℕ) (n : ℕ) (run : Run) (last : Bool) (number : ℕ)
    (finished : Finished) → last ≡ ltb n state.taken → number ≡ word_number state n
    → finished ≡ finished_by run (pairs_by state.settings last number state.held state.lines carriers)
    → finished ≡ finished_by run (call_pairs state carriers n)
call_finished state carriers n run last number finished e f is =
    is ∙ ap (finished_by run) (call_pairs_are state carriers n last number e f)

pub record At (state : State) (carriers slots₀ : List ℕ) (n : ℕ) (run : Run) (slots : List ℕ) : Type 0 where
  pub memory_is : run.memory ≡ memory_at (call_pairs state carriers) state.memory state.register n
  pub register_is : run.register ≡ register_before (call_pairs state carriers) state.register n
  pub few : run.register < 64
  pub long : length slots ≡ length slots₀
  pub given : (i : ℕ) → i < n - passed_of state
      → Slot (word_received state carriers (passed_of state + i)) (slot_of slots i)
  pub rest : (b : ℕ) → 189 * (n - passed_of state) ≤ b → get_or slots b 0 ≡ get_or slots₀ b 0

module _ (state : State) (carriers slots₀ : List ℕ) where
  abbrev pairs : ℕ → List ℕ
  pairs = call_pairs state carriers

  abbrev register : ℕ
  register = state.register

  pub at_opened : (run : Run) → run.memory ≡ state.memory → run.register ≡ state.register
      → length state.memory ≡ 1122 → state.register < 64 → At state carriers slots₀ 0 run slots₀
  at_opened run m r long few =
      unfold memory_at register_before in record {
        memory_is = m ∙ memory_none waits_back back_fits state.memory (received_byte pairs register) long;
        register_is = r;
        few = omega (arith, r);
        long = refl;
        given = λ i lt. absurd (omega arith);
        rest = λ b low. refl;
      }

  module _ (n : ℕ) (run : Run) (slots : List ℕ) (at : At state carriers slots₀ n run slots) where
    message : List ℕ
    message = message_of (pairs n) (register_before pairs register n)

    goes_in : (k : ℕ) → k < 204 → get_or (message_bytes message) k 0 ≡ received_byte pairs register (204 * n + k)
    goes_in k lt =
        unfold message message_bytes received_byte in let word : (204 * n + k) / 204 ≡ n = omega arith in
        let byte : (204 * n + k) % 204 ≡ k = omega arith in
        get_d_tab 204 (message_byte (message_of (pairs n) (register_before pairs register n))) k lt
        ∙ sym (ap₂ (λ (w j : ℕ). message_byte (message_of (pairs w) (register_before pairs register w)) j) word byte)

    finished_is : finished_by run (pairs n)
        ≡ record {
          run =
              record {
                memory = memory_at pairs state.memory register (n + 1);
                register = register_before pairs register (n + 1);
              };
          word = finished_word pairs state.memory register n;
        }
    unfolding finished_by memory_at finished_word message register_before
    finished_is =
        let next : register_before pairs register (suc n) ≡ register_before pairs register (n + 1) =
        ap (register_before pairs register) {x = suc n} {y = n + 1} (omega arith) in
        rw (
          at.register_is,
          at.memory_is,
          memory_more waits_back back_fits state.memory (received_byte pairs register) n
              (message_bytes message) goes_in,
          word_more waits_back back_fits state.memory (received_byte pairs register) n (message_bytes message) goes_in,
          sym next,
        ) refl

    pub at_more : (finished : Finished) (passed place : ℕ) (slots' : List ℕ) → finished ≡ finished_by run (pairs n)
        → finished.run.register < 64 → passed ≡ passed_of state → place ≡ sent_place state n
        → Handed passed n (take 203 (dispersed place finished.word)) slots slots'
        → At state carriers slots₀ (n + 1) finished.run slots'
    unfolding slot_of word_received
    at_more finished passed place slots' e few p q done =
        record {
          memory_is = ap (λ (f : Finished). f.run.memory) (e ∙ finished_is);
          register_is = ap (λ (f : Finished). f.run.register) (e ∙ finished_is);
          few = few;
          long = done.long ∙ at.long;
          given = λ i lt. which i lt (dec_lt n passed) (ℕ_discrete i (n - passed));
          rest = λ b low. behind b low (dec_lt n passed);
        }
      where
        received : take 203 (dispersed place finished.word) ≡ word_received state carriers n
        received =
            ap₂ (λ (k : ℕ) (l : List ℕ). take 203 (dispersed k l)) q (ap (λ (f : Finished). f.word) (e ∙ finished_is))

        old : (i : ℕ) → i < n - passed → slot_of slots i ≡ slot_of slots' i
        old i lt = tab_cong 189 _ _ (λ b less. sym (done.front (189 * i + b) (omega arith)))

        which : (i : ℕ) → i < n + 1 - passed_of state → Dec (n < passed) → Dec (i ≡ n - passed)
            → Slot (word_received state carriers (passed_of state + i)) (slot_of slots' i)
        which i lt (yes over) there = absurd (omega arith)
        which i lt (no over) (yes here) =
            let word : n ≡ passed_of state + i = omega arith in
            subst (Slot (word_received state carriers (passed_of state + i))) (ap (slot_of slots') (sym here))
            (subst (λ (l : List ℕ). Slot l (slot_of slots' (n - passed)))
            (received ∙ ap (word_received state carriers) word) (done.slot (omega arith)))
        which i lt (no over) (no other) =
            subst (Slot (word_received state carriers (passed_of state + i))) (old i (omega arith))
            (at.given i (omega arith))

        behind : (b : ℕ) → 189 * (n + 1 - passed_of state) ≤ b → Dec (n < passed) → get_or slots' b 0
            ≡ get_or slots₀ b 0
        behind b low (yes over) = ap (λ (l : List ℕ). get_or l b 0) (done.over over) ∙ at.rest b (omega arith)
        behind b low (no over) = done.behind b (omega arith) ∙ at.rest b (omega arith)

  -- ---- behind the last word

  module _ (n : ℕ) (run : Run) (slots : List ℕ) (all : n ≡ words_of state)
      (at : At state carriers slots₀ n run slots) where
    pub closed_is : receiving_closed state.settings run carriers ≡ receiving_state_behind state carriers
    closed_is = unfold receiving_closed receiving_state_behind in rw (at.memory_is, at.register_is, all) refl

    pub slots_are : Slots state carriers slots₀ slots
    slots_are =
        unfold given_of in record {
          long = at.long;
          given = λ i lt. at.given i (omega (arith, all));
          rest = λ b low. at.rest b (omega (arith, all));
        }
