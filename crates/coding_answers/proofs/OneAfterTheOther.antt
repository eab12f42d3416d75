-- Document 02, Ask 12: "The result is the one the two gave, one after the other."
--     dispersing, dispersed_into                           what dispersing one word answered and left
--     interleaving, interleaved_into, state_interleaved    what byte-interleaving one word answered and left
--     OneAfterTheOther                                     the joined call beside these two, with a word lent between
--     one_after_the_other                                  so it is for every state, place and words
use mathlib.Core.Path.{◌≡◌, refl}
use mathlib.Core.Bool.{true, cond, not}
use mathlib.Core.List.{List, [], ◌∷◌}
use Prim.Native.Nat.{ℕ}
use lib.Dec.{eqb, ltb}
use lib.ListN.{length, get_or}
use borrow.Author.Tests.{eq-eqb, eqb-true}
use Rattle.lists.proofs.Bools.{and_both}
use Rattle.settings.specs.Answers.{◌when◌, first_of}
use Rattle.settings.specs.Sizes.{packets_of}
use Rattle.settings.proofs.Refusals.{passed}
use Rattle.rules.specs.Dispersal.{dispersed}
use Rattle.rules.specs.Bytes.{waits_there, word_out, memory_after}
use Rattle.rules.proofs.DispersedWords.{length_dispersed}
use Rattle.coding_state.specs.declared.State.{State}
use Rattle.coding_state.specs.State.{good_coding_state}
use Rattle.coding_answers.specs.SingleWords.{both_words, dispersing_interleaving}
use Rattle.coding_answers.specs.SingleWords.{dispersed_interleaved_into, state_dispersed_interleaved}

-- ---- what the two operations were, each from one lent word into another, before they were made one

unfoldable pub dispersing : State → ℕ → List ℕ → List ℕ → ℕ
dispersing state place word out =
    first_of
    ((7 when not (good_coding_state state))
    ∷ (5 when not (both_words word out))
    ∷ (9 when not (ltb place (packets_of state.settings)))
    ∷ [])

unfoldable pub dispersed_into : State → ℕ → List ℕ → List ℕ → List ℕ
dispersed_into state place word out = cond (eqb (dispersing state place word out) 0) (dispersed place word) out

unfoldable pub interleaving : State → List ℕ → List ℕ → ℕ
interleaving state word out =
    first_of ((7 when not (good_coding_state state)) ∷ (5 when not (both_words word out)) ∷ [])

unfoldable pub interleaved_into : State → List ℕ → List ℕ → List ℕ
interleaved_into state word out =
    cond (eqb (interleaving state word out) 0) (word_out waits_there state.memory word) out

unfoldable pub state_interleaved : State → List ℕ → List ℕ → State
state_interleaved state word out =
    cond (eqb (interleaving state word out) 0)
    (record {
      settings = state.settings;
      memory = memory_after waits_there state.memory (λ b. get_or word b 0) 1;
      register = state.register;
      lines = state.lines;
    })
    state

-- ---- the joined call beside them

-- The word is dispersed into the middle copy, and what then stands there is interleaved. Where the joined call is
-- refused, `disperse_interleave_leaves` of Refusals.antt has what it leaves.
pub record OneAfterTheOther (state : State) (place : ℕ) (word middle out : List ℕ) : Type 0 where
  -- it is done exactly if both are
  pub done_then : dispersing_interleaving state place word out ≡ 0
      → (dispersing state place word middle ≡ 0)
      × (interleaving state (dispersed_into state place word middle) out ≡ 0)
  pub done_if : dispersing state place word middle ≡ 0
      → interleaving state (dispersed_into state place word middle) out ≡ 0
      → dispersing_interleaving state place word out ≡ 0
  -- and then leaves the word and the state that the second left
  pub word_is : dispersing_interleaving state place word out ≡ 0
      → dispersed_interleaved_into state place word out
      ≡ interleaved_into state (dispersed_into state place word middle) out
  pub state_is : dispersing_interleaving state place word out ≡ 0
      → state_dispersed_interleaved state place word out
      ≡ state_interleaved state (dispersed_into state place word middle) out

-- the tests that all three share, and what stands behind them
lengths : (state : State) (word out : List ℕ) (rest : ℕ)
    → cond (not (good_coding_state state)) 7 (cond (not (both_words word out)) 5 rest) ≡ 0
    → (good_coding_state state ≡ true) × (length word ≡ 204) × (length out ≡ 204) × (rest ≡ 0)
lengths state word out rest e =
    let good = passed 6 (good_coding_state state) _ e in
    let fit = passed 4 (both_words word out) rest good.1 in
    let both = and_both (eqb (length word) 204) (eqb (length out) 204) fit.0 in
    (good.0, eqb-true (length word) 204 both.0, eqb-true (length out) 204 both.1, fit.1)

pass : (state : State) (word out : List ℕ) (rest : ℕ) → good_coding_state state ≡ true → length word ≡ 204
    → length out ≡ 204 → rest ≡ 0
    → cond (not (good_coding_state state)) 7 (cond (not (both_words word out)) 5 rest) ≡ 0
pass state word out rest good word_long out-long none =
    rw (good, eq-eqb (length word) 204 word_long, eq-eqb (length out) 204 out-long) none

module _ (state : State) (place : ℕ) (word middle out : List ℕ) (long : length middle ≡ 204) where
  middle_is : dispersing state place word middle ≡ 0 → dispersed_into state place word middle ≡ dispersed place word
  middle_is done = unfold dispersed_into in rw (eq-eqb (dispersing state place word middle) 0 done) refl

  first_done : dispersing_interleaving state place word out ≡ 0 → dispersing state place word middle ≡ 0
  unfolding dispersing_interleaving dispersing
  first_done done =
      let was = lengths state word out _ done in pass state word middle _ was.0 was.1 long was.3

  second_done : dispersing_interleaving state place word out ≡ 0 → interleaving state (dispersed place word) out ≡ 0
  unfolding dispersing_interleaving interleaving
  second_done done =
      let was = lengths state word out _ done in
      pass state (dispersed place word) out 0 was.0 (length_dispersed place word) was.2 refl

  joined_done : dispersing state place word middle ≡ 0
      → interleaving state (dispersed_into state place word middle) out ≡ 0
      → dispersing_interleaving state place word out ≡ 0
  unfolding dispersing_interleaving dispersing interleaving
  joined_done first second =
      let was = lengths state word middle _ first in
      pass state word out _ was.0 was.1 (lengths state (dispersed_into state place word middle) out 0 second).2
      was.3

  pub one_after_the_other : OneAfterTheOther state place word middle out
  one_after_the_other = record {
    done_then = λ done. (first_done done, rw (middle_is (first_done done)) (second_done done));
    done_if = joined_done;
    word_is = λ done.
        unfold dispersed_interleaved_into interleaved_into in
        rw (middle_is (first_done done), eq-eqb _ 0 done, eq-eqb _ 0 (second_done done)) refl;
    state_is = λ done.
        unfold state_dispersed_interleaved state_interleaved in
        rw (middle_is (first_done done), eq-eqb _ 0 done, eq-eqb _ 0 (second_done done)) refl;
  }
