-- Demand 1 for the calls over a coding state: "A refused call carries its number from document 01, returns the state it
-- was given and alters no byte that was lent."
--     code_answers, replace_answers, disperse_interleave_answers     the number: "The first that applies is given, and
--                                                                    none without its reason."
--     code_leaves, disperse_interleave_leaves                        what a refused call leaves; of a replacement,
--                                                                    `refused_stays`
use mathlib.Core.Path.{◌≡◌, refl}
use mathlib.Core.Bool.{true}
use mathlib.Core.List.{List}
use Prim.Native.Nat.{ℕ, ◌*◌, ◌^◌}
use lib.ListN.{length, get_or}
use borrow.Author.Tests.{ne_eqb}
use Rattle.settings.specs.Sizes.{packets_of, carriers_of}
use Rattle.settings.specs.Reasons.{GivenFirst, none_applies}
use Rattle.settings.proofs.Reasons.{Tests, tested, equal, below, both, every}
use Rattle.rules.specs.Bits.{carriers_in_range}
use Rattle.coding_state.specs.declared.State.{State}
use Rattle.coding_state.specs.State.{good_coding_state}
use Rattle.coding_answers.specs.Coding.{all_begin, coding, coded_into, state_coded}
use Rattle.coding_answers.specs.Replacement.{replacing}
use Rattle.coding_answers.specs.SingleWords.{dispersing_interleaving}
use Rattle.coding_answers.specs.SingleWords.{dispersed_interleaved_into, state_dispersed_interleaved}
use Rattle.coding_answers.specs.Reasons.{code_reasons, replace_reasons, disperse_interleave_reasons}

good : (state : State) → Tests (good_coding_state state) (good_coding_state state ≡ true)
good state = record { holds = λ e. e; passing = λ e. e }

module _ (state : State) where
  -- "Coding tests 7, 5 (188 × P), 6, 8."
  pub code_answers : (packets carriers : List ℕ)
      → GivenFirst (code_reasons state packets carriers) (coding state packets carriers)
  unfolding coding all_begin
  code_answers packets carriers =
      tested 7 (good state)
      (tested 5 (equal (length packets) (188 * packets_of state.settings))
      (tested 6 (equal (length carriers) (carriers_of state.settings))
      (tested 8 (every (packets_of state.settings) (λ p. equal (get_or packets (188 * p) 0) 0x47)) none_applies)))

  -- "Replacement: 7, 6, 5 (old, then new, 188 each), 9, 10, 8."
  pub replace_answers : (carriers : List ℕ) (number : ℕ) (old new : List ℕ)
      → GivenFirst (replace_reasons state carriers number old new) (replacing state carriers number old new)
  unfolding replacing carriers_in_range
  replace_answers carriers number old new =
      tested 7 (good state)
      (tested 6 (equal (length carriers) (carriers_of state.settings))
      (tested 5 (equal (length old) 188)
      (tested 5 (equal (length new) 188)
      (tested 9 (below number (packets_of state.settings))
      (tested 10 (every (length carriers) (λ k. below (get_or carriers k 0) (2 ^ state.settings.v)))
      (tested 8 (both (equal (get_or old 0 0) 0x47) (equal (get_or new 0 0) 0x47)) none_applies))))))

  -- ".. 7, 5, and for dispersal 9."
  pub disperse_interleave_answers : (place : ℕ) (word out : List ℕ)
      → GivenFirst (disperse_interleave_reasons state place word out) (dispersing_interleaving state place word out)
  unfolding dispersing_interleaving
  disperse_interleave_answers place word out =
      tested 7 (good state)
      (tested 5 (both (equal (length word) 204) (equal (length out) 204))
      (tested 9 (below place (packets_of state.settings)) none_applies))

  -- ---- what a refused call leaves

  pub code_leaves : (packets carriers : List ℕ) → (coding state packets carriers ≡ 0 → ⊥)
      → (state_coded state packets carriers ≡ state) × (coded_into state packets carriers ≡ carriers)
  code_leaves packets carriers refused =
      unfold state_coded coded_into in rw (ne_eqb (coding state packets carriers) 0 refused) (refl, refl)

  pub disperse_interleave_leaves : (place : ℕ) (word out : List ℕ)
      → (dispersing_interleaving state place word out ≡ 0 → ⊥)
      → (state_dispersed_interleaved state place word out ≡ state) × (dispersed_interleaved_into state place word out
      ≡ out)
  disperse_interleave_leaves place word out refused =
      unfold state_dispersed_interleaved dispersed_interleaved_into in
      rw (ne_eqb (dispersing_interleaving state place word out) 0 refused) (refl, refl)
