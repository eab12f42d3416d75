-- The sizes of a good state, and how many packets a call gives.
--     packets_are, carriers_are, packets_least     P and C of a good state
--     given_is_given                               how many packets a call gives, as the code counts them
--     number_in                                    the number of a call's result is that of its answer
use mathlib.Core.Path.{◌≡◌, refl}
use mathlib.Core.Bool.{true, cond}
use Prim.Native.Nat.{ℕ, ◌≤◌, ◌-◌}
use native.Mathlib.Decide.{ℕ_discrete}
use native.Mathlib.Omega.{arith}
use lib.Dec.{eqb}
use borrow.Author.Tests.{eq-eqb, ne_eqb}
use Rattle.std.specs.Prelude.{Result, Ok, Err}
use Rattle.settings.specs.declared.Refusal.{Refusal}
use Rattle.settings.specs.Answers.{number_of}
use Rattle.settings.specs.Legal.{starting}
use Rattle.settings.specs.Sizes.{P, C, packets_of, carriers_of}
use Rattle.settings.proofs.Frame.{frame_of_is}
use Rattle.receiving_state.specs.declared.State.{State}
use Rattle.receiving_state.specs.State.{good_receiving_state}
use Rattle.receiving_answers.specs.Entry.{answer_in}
use Rattle.receiving_answers.specs.Receiving.{words_of, passed_of, given_of}
use Rattle.receiving_state.proofs.Good.{good_of}

-- the same, by the number of packets
unfoldable pub given_by : ℕ → ℕ → ℕ
given_by taken packets = cond (eqb taken 0) (packets - 12) packets

module _ (state : State) (good : good_receiving_state state ≡ true) where
  legal_is : eqb (starting state.settings) 0 ≡ true
  legal_is = eq-eqb (starting state.settings) 0 (good_of state good).legal

  pub packets_are : packets_of state.settings ≡ P state.settings
  packets_are = unfold packets_of in rw legal_is refl

  pub carriers_are : carriers_of state.settings ≡ C state.settings
  carriers_are = unfold carriers_of in rw legal_is refl

  pub packets_least : 12 ≤ P state.settings
  packets_least = (frame_of_is state.settings (good_of state good).legal).packets_least

  -- "The first call .. gives P − 12 packets; each later call .. gives P packets."
  pub given_is_given : (packets : ℕ) → packets ≡ P state.settings → given_by state.taken packets ≡ given_of state
  given_is_given packets e = unfold given_by given_of words_of passed_of in elim (ℕ_discrete state.taken 0) [
    | yes first ↦ rw (eq-eqb state.taken 0 first) (omega (arith, packets_least))
    | no later ↦ rw (ne_eqb state.taken 0 later) (omega (arith, packets_least, (good_of state good).taken_few))
  ]

pub number_in : (r : Result ℕ Refusal) → number_of (answer_in r) ≡ number_of r
number_in (Ok given) = refl
number_in (Err refusal) = refl
