-- What `receiver::back` may do with a state, a frame of carriers and the slots.
--     answer_in, Received, received    what a call leaves: its answer, how many packets it gave, and the state
--     Back                             proofs/Unique.antt: it allows one result alone
use Rattle.std.specs.Prelude.{◌≡◌, List, ℕ, Result, Ok, Err}
use Rattle.std.specs.Result.{result_unwrap_or}
use Rattle.settings.specs.declared.Refusal.{Refusal}
use Rattle.settings.specs.Answers.{Answer, number_of}
use Rattle.receiving_state.specs.declared.State.{State}
use Rattle.receiving_answers.specs.Receiving.{Slots, count_received, receiving, state_received}

pub record Received : Type 0 where
  pub answer : Answer
  pub given : ℕ
  pub state : State

abbrev pub answer_in : Result ℕ Refusal → Answer
answer_in (Ok given) = Ok tt
answer_in (Err refusal) = Err refusal

-- a refused call gives no packets
abbrev pub received : Result ℕ Refusal → State → Received
received result' state =
    record { answer = answer_in result'; given = result_unwrap_or result' 0; state = state }

pub record Back (state : State) (carriers slots : List ℕ) (r : Received) (slots' : List ℕ) : Type 0 where
  pub answer_is : number_of r.answer ≡ receiving state carriers slots
  pub given_is : r.given ≡ count_received state carriers slots
  pub state_is : r.state ≡ state_received state carriers slots
  pub slots_are : receiving state carriers slots ≡ 0 → Slots state carriers slots slots'
  pub slots_stay : (receiving state carriers slots ≡ 0 → ⊥) → slots' ≡ slots
