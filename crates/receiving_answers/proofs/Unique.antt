-- Any two results that the contract of `back` allows are equal: the answer, how many packets were given, the state,
-- and every byte of the slots.
--     back_unique
--     refused_leaves     a refused call tells no packets, and leaves the state and the slots
--     start_unique       the same of a start
use mathlib.Core.Path.{◌≡◌, refl, sym, ap, ◌∙◌}
use mathlib.Core.List.{List}
use Prim.Native.Nat.{ℕ, ◌+◌, ◌*◌, ◌/◌, ◌%◌, ◌<◌}
use native.Mathlib.Decide.{ℕ_discrete, dec_lt}
use native.Mathlib.Omega.{arith}
use lib.ListN.{length, get_or, length-take}
use lib.Seq.{ext_get_or}
use borrow.Author.Tests.{ne_eqb}
use Rattle.rules.proofs.DispersedWords.{length_dispersed}
use Rattle.lists.proofs.Tabs.{get_d_tab}
use Rattle.std.specs.Prelude.{Result}
use Rattle.std.specs.Result.{result_unwrap_or}
use Rattle.settings.specs.declared.Refusal.{Refusal}
use Rattle.settings.specs.Answers.{Answer}
use Rattle.settings.specs.declared.Settings.{Settings}
use Rattle.settings.specs.Answers.{number_of}
use Rattle.settings.specs.Legal.{starting}
use Rattle.settings.proofs.Answers.{answers_equal, given_equal}
use Rattle.nearest.proofs.SlotUnique.{slot_unique}
use Rattle.receiving_state.specs.declared.State.{State}
use Rattle.receiving_answers.specs.Entry.{Received}
use Rattle.receiving_state.specs.State.{zero_receiving_state, started_receiving_state}
use Rattle.receiving_answers.specs.Receiving.{receiving, passed_of, given_of, slot_of, word_received, state_received}
use Rattle.receiving_answers.specs.Receiving.{count_received, Slots}
use Rattle.receiving_answers.specs.Entry.{Back}

word_long : (state : State) (carriers : List ℕ) (n : ℕ) → length (word_received state carriers n) ≡ 203
word_long state carriers n = unfold word_received in rw (length-take, length_dispersed) refl

-- byte b of the slots is in slot b / 189
byte_at : (slots : List ℕ) (b : ℕ) → get_or (slot_of slots (b / 189)) (b % 189) 0 ≡ get_or slots b 0
unfolding slot_of
byte_at slots b = get_d_tab 189 _ (b % 189) (omega arith) ∙ ap (λ (k : ℕ). get_or slots k 0) (omega arith)

abbrev made : Answer → ℕ → State → Received
made answer given after = record { answer = answer; given = given; state = after }

module _ (state : State) (carriers slots : List ℕ) where
  pub slots_equal : (one two : List ℕ) → Slots state carriers slots one → Slots state carriers slots two → one ≡ two
  slots_equal one two f g = ext_get_or 0 one two (f.long ∙ sym g.long) (λ b h. byte b (dec_lt b (189 * given_of state)))
    where
      byte : (b : ℕ) → Dec (b < 189 * given_of state) → get_or one b 0 ≡ get_or two b 0
      byte b (yes lt) =
          let i : b / 189 < given_of state = omega arith in
          sym (byte_at one b) ∙ ap (λ (l : List ℕ). get_or l (b % 189) 0)
          (slot_unique _ _ _ (word_long state carriers (passed_of state + b / 189)) (f.given (b / 189) i)
          (g.given (b / 189) i)) ∙ byte_at two b
      byte b (no ge) = f.rest b (omega arith) ∙ sym (g.rest b (omega arith))

  pub back_unique : (r s : Received) (slots' slots'' : List ℕ) → Back state carriers slots r slots'
      → Back state carriers slots s slots'' → (r ≡ s) × (slots' ≡ slots'')
  back_unique r s slots' slots'' f g = (whole, left (ℕ_discrete (receiving state carriers slots) 0))
    where
      whole : r ≡ s
      whole =
          ap (λ (a : Answer). made a r.given r.state)
          (answers_equal r.answer s.answer (f.answer_is ∙ sym g.answer_is))
          ∙ ap (λ (n : ℕ). made s.answer n r.state) (f.given_is ∙ sym g.given_is)
          ∙ ap (λ (t : State). made s.answer s.given t) (f.state_is ∙ sym g.state_is)

      left : Dec (receiving state carriers slots ≡ 0) → slots' ≡ slots''
      left (yes e) = slots_equal slots' slots'' (f.slots_are e) (g.slots_are e)
      left (no ne) = f.slots_stay ne ∙ sym (g.slots_stay ne)

  -- "a refused call .. returns the state it was given"; "a refused one tells 0"; it alters no byte that was lent
  pub refused_leaves : (r : Received) (slots' : List ℕ) → Back state carriers slots r slots'
      → (receiving state carriers slots ≡ 0 → ⊥) → (r.given ≡ 0) × (r.state ≡ state) × (slots' ≡ slots)
  refused_leaves r slots' f ne =
      unfold state_received count_received in let refused = ne_eqb (receiving state carriers slots) 0 ne in
      (f.given_is ∙ rw refused refl, f.state_is ∙ rw refused refl, f.slots_stay ne)

-- ---- a start

-- a start gives its number and its state, and so one result
pub start_unique : (settings : Settings) (r s : Result State Refusal)
    → (number_of r ≡ starting settings) × (result_unwrap_or r zero_receiving_state ≡ started_receiving_state settings)
    → (number_of s ≡ starting settings) × (result_unwrap_or s zero_receiving_state ≡ started_receiving_state settings)
    → r ≡ s
start_unique settings r s f g = given_equal zero_receiving_state r s (f.0 ∙ sym g.0) (f.1 ∙ sym g.1)
