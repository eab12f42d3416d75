-- How an entry over a record meets its contract: the layer isn't lent, or what the entry for one layer leaves behind
-- the loan is the layer's state.
--     three_with   the record once a loan is over
--     not_lent     the record has refused
--     lent         the layer's state is lent to a call, and what it leaves is put back
use Rattle.std.proofs.Common.{◌≡◌, refl, sym, ◌∙◌, ℕ, zero, suc}
use Rattle.std.proofs.lemmas.Bool.{false≢true}
use borrow.Author.Tests.{eq-eqb}
use Rattle.std.specs.Prelude.{Err}
use Rattle.settings.specs.declared.Refusal.{Refusal}
use Rattle.settings.specs.Answers.{reason_number}
use Rattle.settings.proofs.Answers.{ok_is}
use Rattle.layers.specs.Record.{Kind, Three, layer_named, with_layer}
use Rattle.layers.specs.Calls.{Call, Did, asked, in_layer}
use Rattle.layers.proofs.Entries.{did_refused, did_called}
use Rattle.layer_records.specs.declared.Record.{Record}
use Rattle.layer_records.specs.Record.{three_of, with_state}

pub three_with : {State : Type 0} (record' : Record State) (name : ℕ) (state : State)
    → three_of (with_state record' name state) ≡ with_layer (three_of record') name state
unfolding with_layer
three_with record' zero state = refl
three_with record' (suc zero) state = refl
three_with record' (suc (suc zero)) state = refl
three_with record' (suc (suc (suc other))) state = refl

some_reason : (r : Refusal) → reason_number r ≡ 0 → ⊥
some_reason r e = false≢true (ok_is {Given = ℕ} (Err r) ∙ eq-eqb (reason_number r) 0 e)

module _ (kind : Kind) {Lent : Type 0} (call : Call kind.State Lent) (lent' : Lent) (name : ℕ)
    (record' : Record kind.State) where
  pub not_lent : (r : Refusal) → reason_number r ≡ asked kind name (three_of record') → (number : ℕ)
      → number ≡ reason_number r
      → Did (in_layer kind call lent' name) (three_of record') number (three_of record') lent'
  not_lent r told number e =
      did_refused kind call lent' name (three_of record') number (e ∙ told) (λ done. some_reason r (told ∙ done))

  pub lent : (state after : kind.State) (three : Three kind.State) (number : ℕ) (left : Lent)
      → number ≡ call.number state → after ≡ call.after state → call.Leaves state left
      → 0 ≡ asked kind name (three_of record') → state ≡ layer_named kind (three_of record') name
      → three ≡ with_layer (three_of record') name after
      → Did (in_layer kind call lent' name) (three_of record') number three left
  lent state after three number left e f g done same put =
      did_called kind call lent' name (three_of record') number state after three left (sym done) same e put f g
