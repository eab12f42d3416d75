-- Any two results of a turn are equal, where a line tells one thing alone.
--     turn_unique, given_unique     of a turn, and of a function that makes one
--     same_turned                   what a turn gave is fixed by its fields
use mathlib.Core.Path.{◌≡◌, refl, sym, ap, ◌∙◌}
use mathlib.Core.Bool.{Bool, true, false}
use mathlib.Core.List.{List, ◌++◌}
use Prim.Native.Nat.{ℕ}
use lib.ListN.{length, drop}
use Rattle.settings.specs.Answers.{Answer}
use Rattle.settings.proofs.Answers.{answers_equal}
use Rattle.text_lines.specs.declared.Reading.{Reading}
use Rattle.text_lines.specs.declared.work.Turned.{Turned}
use Rattle.text_lines.specs.Turns.{line_ends, goes_on, Turn}
use Rattle.text_lines.specs.Turned.{areas_fit, TurnRefused, TurnMade, TurnGiven}

module _ {Run : Type 0} (over : Run → Bool) (Tells : Run → List ℕ → List ℕ → Run → Type 0)
    (tells-unique : (run : Run) (line text text₁ : List ℕ) (next next₁ : Run) → Tells run line text next
    → Tells run line text₁ next₁ → (text ≡ text₁) × (next ≡ next₁)) (room : ℕ) (run : Run) where
  module _ (held piece text text₁ : List ℕ) (next next₁ : Run) (held' held₁ piece' piece₁ : List ℕ) (more more₁ : Bool)
      (one : Turn over Tells room run held piece text next held' piece' more)
      (other : Turn over Tells room run held piece text₁ next₁ held₁ piece₁ more₁) where
    printed_unique : (text ≡ text₁) × (next ≡ next₁)
    printed_unique = go (line_ends held piece) refl
      where
        go : (b : Bool) → line_ends held piece ≡ b → (text ≡ text₁) × (next ≡ next₁)
        go true e = tells-unique run _ text text₁ next next₁ (one.line_ends_is e) (other.line_ends_is e)
        go false e =
            let f = one.line_goes_on e in
            let g = other.line_goes_on e in
            (f.0 ∙ sym g.0, f.1 ∙ sym g.1)

    pub turn_unique : (text ≡ text₁) × (next ≡ next₁) × (held' ≡ held₁) × (piece' ≡ piece₁) × (more ≡ more₁)
    turn_unique = (
      printed_unique.0,
      printed_unique.1,
      one.held_is ∙ sym other.held_is,
      one.piece_is ∙ sym other.piece_is,
      one.more_is ∙ ap (λ (n : Run). goes_on piece (over n)) printed_unique.1 ∙ sym other.more_is,
    )

  module _ (most : ℕ) (reading : Reading) (text line out : List ℕ) (answer answer₁ : Answer) (next next₁ : Run)
      (after after₁ : Reading) (written written₁ : ℕ) (more more₁ : Bool) (line' line₁ out' out₁ : List ℕ) where
    abbrev Same : Type 0
    Same =
        (answer ≡ answer₁) × (next ≡ next₁) × (after ≡ after₁) × (written ≡ written₁) × (more ≡ more₁)
        × (line' ≡ line₁) × (out' ≡ out₁)

    refused_unique :
        TurnRefused over Tells room most run reading text line out answer next after written more line' out'
        → TurnRefused over Tells room most run reading text line out answer₁ next₁ after₁ written₁ more₁ line₁ out₁
        → Same
    refused_unique f g = (
      answers_equal answer answer₁ (f.answer_is ∙ sym g.answer_is),
      f.run_is ∙ sym g.run_is,
      f.reading_is ∙ sym g.reading_is,
      f.written_is ∙ sym g.written_is,
      f.more_is ∙ sym g.more_is,
      f.line_is ∙ sym g.line_is,
      f.out_is ∙ sym g.out_is,
    )

    made_unique : TurnMade over Tells room most run reading text line out answer next after written more line' out'
        → TurnMade over Tells room most run reading text line out answer₁ next₁ after₁ written₁ more₁ line₁ out₁ → Same
    made_unique f g =
        let same = turn_unique _ _ _ _ _ _ _ _ _ _ _ _ f.turn g.turn in (
          answers_equal answer answer₁ (f.answer_is ∙ sym g.answer_is),
          same.1,
          f.reading_is ∙ sym g.reading_is,
          f.written_is ∙ ap length same.0 ∙ sym g.written_is,
          same.4,
          f.line_is ∙ sym g.line_is,
          f.out_is ∙ ap (λ (l : List ℕ). l ++ drop (length l) out) same.0 ∙ sym g.out_is,
        )

    pub given_unique :
        TurnGiven over Tells room most run reading text line out answer next after written more line' out'
        → TurnGiven over Tells room most run reading text line out answer₁ next₁ after₁ written₁ more₁ line₁ out₁ → Same
    given_unique f g = go (areas_fit room most line out) refl
      where
        go : (b : Bool) → areas_fit room most line out ≡ b → Same
        go true e = made_unique (f.made e) (g.made e)
        go false e = refused_unique (f.refused e) (g.refused e)

unfoldable turned : {Run : Type 0} → Answer → Run → Reading → ℕ → Bool → Turned Run
turned answer run reading written more =
    record { answer = answer; run = run; reading = reading; written = written; more = more }

same_fields : {Run : Type 0} (r s : Turned Run) → r.answer ≡ s.answer → r.run ≡ s.run → r.reading ≡ s.reading
    → r.written ≡ s.written → r.more ≡ s.more
    → turned r.answer r.run r.reading r.written r.more
    ≡ turned s.answer s.run s.reading s.written s.more
same_fields r s e f g h i = cc

pub same_turned : {Run : Type 0} (r s : Turned Run) → r.answer ≡ s.answer → r.run ≡ s.run → r.reading ≡ s.reading
    → r.written ≡ s.written → r.more ≡ s.more → r ≡ s
unfolding turned
same_turned r s e f g h i = same_fields r s e f g h i
