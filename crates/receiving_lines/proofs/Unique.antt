-- What a line prints is one text alone, and so is the run after it.
--     shown_unique, line_unique     what a frame prints, and what any line prints
use mathlib.Core.Path.{◌≡◌, refl, sym, ap, ap₂, ◌∙◌}
use mathlib.Core.Bool.{Bool, true, false}
use mathlib.Core.List.{List}
use Prim.Native.Nat.{ℕ, ◌*◌}
use lib.ListN.{take}
use Rattle.settings.specs.Answers.{number_of}
use Rattle.hexadecimal.specs.Bytes.{bytes_in}
use Rattle.receiving_state.specs.declared.State.{State}
use Rattle.receiving_answers.specs.Entry.{Received}
use Rattle.receiving_answers.proofs.Unique.{back_unique}
use Rattle.text_lines.specs.declared.Awaits.{Awaits}
use Rattle.text_lines.specs.declared.Awaits.TheVariants.{FirstLine, Frames, Nothing}
use Rattle.text_lines.specs.Answer.{answer_text}
use Rattle.receiving_lines.specs.declared.Run.{Run}
use Rattle.receiving_lines.specs.Lines.{receiving_frames, receiving_frame, blank_slots, Shown, LineTold}

pub shown_unique : (state : State) (carriers text text₁ : List ℕ) (next next₁ : Run) → Shown state carriers text next
    → Shown state carriers text₁ next₁ → (text ≡ text₁) × (next ≡ next₁)
shown_unique state carriers text text₁ next next₁ f g =
    let same = back_unique state carriers (blank_slots state) _ _ _ _ f.back_is g.back_is in (
      f.text_is
          ∙ ap₂ (λ (r : Received) (l : List ℕ). answer_text (number_of r.answer) (take (189 * r.given) l))
          same.0 same.1 ∙ sym g.text_is,
      f.next_is ∙ ap (λ (r : Received). receiving_frames r.state) same.0 ∙ sym g.next_is,
    )

both : (text text₁ t : List ℕ) (next next₁ n : Run) → (text ≡ t) × (next ≡ n) → (text₁ ≡ t) × (next₁ ≡ n)
    → (text ≡ text₁) × (next ≡ next₁)
both text text₁ t next next₁ n f g = (f.0 ∙ sym g.0, f.1 ∙ sym g.1)

module _ (run : Run) (line text text₁ : List ℕ) (next next₁ : Run) (f : LineTold run line text next)
    (g : LineTold run line text₁ next₁) where
  of_frames : run.awaits ≡ Frames → (right : Bool) → receiving_frame run.state line ≡ right → (text ≡ text₁)
      × (next ≡ next₁)
  of_frames e true t =
      shown_unique run.state (bytes_in line) text text₁ next next₁ ((f.frame e).right t) ((g.frame e).right t)
  of_frames e false t = both _ _ _ _ _ _ ((f.frame e).wrong t) ((g.frame e).wrong t)

  of_awaits : (awaits : Awaits) → run.awaits ≡ awaits → (text ≡ text₁) × (next ≡ next₁)
  of_awaits FirstLine e = both _ _ _ _ _ _ (f.first e) (g.first e)
  of_awaits Frames e = of_frames e (receiving_frame run.state line) refl
  of_awaits Nothing e = both _ _ _ _ _ _ (f.nothing e) (g.nothing e)

  pub line_unique : (text ≡ text₁) × (next ≡ next₁)
  line_unique = of_awaits run.awaits refl
