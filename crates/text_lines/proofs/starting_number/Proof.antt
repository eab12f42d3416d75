-- `text_lines::starting_number` meets its contract.
use mathlib.Core.Path.{◌≡◌, refl, sym, ◌∙◌}
use mathlib.Core.Bool.{true, false}
use Prim.Native.Nat.{ℕ}
use borrow.Author.Rules.{rules}
use borrow.Author.Tests.{eq-eqb, ne_eqb}
use Rattle.settings.specs.declared.Settings.{Settings}
use Rattle.settings.specs.Legal.{starting}
use Rattle.text_lines.specs.First.{small, starting_number}
use Rattle.text_lines.proofs.starting_number.Statement.{statement}
use Rattle.text_lines.proofs.starting_number.Tie as tie

-- the three outcomes
refused : (settings : Settings) (number : ℕ) → number ≡ starting settings → (number ≡ 0 → ⊥)
    → number ≡ starting_number settings
unfolding starting_number
refused settings number is some = is ∙ rw (ne_eqb (starting settings) 0 (λ e. some (is ∙ e))) refl

taken : (settings : Settings) → starting settings ≡ 0 → small settings ≡ true → 0 ≡ starting_number settings
taken settings none fine = unfold starting_number in rw (eq-eqb (starting settings) 0 none, fine) refl

larger : (settings : Settings) → starting settings ≡ 0 → small settings ≡ false → 255 ≡ starting_number settings
larger settings none over = unfold starting_number in rw (eq-eqb (starting settings) 0 none, over) refl

pub starting_number_spec : {M : Type 1} → statement M
starting_number_spec =
    tie.close (tie.spec (λ c κs. search rules) (λ c κs. search rules)
    (λ c. refused _ _ (c.number-refusal.ensures ∙ c.legal.ensures) c.if-refusal-ne0.true)
    (λ c κs. search rules)
    (λ c. taken _ (sym (c.number-refusal.ensures ∙ c.legal.ensures) ∙ c.if-refusal-ne0.false)
    (sym c.is_small.ensures ∙ c.if-is_small.true))
    (λ c. larger _ (sym (c.number-refusal.ensures ∙ c.legal.ensures) ∙ c.if-refusal-ne0.false)
    (sym c.is_small.ensures ∙ c.if-is_small.false)))
