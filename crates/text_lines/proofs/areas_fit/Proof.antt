-- `text_lines::areas_fit` meets its contract.
use mathlib.Core.Path.{refl}
use borrow.Author.Tests.{eq-eqb, ne_eqb}
use Rattle.text_lines.specs.Turned.{areas_fit}
use Rattle.text_lines.proofs.areas_fit.Statement.{statement}
use Rattle.text_lines.proofs.areas_fit.Tie as tie

pub areas_fit_spec : {M : Type 1} → statement M
areas_fit_spec =
    tie.close (tie.spec (λ c. unfold areas_fit in rw (ne_eqb _ _ c.if-line-room.true) refl)
    (λ c. unfold areas_fit in rw (eq-eqb _ _ c.if-line-room.false) refl))
