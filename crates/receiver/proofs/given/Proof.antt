-- `receiver::given` meets its contract.
use mathlib.Core.Path.{refl}
use borrow.Author.Rules.{rules}
use borrow.Author.Tests.{eq-eqb, ne_eqb}
use Rattle.receiving_answers.proofs.Answers.{given_by}
use Rattle.receiver.proofs.given.Statement.{statement}
use Rattle.receiver.proofs.given.Tie as tie

pub given_spec : {M : Type 1} → statement M
given_spec =
    tie.close (tie.spec (λ c. search rules) (λ c. unfold given_by in rw (eq-eqb _ 0 c.if-taken-eq0.true) refl)
    (λ c. unfold given_by in rw (ne_eqb _ 0 c.if-taken-eq0.false) refl))
