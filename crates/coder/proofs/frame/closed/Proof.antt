-- `coder::frame::closed` meets its contract.
use mathlib.Core.Path.{refl}
use borrow.Author.Rules.{rules}
use Rattle.coder.specs.Steps.{coding_closed}
use Rattle.coder.proofs.frame.closed.Statement.{statement}
use Rattle.coder.proofs.frame.closed.Tie as tie

pub closed_spec : {M : Type 1} → statement M
closed_spec =
    tie.close (tie.spec (λ c κs. search rules) (λ c κs. search rules)
    (λ c. unfold coding_closed in rw (c.turned_register.ensures, c.lines.ensures) refl))
