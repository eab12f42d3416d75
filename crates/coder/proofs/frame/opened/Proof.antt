-- `coder::frame::opened` meets its contract.
use mathlib.Core.Path.{refl}
use borrow.Author.Rules.{rules}
use Rattle.coder.specs.Steps.{opened_progress}
use Rattle.coder.proofs.frame.opened.Statement.{statement}
use Rattle.coder.proofs.frame.opened.Tie as tie

pub opened_spec : {M : Type 1} → statement M
opened_spec =
    tie.close (tie.spec (λ c κs. search rules) (λ c. unfold opened_progress in rw c.history-history.ensures refl))
