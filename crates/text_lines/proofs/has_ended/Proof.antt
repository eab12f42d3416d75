-- `text_lines::has_ended` meets its contract.
use mathlib.Core.Path.{refl}
use borrow.Author.Rules.{rules}
use Rattle.text_lines.proofs.has_ended.Statement.{statement}
use Rattle.text_lines.proofs.has_ended.Tie as tie

pub has_ended_spec : {M : Type 1} → statement M
has_ended_spec = tie.close (tie.spec (λ c. search rules) (λ c. rw c.if-more.false refl))
