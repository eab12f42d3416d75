-- `replacement::adding::quiet` meets its contract.
use mathlib.Core.Path.{refl}
use borrow.Author.Rules.{rules}
use Rattle.rules.specs.Bytes.{memory_at_start}
use Rattle.replacement.specs.Steps.{quiet_run}
use Rattle.replacement.proofs.Words.{block_some}
use Rattle.replacement.proofs.adding.quiet.Statement.{statement}
use Rattle.replacement.proofs.adding.quiet.Tie as tie

pub quiet_spec : {M : Type 1} → statement M
quiet_spec =
    tie.close (tie.spec (λ c. search rules) (λ c κs. search rules)
    (λ c. rw c.block_length.ensures (block_some c.requires.0))
    (λ c. unfold quiet_run memory_at_start in rw c.block_length.ensures refl))
