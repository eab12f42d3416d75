-- `replacement::adding::first_carrier` meets its contract.
use mathlib.Core.Path.{refl}
use native.Mathlib.Omega.{arith}
use borrow.Author.Rules.{rules}
use Rattle.rules.proofs.Counts.{each}
use Rattle.replacement.proofs.Words.{block_some, each_is, first_few}
use Rattle.replacement.proofs.adding.first_carrier.Statement.{statement}
use Rattle.replacement.proofs.adding.first_carrier.Tie as tie

pub first_carrier_spec : {M : Type 1} → statement M
first_carrier_spec =
    tie.close (tie.spec (λ c. (each c.requires.1).some) (λ c. search rules) (λ c κs. search rules)
    (λ c. rw c.block_length.ensures (block_some c.requires.0))
    (λ c. let few = first_few c.requires.0 c.requires.1 _ c.args.number c.block_length.ensures
    c.requires.2 in
    omega arith)
    (λ c. rw (c.block_length.ensures, each_is c.requires.1) refl))
