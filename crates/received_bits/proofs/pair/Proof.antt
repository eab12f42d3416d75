-- `received_bits::pair` meets its contract.
use native.Mathlib.Omega.{arith}
use borrow.Author.Rules.{rules}
use Rattle.received_bits.proofs.pair.Statement.{statement}
use Rattle.received_bits.proofs.pair.Tie as tie

pub pair_spec : {M : Type 1} → statement M
pair_spec =
    tie.close (tie.spec (λ c. search rules)
    (λ c. let few = c.requires.2.few c.args.x in omega arith) (λ c. search rules)
    (λ c. let one = c.requires.2.few c.args.x in
    let two = c.requires.2.few c.args.y in
    omega arith)
    (λ c. search rules))
