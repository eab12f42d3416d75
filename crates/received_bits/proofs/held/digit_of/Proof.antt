-- `received_bits::held::digit_of` meets its contract.
use native.Mathlib.Omega.{arith}
use borrow.Author.Rules.{rules}
use Rattle.received_bits.proofs.Places.{small}
use Rattle.received_bits.proofs.HeldLaws.{digit_there, digit_none}
use Rattle.received_bits.proofs.held.digit_of.Statement.{statement}
use Rattle.received_bits.proofs.held.digit_of.Tie as tie

few : tie.Need-overflow_shr-result
few c =
    let most = (small c.requires.0 c.args.l c.requires.1).most in omega arith

pub digit_of_spec : {M : Type 1} → statement M
digit_of_spec =
    tie.close (tie.spec (λ c. search rules) (λ c. search rules) (λ c. search rules)
    (λ c. omega (arith, few c)) few (λ c. digit_there _ _ _ _ c.if-k-carriers.true)
    (λ c. digit_none _ _ _ _ c.if-k-carriers.false))
