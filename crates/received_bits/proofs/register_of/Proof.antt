-- `received_bits::register_of` meets its contract.
use native.Mathlib.Omega.{arith}
use borrow.Author.Rules.{rules}
use Rattle.lists.specs.Binary.{binary}
use Rattle.rules.specs.Back.{register_of}
use Rattle.received_bits.proofs.register_of.Statement.{statement}
use Rattle.received_bits.proofs.register_of.Tie as tie

pub register_of_spec : {M : Type 1} → statement M
register_of_spec =
    tie.close (tie.spec (λ c. search rules) (λ c. search rules) (λ c. search rules) (λ c. search rules)
    (λ c. search rules) (λ c. search rules) (λ c. search rules) (λ c. search rules) (λ c. search rules)
    (λ c. search rules) (λ c. search rules) (λ c. search rules) (λ c. search rules) (λ c. search rules)
    (λ c. search rules) (λ c. search rules) (λ c. unfold register_of binary in (omega arith, omega arith)))
