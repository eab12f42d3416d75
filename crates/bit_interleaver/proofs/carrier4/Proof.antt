-- `bit_interleaver::carrier4` meets its contract.
use native.Mathlib.Omega.{arith}
use borrow.Author.Rules.{rules}
use Rattle.rules.specs.Bits.{line_delay}
use Rattle.bit_interleaver.proofs.Masks.{masks_4}
use Rattle.bit_interleaver.proofs.carrier4.Statement.{statement}
use Rattle.bit_interleaver.proofs.carrier4.Tie as tie

pub carrier4_spec : {M : Type 1} → statement M
carrier4_spec =
    tie.close (tie.spec (λ c. search rules) (λ c. search rules) (λ c. search rules) (λ c. search rules)
    (λ c. search rules) (λ c. search rules) (λ c. search rules)
    (λ c. unfold line_delay in masks_4 _ _ _ _ _ _ (omega arith) (omega arith) (omega arith) (omega arith)))
