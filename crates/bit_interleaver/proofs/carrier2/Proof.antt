-- `bit_interleaver::carrier2` meets its contract.
use native.Mathlib.Omega.{arith}
use borrow.Author.Rules.{rules}
use Rattle.rules.specs.Bits.{line_delay}
use Rattle.bit_interleaver.proofs.Masks.{masks_2}
use Rattle.bit_interleaver.proofs.carrier2.Statement.{statement}
use Rattle.bit_interleaver.proofs.carrier2.Tie as tie

pub carrier2_spec : {M : Type 1} → statement M
carrier2_spec =
    tie.close (tie.spec (λ c. search rules) (λ c. search rules) (λ c. search rules)
    (λ c. unfold line_delay in masks_2 _ _ _ _ (omega arith) (omega arith)))
