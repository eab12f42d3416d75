-- `bit_interleaver::carrier6` meets its contract.
use native.Mathlib.Omega.{arith}
use borrow.Author.Rules.{rules}
use Rattle.rules.specs.Bits.{line_delay}
use Rattle.bit_interleaver.proofs.Masks.{masks_6}
use Rattle.bit_interleaver.proofs.carrier6.Statement.{statement}
use Rattle.bit_interleaver.proofs.carrier6.Tie as tie

pub carrier6_spec : {M : Type 1} → statement M
carrier6_spec =
    tie.close (tie.spec (λ c. search rules) (λ c. search rules) (λ c. search rules) (λ c. search rules)
    (λ c. search rules) (λ c. search rules) (λ c. search rules) (λ c. search rules) (λ c. search rules)
    (λ c. search rules) (λ c. search rules)
    (λ c. unfold line_delay in
    masks_6 _ _ _ _ _ _ _ _ (omega arith) (omega arith) (omega arith) (omega arith) (omega arith) (omega arith)))
