-- `received_bits::held::fits` meets its contract.
use native.Mathlib.Omega.{arith}
use borrow.Author.Rules.{rules}
use Rattle.received_bits.proofs.Places.{some_bits, small}
use Rattle.received_bits.proofs.HeldLaws.{too_many, too_far, no_row, row}
use Rattle.received_bits.proofs.held.fits.Statement.{statement}
use Rattle.received_bits.proofs.held.fits.Tie as tie

pub fits_spec : {M : Type 1} → statement M
fits_spec =
    tie.close (tie.spec (λ c. too_many _ _ _ c.if-count-gt3072.true) (λ c. too_far _ _ _ c.if-lead-gt3360.true)
    (λ c. search rules) (λ c. some_bits c.requires) (λ c. no_row _ _ _ c.if-lead-count-ne0.true)
    (λ c. search rules)
    (λ c. let most = (small c.requires 0 (some_bits c.requires)).most in
    omega arith)
    (λ c. let most = (small c.requires 0 (some_bits c.requires)).most in
    omega arith)
    (λ c. row _ _ _ (omega (arith, c.if-count-gt3072.false)) (omega (arith, c.if-lead-count-ne0.false))))
