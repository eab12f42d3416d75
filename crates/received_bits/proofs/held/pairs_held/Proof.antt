-- `received_bits::held::pairs_held` meets its contract.
use mathlib.Core.Path.{sym, ◌∙◌}
use borrow.Author.Rules.{rules}
use Rattle.puncturing.proofs.Tables.{legal_of}
use Rattle.received_bits.proofs.Whole.{digits_of}
use Rattle.received_bits.proofs.HeldLaws.{last_few, held_all, held_not}
use Rattle.received_bits.proofs.held.pairs_held.Statement.{statement}
use Rattle.received_bits.proofs.held.pairs_held.Tie as tie

pub pairs_held_spec : {M : Type 1} → statement M
pairs_held_spec =
    tie.close (tie.spec (λ c κs. search rules)
    (λ c κs. (c.requires, sym c.fits.ensures ∙ c.if-fits.true))
    (λ c κs. (c.requires, digits_of _ _ _ (last_few _ _ _ _ _ _) c.planes_held-planes.ensures))
    (λ c. held_all _ _ _ _ _ c.requires (legal_of _ c.args.rate.legal) _ _
    (sym c.fits.ensures ∙ c.if-fits.true)
    c.planes_held-planes.ensures c.pairs_by.ensures)
    (λ c. held_not _ _ _ _ _ _ _ (sym c.fits.ensures ∙ c.if-fits.false)))
