-- `received_bits::held_after` meets its contract.
use mathlib.Core.Path.{sym, ◌∙◌}
use borrow.Author.Rules.{rules}
use Rattle.received_bits.proofs.LastWord.{carriers_are}
use Rattle.received_bits.proofs.HeldCounts.{after_none, after_other, after_is}
use Rattle.received_bits.proofs.held_after.Statement.{statement}
use Rattle.received_bits.proofs.held_after.Tie as tie

done : tie.Need-returns
done c =
    let legal = sym c.legal.ensures ∙ sym c.number.ensures ∙ c.if-number-ne0.false in
    after_is _ legal _ (c.if-carriers.false ∙ c.carriers.ensures) _ c.bits_after.ensures

pub held_after_spec : {M : Type 1} → statement M
held_after_spec =
    tie.close (tie.spec (λ c κs. search rules) (λ c κs. search rules)
    (λ c. after_none _ _ (λ z. c.if-number-ne0.true (c.number.ensures ∙ c.legal.ensures ∙ z)))
    (λ c κs. search rules)
    (λ c. let legal = sym c.legal.ensures ∙ sym c.number.ensures ∙ c.if-number-ne0.false in
    after_other _ legal _ (λ e. c.if-carriers.true (e ∙ sym c.carriers.ensures)))
    (λ c κs. let legal = sym c.legal.ensures ∙ sym c.number.ensures ∙ c.if-number-ne0.false in
    (legal, c.if-carriers.false ∙ c.carriers.ensures ∙ carriers_are _ legal))
    done)
