-- `received_bits::held_count` meets its contract.
use mathlib.Core.Path.{sym, ◌∙◌}
use borrow.Author.Rules.{rules}
use Rattle.received_bits.proofs.HeldCounts.{count_none, count_is}
use Rattle.received_bits.proofs.held_count.Statement.{statement}
use Rattle.received_bits.proofs.held_count.Tie as tie

pub held_count_spec : {M : Type 1} → statement M
held_count_spec =
    tie.close (tie.spec (λ c κs. search rules) (λ c κs. search rules)
    (λ c. count_none _ (λ z. c.if-number-ne0.true (c.number.ensures ∙ c.legal.ensures ∙ z)))
    (λ c κs. sym c.legal.ensures ∙ sym c.number.ensures ∙ c.if-number-ne0.false)
    (λ c. let legal = sym c.legal.ensures ∙ sym c.number.ensures ∙ c.if-number-ne0.false in
    count_is _ legal _ c.legal_count.ensures.0))
