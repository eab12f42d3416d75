-- `received_bits::held::shown_by` meets its contract.
use native.Mathlib.Omega.{arith}
use borrow.Author.Rules.{rules}
use Rattle.received_bits.proofs.Places.{small}
use Rattle.received_bits.proofs.HeldLaws.{entry_inside, shown_early, shown_late}
use Rattle.received_bits.proofs.held.shown_by.Statement.{statement}
use Rattle.received_bits.proofs.held.shown_by.Tie as tie

pub shown_by_spec : {M : Type 1} → statement M
shown_by_spec =
    tie.close (tie.spec (λ c. search rules)
    (λ c. let few = small c.requires.0 c.args.l c.requires.2 in
    omega (arith, few.least))
    (λ c. let few = small c.requires.0 c.args.l c.requires.2 in
    omega (arith, few.delay))
    (λ c. let few = small c.requires.0 c.args.l c.requires.2 in
    few.delay)
    (λ c κs. search rules)
    (λ c. let inside =
    entry_inside c.requires.0 c.args.l c.args.k c.requires.2 c.if-k-wait.true in
    omega (arith, c.first_of.ensures))
    (λ c. let inside =
    entry_inside c.requires.0 c.args.l c.args.k c.requires.2 c.if-k-wait.true in
    omega (arith, c.first_of.ensures))
    (λ c. shown_early _ _ _ _ _ _ c.if-k-wait.true c.first_of.ensures)
    (λ c κs. search rules) (λ c. shown_late _ _ _ _ _ _ c.if-k-wait.false c.digit_of.ensures))
