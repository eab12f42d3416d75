-- `received_bits::held::last_digit` meets its contract.
use Prim.Native.Nat.{◌+◌, ◌-◌}
use native.Mathlib.Omega.{arith}
use borrow.Author.Rules.{rules}
use Rattle.received_bits.proofs.HeldLaws.{held_fits_is, shown_row, last_lead, last_held, last_shown}
use Rattle.received_bits.proofs.held.last_digit.Statement.{statement}
use Rattle.received_bits.proofs.held.last_digit.Tie as tie

pub last_digit_spec : {M : Type 1} → statement M
last_digit_spec =
    tie.close (tie.spec (λ c. last_lead _ _ _ _ _ _ _ c.requires.2 c.if-c-lead.true)
    (λ c. let fits = held_fits_is _ _ _ c.requires.1 in omega (arith, fits.room))
    (λ c. let fits = held_fits_is _ _ _ c.requires.1 in omega (arith, fits.few))
    (λ c. last_held _ _ _ _ _ _ _ c.requires.2 c.if-c-lead.false
    c.if-c-lead-2.true)
    (λ c. search rules) (λ c. search rules) (λ c. search rules) (λ c. search rules)
    (λ c κs. let inside = c.requires.2 in
    let row = shown_row c.requires.0 (c.args.c - (c.args.lead + c.args.count)) (omega arith) in
    (c.requires.0, row.0, row.1))
    (λ c. last_shown _ _ _ _ _ _ _ _ c.requires.2 c.if-c-lead-2.false
    c.shown_by.ensures))
