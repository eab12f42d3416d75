-- `receiver::frame::frame_pairs` meets its contract.
use native.Mathlib.Omega.{arith}
use borrow.Author.Rules.{rules}
use Rattle.numbers.proofs.Smaller.{least_is}
use Rattle.receiver.proofs.Stretch.{reach, in_order, stretch_pairs}
use Rattle.receiver.proofs.frame.frame_pairs.Statement.{statement}
use Rattle.receiver.proofs.frame.frame_pairs.Tie as tie

returns : tie.Need-returns
returns c =
    stretch_pairs c.requires.0 _ c.args.s _ _
    (record { starts = (least_is c.min-from.ensures); ends = (least_is c.min-end.ensures) }) c.requires.1 _ c.pairs.ensures

pub frame_pairs_spec : {M : Type 1} → statement M
frame_pairs_spec =
    tie.close (tie.spec (λ c. (reach c.requires.0 c.args.s c.requires.2).some)
    (λ c. let few = (reach c.requires.0 c.args.s c.requires.2).base in omega (arith, few))
    (λ c κs. search rules)
    (λ c. (reach c.requires.0 c.args.s c.requires.2).some)
    (λ c. let rows =
    (reach c.requires.0 c.args.s c.requires.2).rows in
    omega (arith, rows))
    (λ c. let few = reach c.requires.0 c.args.s c.requires.2 in
    let base = few.base in
    let rows = few.rows in
    let from = (least_is c.min-from.ensures).0 in
    omega (arith, base, rows, from))
    (λ c κs. search rules) (λ c. in_order _ _ _ _ (least_is c.min-from.ensures).1 (least_is c.min-end.ensures).2)
    (λ c. let from = (least_is c.min-from.ensures).1 in
    let order = in_order _ _ _ _ (least_is c.min-from.ensures).1 (least_is c.min-end.ensures).2 in
    omega (arith, from, order))
    (λ c. search rules) (λ c κs. search rules) returns)
