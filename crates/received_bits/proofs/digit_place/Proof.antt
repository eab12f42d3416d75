-- `received_bits::digit_place` meets its contract.
use native.Mathlib.Nat.{mod-lt}
use native.Mathlib.Omega.{arith}
use borrow.Author.Rules.{rules}
use Rattle.puncturing.proofs.Tables.{legal_of}
use Rattle.received_bits.proofs.Blocks.{kept_few}
use Rattle.received_bits.proofs.Places.{place_no_x, place_x_is, place_no_y, place_y_alone, place_y_is}
use Rattle.received_bits.proofs.digit_place.Statement.{statement}
use Rattle.received_bits.proofs.digit_place.Tie as tie

kept_place_requires : tie.Need-kept_place-requires
kept_place_requires c κs = (
  c.requires.0,
  let few = kept_few (legal_of _ c.args.rate.legal) _ (mod-lt c.args.i {m = 24} (omega arith)) in
      omega (arith, c.kept_below-kept.ensures),
)

kept_place_requires_2 : tie.Need-kept_place-requires-then-kind-eq2-2
kept_place_requires_2 c κs = (
  c.requires.0,
  let few = kept_few (legal_of _ c.args.rate.legal) _ (mod-lt c.args.i {m = 24} (omega arith)) in
      omega (arith, c.kept_below-kept.ensures),
)

kept_place_requires_3 : tie.Need-kept_place-requires-2
kept_place_requires_3 c κs = (
  c.requires.0,
  let few = kept_few (legal_of _ c.args.rate.legal) _ (mod-lt c.args.i {m = 24} (omega arith)) in
      omega (arith, c.kept_below-kept.ensures),
)

pub digit_place_spec : {M : Type 1} → statement M
digit_place_spec =
    tie.close (tie.spec (λ c κs. search rules) (λ c. search rules) (λ c κs. search rules)
    (λ c. place_no_x _ _ _ _ _ c.kind_of-kind.ensures c.kept_below-kept.ensures c.if-i-lt24.true
    c.if-kind-eq2.true)
    kept_place_requires
    (λ c. place_x_is _ _ _ _ _ c.kind_of-kind.ensures c.kept_below-kept.ensures _
    c.if-i-lt24.true c.if-kind-eq2.false c.kept_place.ensures)
    (λ c. place_no_y _ _ _ _ _ c.kind_of-kind.ensures c.kept_below-kept.ensures
    (omega (arith, c.if-i-lt24.false)) c.if-kind-eq1.true)
    kept_place_requires_2
    (λ c. place_y_alone _ _ _ _ _ c.kind_of-kind.ensures c.kept_below-kept.ensures _
    (omega (arith, c.if-i-lt24.false)) c.if-kind-eq2-2.true c.kept_place-then-kind-eq2-2.ensures)
    (λ c. let few = kept_few (legal_of _ c.args.rate.legal) _ (mod-lt c.args.i {m = 24} (omega arith)) in
    omega (arith, c.kept_below-kept.ensures))
    kept_place_requires_3
    (λ c. place_y_is _ _ _ _ _ c.kind_of-kind.ensures c.kept_below-kept.ensures _
    (omega (arith, c.if-i-lt24.false)) c.if-kind-eq1.false c.if-kind-eq2-2.false
    c.kept_place-2.ensures))
