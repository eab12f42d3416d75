-- `received_bits::kept_place` meets its contract.
use mathlib.Core.Path.{refl}
use native.Mathlib.Omega.{arith}
use Rattle.received_bits.specs.Steps.{kept_place}
use Rattle.received_bits.proofs.Places.{some_bits, kept_place_few}
use Rattle.received_bits.proofs.kept_place.Statement.{statement}
use Rattle.received_bits.proofs.kept_place.Tie as tie

pub kept_place_spec : {M : Type 1} → statement M
kept_place_spec =
    tie.close (tie.spec (λ c. some_bits c.requires.0) (λ c. some_bits c.requires.0)
    (λ c. let few = kept_place_few c.requires.0 c.args.kept c.requires.1 in omega arith)
    (λ c. some_bits c.requires.0)
    (λ c. let few = kept_place_few c.requires.0 c.args.kept c.requires.1 in omega arith)
    (λ c. unfold kept_place in refl))
