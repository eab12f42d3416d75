-- The places before i are stored.
use Rattle.lists.proofs.Fill.{Fill}
use Rattle.received_bits.specs.Steps.{digit_place}
use Rattle.received_bits.proofs.places_of.Given as goal

abbrev pub invariant-loop-i : goal.invariant-loop-i
invariant-loop-i l = Fill 48 (digit_place l.v l.rate.number) l.i l.places
