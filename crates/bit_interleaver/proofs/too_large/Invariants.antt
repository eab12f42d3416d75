-- `all` has the bits of the carriers that were passed.
use Rattle.bit_interleaver.proofs.Gathering.{Gathered}
use Rattle.bit_interleaver.proofs.too_large.Given as goal

abbrev pub invariant-loop-carrier : goal.invariant-loop-carrier
invariant-loop-carrier l = Gathered l.v l.carriers l.carrier-index l.all
