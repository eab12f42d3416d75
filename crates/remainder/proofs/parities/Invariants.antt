-- The parities of the packets before p are stored.
use Rattle.std.proofs.Common.{◌*◌, length}
use Rattle.lists.proofs.Fill.{Fill}
use Rattle.remainder.specs.Packets.{parity_byte}
use Rattle.remainder.proofs.parities.Given as goal

abbrev pub invariant-loop-p : goal.invariant-loop-p
invariant-loop-p l = Fill (length l.initial.out) (parity_byte l.packets) (16 * l.p) l.out
