-- The pairs of the blocks below s, and of block s those below i, are stored; the rest is 8.
use Rattle.std.proofs.Common.{◌+◌, ◌*◌}
use Rattle.received_bits.proofs.PairFilling.{Pairs}
use Rattle.received_bits.proofs.pairs_by.Given as goal

abbrev pub invariant-loop-s : goal.invariant-loop-s
invariant-loop-s l = Pairs l.v l.fn.rate.number l.planes (l.size * l.s) l.out

abbrev pub invariant-loop-i : goal.invariant-loop-i
invariant-loop-i l = Pairs l.v l.fn.rate.number l.planes (l.size * l.s + l.i) l.out
