-- The sum has the values of the bytes before j, times x ^ 16.
use Rattle.remainder.proofs.Shifting.{Shifted}
use Rattle.remainder.proofs.Rows.shifted.Given as goal

abbrev pub invariant-loop-j : goal.invariant-loop-j
invariant-loop-j l = Shifted l.bytes l.j l.sum
