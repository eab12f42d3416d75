-- The first 2 n blocks are the multiples of block 1.
use Rattle.std.proofs.Common.{◌*◌}
use Rattle.remainder.specs.Steps.{Multiples}
use Rattle.remainder.proofs.put_multiples.Given as goal

abbrev pub invariant-loop-n : goal.invariant-loop-n
invariant-loop-n l = Multiples l.at (2 * l.n) l.initial.table l.table
