-- The sum stays below 1000000007.
use Prim.Native.Nat.{◌<◌}
use Rattle.cases_coding.proofs.checksum.Given as goal

abbrev pub invariant-loop-byte : goal.invariant-loop-byte
invariant-loop-byte l = l.sum < 1000000007
