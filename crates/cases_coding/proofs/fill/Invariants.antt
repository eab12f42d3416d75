-- The number stays below 65537.
use Prim.Native.Nat.{◌<◌}
use Rattle.cases_coding.proofs.fill.Given as goal

abbrev pub invariant-loop-byte : goal.invariant-loop-byte
invariant-loop-byte l = l.x < 65537
