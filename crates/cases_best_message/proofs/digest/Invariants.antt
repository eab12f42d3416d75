-- The sum stays below 65521.
use Prim.Native.Nat.{◌<◌}
use Rattle.cases_best_message.proofs.digest.Given as goal

abbrev pub invariant-loop-byte : goal.invariant-loop-byte
invariant-loop-byte l = l.sum < 65521
