-- The places before q are listed.
use Rattle.std.proofs.Common.{◌≤◌, length}
use Rattle.reed_solomon.specs.Decode.{ListedZeros}
use Rattle.reed_solomon.proofs.roots.zeros.Given as goal

abbrev pub invariant-loop-q : goal.invariant-loop-q
invariant-loop-q l = (length l.at ≤ 8) × ListedZeros l.v l.at (length l.at) l.q
