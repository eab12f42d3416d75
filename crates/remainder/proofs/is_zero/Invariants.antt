-- The sum is 0 where the bytes that it is of are.
use Rattle.std.proofs.Common.{◌≡◌, take, eqb}
use Rattle.remainder.specs.Remainder.{all_zero}
use Rattle.remainder.proofs.is_zero.Given as goal

abbrev pub invariant-loop-byte : goal.invariant-loop-byte
invariant-loop-byte l = eqb l.sum 0 ≡ all_zero (take l.byte-index l.fn.bytes)
