-- The bytes below k are read.
use Rattle.std.proofs.Common.{length}
use Rattle.lists.proofs.Fill.{Fill}
use Rattle.hexadecimal.specs.Bytes.{byte_at}
use Rattle.hexadecimal.proofs.read.Given as goal

abbrev pub invariant-loop-k : goal.invariant-loop-k
invariant-loop-k l = Fill (length l.initial.out) (byte_at l.line) l.k l.out
