-- The branches before i are renewed.
use Rattle.std.proofs.Common.{not, nat_eq}
use Rattle.byte_interleaver.specs.Steps.{waits_of}
use Rattle.byte_interleaver.proofs.Taking.{Renewed}
use Rattle.byte_interleaver.proofs.take_in.Given as goal

abbrev pub invariant-loop-i : goal.invariant-loop-i
invariant-loop-i g l =
    Renewed (waits_of (not (nat_eq g.row.BACK 0))) l.fn.memory (g.W.Word.bytes l.word) l.i l.memory
