-- The first t bytes are put.
use Rattle.byte_interleaver.specs.Steps.{Newest}
use Rattle.byte_interleaver.proofs.put_newest.Given as goal

abbrev pub invariant-loop-t : goal.invariant-loop-t
invariant-loop-t g l = Newest l.at l.i l.t (g.W.Word.bytes l.word) l.initial.memory l.memory
