-- The bytes before j are added.
use Rattle.lists.proofs.FillOver.{Over}
use Rattle.dispersal.proofs.Words.{sum}
use Rattle.dispersal.proofs.add.Given as goal

abbrev pub invariant-loop-j : goal.invariant-loop-j
invariant-loop-j l = Over 204 (sum l.word l.sequence) l.word l.j l.result
