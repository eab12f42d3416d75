-- It goes on as far as byte j.
use Rattle.dispersal.specs.Steps.{GoneOn}
use Rattle.dispersal.proofs.go_on.Given as goal

abbrev pub invariant-loop-j : goal.invariant-loop-j
invariant-loop-j g l = GoneOn g.row.FAR g.row.NEAR l.j l.initial.bytes l.bytes
