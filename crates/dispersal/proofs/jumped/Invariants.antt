-- The sum is taken of the registers up to i steps on.
use Rattle.std.proofs.Common.{◌≡◌}
use Rattle.dispersal.specs.Steps.{mixed}
use Rattle.dispersal.proofs.jumped.Given as goal

abbrev pub invariant-loop-i : goal.invariant-loop-i
invariant-loop-i l = l.sum ≡ mixed l.jump l.i l.register
