-- The areas of the line and of the answer keep their lengths.
use Rattle.std.proofs.Common.{◌≡◌, length}
use Rattle.line_programs.proofs.turns.Given as goal

abbrev pub invariant-loop : goal.invariant-loop
invariant-loop g l = (length l.line ≡ length l.initial.line) × (length l.out ≡ length l.initial.out)
