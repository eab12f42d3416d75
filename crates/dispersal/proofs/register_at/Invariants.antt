-- The register is that of the place's low bits, as many as there were jumps.
use Rattle.std.proofs.Common.{◌≡◌, ◌/◌, ◌%◌, ◌^◌}
use Rattle.dispersal.specs.Register.{generator_at}
use Rattle.dispersal.proofs.register_at.Given as goal

abbrev pub invariant-loop-jump : goal.invariant-loop-jump
invariant-loop-jump l =
    (l.left ≡ l.place % 32767 / 2 ^ l.jump-index)
    × (l.register ≡ generator_at (l.place % 32767 % 2 ^ l.jump-index))
