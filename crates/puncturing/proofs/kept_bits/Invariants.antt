-- The first i bits are picked.
use Rattle.std.proofs.Common.{◌≡◌}
use Rattle.lists.specs.Binary.{binary}
use Rattle.puncturing.specs.Steps.{picked_bit}
use Rattle.puncturing.proofs.kept_bits.Given as goal

abbrev pub invariant-loop-i : goal.invariant-loop-i
invariant-loop-i l = l.kept ≡ binary l.i (picked_bit l.code l.shifts l.bases l.bits)
