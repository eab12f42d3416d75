-- Whether the entries that were passed are in range: first those that are used, and then the others.
use Rattle.std.proofs.Common.{◌≡◌, ◌+◌}
use Rattle.lists.specs.Tests.{all_below, bit_or_zero}
use Rattle.lent_areas.proofs.bits_then_zeros.Given as goal

abbrev pub invariant-loop-entry : goal.invariant-loop-entry
invariant-loop-entry l = l.all ≡ all_below l.entry-index (bit_or_zero l.used l.entries)

abbrev pub invariant-loop-entry-2 : goal.invariant-loop-entry-2
invariant-loop-entry-2 l = l.all ≡ all_below (l.bits + l.entry-index) (bit_or_zero l.used l.entries)
