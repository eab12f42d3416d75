-- The highest is below 9 where each pair passed is.
use Rattle.std.proofs.Common.{◌≡◌, ltb}
use Rattle.lists.specs.Tests.{all_below}
use Rattle.best_message.specs.Entry.{is_pair}
use Rattle.best_message.proofs.are_pairs.Given as goal

abbrev pub invariant-loop-pair : goal.invariant-loop-pair
invariant-loop-pair l = ltb l.highest 9 ≡ all_below l.pair-index (is_pair l.pairs)
