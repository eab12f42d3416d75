use Rattle.std.proofs.Common.{refl, rules}
use Rattle.lists.specs.Tests.{all_below}
use Rattle.best_message.proofs.Accepting.{pairs_more}
use Rattle.best_message.proofs.are_pairs.Goals as goal

pub loop-pair-init : goal.loop-pair-init
unfolding all_below
loop-pair-init c = refl

pub loop-pair-preserved : goal.loop-pair-preserved
loop-pair-preserved c =
    let loop = c.loop-pair in
    pairs_more c.args.pairs.now loop.pair-index loop.highest _ loop.invariant (search rules)
