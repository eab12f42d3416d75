use Rattle.std.proofs.Common.{refl}
use Rattle.rules.proofs.Counts.{blocks_in}
use Rattle.word_coder.proofs.Numbers.{blocks_few}
use Rattle.word_coder.proofs.Blocks.count.Goals as goal

pub returns-clause-is : goal.returns-clause-is
returns-clause-is c = unfold blocks_in in refl

pub returns-clause-few : goal.returns-clause-few
returns-clause-few c = blocks_few _ _ c.args.self.least c.args.self.fewer
