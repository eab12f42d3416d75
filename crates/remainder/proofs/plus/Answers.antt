use Rattle.std.proofs.Common.{refl, arith}
use Rattle.field.specs.Field.{◌⊕◌}
use Rattle.lists.proofs.Fill.{fill_new, fill_more, fill_all}
use Rattle.remainder.proofs.plus.Goals as goal

pub loop-k-init : goal.loop-k-init
loop-k-init c = fill_new 16 _

pub loop-k-preserved : goal.loop-k-preserved
unfolding ◌⊕◌
loop-k-preserved c = fill_more 16 _ c.loop-k.invariant (omega arith) _ refl

pub returns : goal.returns
returns c = fill_all 16 _ c.loop-k.invariant (omega arith)
