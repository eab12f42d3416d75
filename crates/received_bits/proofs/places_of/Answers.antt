use Rattle.std.proofs.Common.{arith}
use Rattle.lists.proofs.Fill.{fill_new, fill_more, fill_all}
use Rattle.received_bits.proofs.places_of.Goals as goal

pub loop-i-init : goal.loop-i-init
loop-i-init c = fill_new 48 _

pub loop-i-preserved : goal.loop-i-preserved
loop-i-preserved c = fill_more 48 _ c.loop-i.invariant (omega arith) _ c.digit_place.ensures

pub returns : goal.returns
returns c = fill_all 48 _ c.loop-i.invariant (omega arith)
