use Rattle.std.proofs.Common.{arith}
use Rattle.bit_interleaver.proofs.Gathering.{gathered_none, gathered_more, gathered_all, range_tested, limit_is, none_large}
use Rattle.bit_interleaver.proofs.too_large.Goals as goal

pub loop-carrier-init : goal.loop-carrier-init
loop-carrier-init c = gathered_none _ _

pub loop-carrier-preserved : goal.loop-carrier-preserved
loop-carrier-preserved c = gathered_more _ _ c.loop-carrier.carrier-index c.loop-carrier.all c.loop-carrier.invariant

pub returns-then-v-gt7 : goal.returns-then-v-gt7
returns-then-v-gt7 c =
    none_large _ _ c.loop-carrier.all (omega arith) (omega arith)
    (gathered_all _ _ _ c.loop-carrier.invariant _ (omega arith))

pub returns : goal.returns
returns c =
    rw (limit_is c.args.v (omega arith))
    (range_tested _ _ c.loop-carrier.all (gathered_all _ _ _ c.loop-carrier.invariant _ (omega arith)))
