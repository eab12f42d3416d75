use Rattle.std.proofs.Common.{arith}
use Rattle.byte_interleaver.proofs.Taking.{newest_none, newest_more, newest_all}
use Rattle.byte_interleaver.proofs.put_newest.Goals as goal

pub loop-t-init : goal.loop-t-init
loop-t-init g c = newest_none _ _ _ _ c.told-memory

pub loop-t-preserved : goal.loop-t-preserved
loop-t-preserved g c = newest_more _ _ _ _ c.loop-t.invariant (omega arith) _ c.byte.ensures

pub returns : goal.returns
returns g c = newest_all _ _ _ _ c.loop-t.invariant 17 (omega arith)
