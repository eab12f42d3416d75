use Rattle.std.proofs.Common.{arith}
use Rattle.remainder.proofs.Filling.{multiples_start, multiples_more, multiples_all}
use Rattle.remainder.proofs.put_multiples.Goals as goal

pub loop-n-init : goal.loop-n-init
loop-n-init c = multiples_start _ _ c.told-table c.requires.1 c.requires.2

pub loop-n-preserved : goal.loop-n-preserved
loop-n-preserved c =
    multiples_more c.args.at c.args.table.now c.loop-n.n (omega arith) (omega arith)
    c.loop-n.table c.put_double.new.table c.put_sum.new.table c.loop-n.invariant
    c.put_double.ensures c.put_sum.ensures

pub returns : goal.returns
returns c = multiples_all _ _ _ c.loop-n.n (omega arith) c.loop-n.invariant
