use Rattle.std.proofs.Common.{arith}
use Rattle.dispersal.proofs.Filling.{gone_none, gone_more, gone_end}
use Rattle.dispersal.proofs.go_on.Goals as goal

pub loop-j-init : goal.loop-j-init
loop-j-init g c = gone_none g.row.FAR g.row.NEAR c.args.bytes.now c.told-bytes

pub loop-j-preserved : goal.loop-j-preserved
loop-j-preserved g c =
    gone_more g.row.FAR g.row.NEAR c.args.bytes.now c.loop-j.j c.loop-j.bytes c.requires.near c.loop-j.auto.j
    (omega (arith, c.requires.room)) c.loop-j.invariant

pub returns : goal.returns
returns g c =
    gone_end g.row.FAR g.row.NEAR c.args.bytes.now c.loop-j.j c.args.end c.loop-j.bytes c.loop-j-test.false
    c.loop-j.invariant
