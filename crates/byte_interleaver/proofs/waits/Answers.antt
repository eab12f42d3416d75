use Rattle.byte_interleaver.proofs.Taking.{back_waits, there_waits}
use Rattle.byte_interleaver.proofs.waits.Goals as goal

pub returns-then-this-ne0 : goal.returns-then-this-ne0
returns-then-this-ne0 g c = back_waits g.row.BACK c.args.i c.if-this-ne0.true c.requires

pub returns : goal.returns
returns g c = there_waits g.row.BACK c.args.i c.if-this-ne0.false
