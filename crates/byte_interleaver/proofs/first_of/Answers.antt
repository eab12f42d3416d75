use Rattle.byte_interleaver.proofs.Taking.{first_way_back, first_way_there}
use Rattle.byte_interleaver.proofs.first_of.Goals as goal

pub returns-then-this-ne0 : goal.returns-then-this-ne0
returns-then-this-ne0 g c = first_way_back g.row.BACK c.args.i c.if-this-ne0.true c.requires

pub returns : goal.returns
returns g c = first_way_there g.row.BACK c.args.i c.if-this-ne0.false c.requires
