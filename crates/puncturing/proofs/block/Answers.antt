use Rattle.puncturing.proofs.Tables.{three_more}
use Rattle.puncturing.proofs.block.Goals as goal

pub returns : goal.returns
returns c =
    three_more c.args.table.now c.args.bits _ _ _ _ c.lower.ensures c.low.ensures.0
    c.low-2.ensures.0 c.low-3.ensures.0
