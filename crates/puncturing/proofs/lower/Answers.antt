use Rattle.puncturing.proofs.Tables.{four_entries}
use Rattle.puncturing.proofs.lower.Goals as goal

pub returns : goal.returns
returns c =
    four_entries c.args.table.now c.args.bits _ _ _ _ c.low.ensures.0
    c.low-2.ensures.0 c.low-3.ensures.0 c.low-4.ensures.0
