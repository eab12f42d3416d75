use Rattle.layers.proofs.Entries.{at_door}
use Rattle.coding_answers.specs.Layers.{coding_kind}
use Rattle.warintaya.proofs.warintaya_disperse_interleave.Goals as goal

pub returns : goal.returns
returns c = at_door coding_kind _ _ _ _ _ _ c.read-record.ensures c.disperse_interleave-answer.ensures _ c.number.ensures _ c.put.ensures
