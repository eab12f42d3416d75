use Rattle.layers.proofs.Entries.{at_door}
use Rattle.receiving_answers.specs.Layers.{receiving_kind}
use Rattle.warintaya.proofs.warintaya_back.Goals as goal

pub returns : goal.returns
returns c =
    rw c.unwrap_or.ensures
    (at_door receiving_kind _ _ _ _ _ _ c.read-record.ensures c.back-answer.ensures _ c.number.ensures _ c.put.ensures)
