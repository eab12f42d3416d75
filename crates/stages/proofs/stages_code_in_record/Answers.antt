use Rattle.layers.proofs.Entries.{at_door}
use Rattle.coding_answers.specs.Layers.{coding_kind}
use Rattle.stages.proofs.stages_code_in_record.Goals as goal

pub returns : goal.returns
returns c = at_door coding_kind _ _ _ _ _ _ c.read-record.ensures c.code-answer.ensures _ c.number.ensures _ c.put.ensures
