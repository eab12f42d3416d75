-- `coding::run`: the areas of the line and of the answer are as long as the definitions say.
use Rattle.std.proofs.Common.{◌∙◌, arith}
use Rattle.coding_lines.specs.Laws.{room_is, answer_room_is}
use Rattle.line_programs.proofs.Areas.{own_run}
use Rattle.coding.proofs.run.Goals as goal

pub returns : goal.returns
returns c = c.run_in_own_areas.ensures ∙ own_run _ _ _ _ room_is answer_room_is (omega arith) (omega arith)
