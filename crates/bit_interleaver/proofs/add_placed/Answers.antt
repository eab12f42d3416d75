use Rattle.std.proofs.Common.{◌∙◌}
use Rattle.bit_interleaver.proofs.Writing.{put_is_added}
use Rattle.bit_interleaver.proofs.add_placed.Goals as goal

pub returns : goal.returns
returns c = c.put.ensures ∙ put_is_added _ _ _ _ _
