use Rattle.std.proofs.Common.{◌∙◌}
use Rattle.bit_interleaver.proofs.Writing.{put_is_placed}
use Rattle.bit_interleaver.proofs.place.Goals as goal

pub returns : goal.returns
returns c = c.put.ensures ∙ put_is_placed _ _ _ _ _
