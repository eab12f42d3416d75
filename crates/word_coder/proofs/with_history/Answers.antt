use Rattle.word_coder.proofs.Placing.{history_copied}
use Rattle.word_coder.proofs.with_history.Goals as goal

pub returns : goal.returns
returns c = rw c.copy_from_slice.ensures.after (history_copied _ c.told-history)
