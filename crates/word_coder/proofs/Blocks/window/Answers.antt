use Rattle.word_coder.proofs.Windows.{window_of}
use Rattle.word_coder.proofs.Blocks.window.Goals as goal

pub returns : goal.returns
returns c = window_of _ c.args.self.most _ _ _ c.five_bytes-bits.ensures
