use Rattle.std.proofs.Common.{rules}
use Rattle.word_coder.proofs.Windows.{five_bytes_is}
use Rattle.word_coder.proofs.five_bytes.Goals as goal

pub returns : goal.returns
returns c =
    five_bytes_is c.args.stream.now c.args.k _ _ _ _ _ (c.from.ensures, search rules)
    (c.from-2.ensures, search rules) (c.from-3.ensures, search rules) (c.from-4.ensures, search rules)
    (c.from-5.ensures, search rules)
