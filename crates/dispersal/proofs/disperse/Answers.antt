use Rattle.std.proofs.Common.{ap, ◌∙◌}
use Rattle.dispersal.specs.Register.{sequence_from, added}
use Rattle.dispersal.proofs.Words.{dispersed_at}
use Rattle.dispersal.proofs.disperse.Goals as goal

pub returns : goal.returns
returns c =
    c.add.ensures
    ∙ ap (added c.args.word.now) (c.sequence-bytes.ensures ∙ ap sequence_from c.register_at.ensures)
    ∙ dispersed_at c.args.place c.args.word.now
