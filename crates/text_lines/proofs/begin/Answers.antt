use Rattle.std.proofs.Common.{sym, ap, ◌∙◌}
use Rattle.text_lines.specs.First.{starting_number}
use Rattle.text_lines.proofs.Begins.{begun, begun_not}
use Rattle.text_lines.proofs.begin.Goals as goal

pub returns-in-Some : goal.returns-in-Some
returns-in-Some c =
    let read = c.in-Some.ensures in
    (c.starting_number.ensures ∙ ap starting_number read.written ∙ begun _ (sym read.formed), read.written)

pub returns-in-None : goal.returns-in-None
returns-in-None c =
    let read = c.in-None.ensures in
    (begun_not _ (sym read.formed), read.written)
