use Rattle.std.proofs.Common.{sym, ap, ◌∙◌}
use Rattle.text_lines.proofs.Begins.{first_refused, first_taken}
use Rattle.text_lines.proofs.Answers.{told_nothing, told_as}
use Rattle.text_lines.proofs.frames.first.Goals as goal

pub returns-then-begun-ne0 : goal.returns-then-begun-ne0
returns-then-begun-ne0 g c = λ room.
    let is = first_refused _ _ _ _ c.begin-begun.ensures.0 c.if-begun-ne0.true in
    told_as is.0 is.1 (c.stop.ensures room)

pub returns : goal.returns
returns g c = λ room.
    let begun = c.begin-begun.ensures in
    let is = first_taken _ _ _ (sym begun.0 ∙ c.if-begun-ne0.false) in
    told_as is.0 (c.begin.ensures ∙ ap (g.R.FrameWork.begun c.args.run.now) begun.1 ∙ is.1)
    (told_nothing _ c.args.out.now)
