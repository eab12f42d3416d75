use Rattle.settings_lines.proofs.Turns.{line_told}
use Rattle.settings_lines.proofs.NoRunLineAnswer.answer.Goals as goal

pub returns-clause-answered : goal.returns-clause-answered
returns-clause-answered c = λ room. line_told c.args.out.now room c.args.line.now _ c.answer_line.ensures.1
