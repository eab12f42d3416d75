use Rattle.std.proofs.Common.{refl, arith}
use Rattle.text_lines.proofs.Answers.{told_put, told_as}
use Rattle.text_lines.proofs.frames.stop.Goals as goal

pub returns : goal.returns
returns g c = λ room.
    told_as refl c.end.ensures
    (told_put c.end.new.self c.args.out.now c.args.number _ _ _ (omega (arith, room)) c.put_answer.ensures.value
    c.put_answer.ensures.out_after)
