-- One index more, and all of them.
use Rattle.std.proofs.Common.{arith}
use Rattle.reed_solomon.proofs.Searching.{terms_step}
use Rattle.reed_solomon.proofs.roots.step.Goals as goal

pub returns : goal.returns
returns c = λ l q. terms_step l c.args.e.now c.loop-k.n q (λ k h. c.loop-k.invariant.1.done k (omega arith))
