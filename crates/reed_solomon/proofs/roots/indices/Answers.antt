-- One index more, and all of them.
use Rattle.std.proofs.Common.{arith}
use Rattle.reed_solomon.proofs.Searching.{terms_first}
use Rattle.reed_solomon.proofs.roots.indices.Goals as goal

pub returns : goal.returns
returns c = terms_first c.args.l.now c.loop-k.e c.fits-l (λ k h. c.loop-k.invariant.1.done k (omega arith))
