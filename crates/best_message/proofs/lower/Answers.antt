use Rattle.std.proofs.Common.{arith}
use Rattle.best_message.proofs.Lowering.{left, low_already, less_all}
use Rattle.best_message.proofs.lower.Goals as goal

pub returns-then-since-lt32 : goal.returns-then-since-lt32
returns-then-since-lt32 c = left _ _ _ c.requires c.if-since-lt32.true

pub returns-then-first-le24 : goal.returns-then-first-le24
returns-then-first-le24 c = low_already _ _ _ c.requires (omega arith) c.if-first-le24.true

pub returns : goal.returns
returns c =
    let inv = c.loop-j.invariant in
    less_all _ _ _ _ c.requires (omega arith) (omega arith) inv.long (λ s h. inv.less s (omega arith))
    (λ i h. inv.rest i (omega arith))
