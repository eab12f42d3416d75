use Rattle.std.proofs.Common.{sym, arith, rules}
use Rattle.lists.proofs.Firsts.{first_is, first_none}
use Rattle.sync_bytes.proofs.first_lacking.Goals as goal

pub returns-then-lacks : goal.returns-then-lacks
returns-then-lacks c =
    sym (first_is _ _ c.loop-p.p record {
      below = c.loop-p-test.true;
      fails = search rules;
      passes = c.loop-p.invariant.1;
    })

pub returns : goal.returns
returns c = sym (first_none _ _ (λ k lt. c.loop-p.invariant.1 k (omega arith)))
