use Rattle.std.proofs.Common.{ℕ, ◌+◌, ◌*◌, ◌/◌, ◌%◌, List, get_or, ap, arith}
use lib.ListN.{length-set}
use Rattle.best_message.proofs.Spread.{there_bound}
use Rattle.best_message.proofs.Stores.{one_more}
use Rattle.best_message.proofs.Rows.{turn, turn_even, turn_odd}
use Rattle.best_message.proofs.step.Invariants.{Right}
use Rattle.best_message.proofs.step.Goals as goal

pub overflow_mul-both : goal.overflow_mul-both
overflow_mul-both c =
    let pair : ℕ = get_or c.args.pairs.now c.args.t 0 in
    let e = c.received-both.ensures in
    omega (arith, there_bound (pair / 3), there_bound (pair % 3))

pub overflow_add-zero_cost-in-loop-k-2 : goal.overflow_add-zero_cost-in-loop-k-2
overflow_add-zero_cost-in-loop-k-2 c =
    let h = turn _ _ _ _ _ c.requires _ c.loop-k-test.true in omega arith

pub overflow_sub-one_cost : goal.overflow_sub-one_cost
overflow_sub-one_cost c = let h = turn _ _ _ _ _ c.requires _ c.loop-k-test.true in omega arith

pub overflow_add-zero_cost-in-loop-k-3 : goal.overflow_add-zero_cost-in-loop-k-3
overflow_add-zero_cost-in-loop-k-3 c =
    let h = turn _ _ _ _ _ c.requires _ c.loop-k-test.true in omega arith

pub overflow_add-one_cost : goal.overflow_add-one_cost
overflow_add-one_cost c = let h = turn _ _ _ _ _ c.requires _ c.loop-k-test.true in omega arith

pub overflow_add-one_cost-in-loop-k : goal.overflow_add-one_cost-in-loop-k
overflow_add-one_cost-in-loop-k c =
    let h = turn _ _ _ _ _ c.requires _ c.loop-k-test.true in omega arith

pub overflow_add-zero_cost-in-loop-k-4 : goal.overflow_add-zero_cost-in-loop-k-4
overflow_add-zero_cost-in-loop-k-4 c =
    let h = turn _ _ _ _ _ c.requires _ c.loop-k-test.true in omega arith

pub loop-k-preserved : goal.loop-k-preserved
loop-k-preserved c =
    let pairs : List ℕ = c.args.pairs.now in
    let t = c.args.t in
    let loop = c.loop-k in
    let small = c.loop-k-test.true in
    let both = ap (λ (n : ℕ). 2 * n) c.received-both.ensures in
    record {
      even_long = simp length-set loop.invariant.even_long;
      odd_long = simp length-set loop.invariant.odd_long;
      even = one_more (λ i. Right pairs t (2 * i)) loop.even loop.k _ (omega arith) loop.invariant.even
          (turn_even _ _ _ _ _ c.requires _ small _ _ both c.min.ensures);
      odd = one_more (λ i. Right pairs t (2 * i + 1)) loop.odd loop.k _ (omega arith) loop.invariant.odd
          (turn_odd _ _ _ _ _ c.requires _ small _ _ both c.min-in-loop-k.ensures);
    }
