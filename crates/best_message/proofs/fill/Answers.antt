use Rattle.std.proofs.Common.{◌≡◌, ℕ, ◌+◌, ◌*◌, ◌-◌, List, drop, refl, ◌∙◌, arith}
use Rattle.best_message.specs.Table.{base}
use Rattle.best_message.proofs.Rows.{row_grown, near_above, near_below}
use Rattle.best_message.proofs.Lowering.{rows_last, rows_more, count_more}
use Rattle.best_message.proofs.fill.Goals as goal

pub loop-t-init : goal.loop-t-init
loop-t-init c =
    let cleared = c.clear.ensures in
    record {
      inside = omega arith;
      long = refl;
      count = omega arith;
      under = λ s h. omega (arith, cleared.zero s h);
      right = rows_last _ _ _ cleared;
      kept = λ i h. refl;
    }

-- the row behind the one that a turn makes is right, and low enough
pub step-requires : goal.step-requires
step-requires c =
    let l = c.loop-t in
    let on : 64 * (l.t - 1) + 64 ≡ 64 * l.t = omega arith in
    let same : l.t - 1 + 1 ≡ l.t = omega arith in
    record {
      right = c.requires.right;
      x_costs = c.digit_costs-x_costs.ensures;
      y_costs = c.digit_costs-y_costs.ensures;
      inside = omega arith;
      room = omega arith;
      behind = rw same (l.invariant.right l.t (omega arith) l.invariant.inside);
      under = rw on (λ s h. omega (arith, l.invariant.under s h));
    }

pub lower-since-requires : goal.lower-since-requires
lower-since-requires c =
    let l = c.loop-t in
    let stepped = c.step in
    let pairs : List ℕ = c.args.pairs.now in
    let t : ℕ = l.t - 1 in
    let table : List ℕ = stepped.new.table in
    let below : ℕ = base (drop (t + 1) pairs) in
    let row = stepped.ensures.row in
    let on : 64 * (l.t - 1) + 64 ≡ 64 * l.t = omega arith in
    let same : l.t - 1 + 1 ≡ l.t = omega arith in
    let grown =
    row_grown pairs l.table table t below (49 + 4 * l.since) (omega arith)
    (rw same (l.invariant.right l.t (omega arith) l.invariant.inside)) row (rw on l.invariant.under) in
    record {
      room = omega arith;
      above = λ s h. near_above pairs t table below row s h;
      below = λ s h. near_below pairs t table below row s h;
      soon = omega arith;
      under = λ s h. omega (arith, grown s h);
    }

pub loop-t-preserved : goal.loop-t-preserved
loop-t-preserved c =
    let l = c.loop-t in
    let some = c.loop-t-test.true in
    let stepped = c.step.ensures in
    let lowered = c.lower-since.ensures in
    let count = l.invariant.count in
    record {
      inside = omega arith;
      long = lowered.long ∙ stepped.long ∙ l.invariant.long;
      count = count_more _ _ _ _ _ _ _ (omega arith) stepped lowered (omega arith);
      under = lowered.under;
      right =
          rows_more _ _ _ _ _ _ _ (omega arith) stepped lowered (omega arith)
          (λ u h g. l.invariant.right u (omega arith) g);
      kept = λ i h. lowered.kept i (omega arith) ∙ stepped.kept i (omega arith) ∙ l.invariant.kept i h;
    }

pub returns : goal.returns
returns c =
    let l = c.loop-t in
    let cleared = c.clear.ensures in
    record {
      long = l.invariant.long ∙ cleared.long;
      row = λ t h. l.invariant.right t (omega arith) h;
      kept = λ i h. l.invariant.kept i h ∙ cleared.kept i h;
    }
