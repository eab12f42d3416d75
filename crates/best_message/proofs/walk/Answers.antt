use Rattle.std.proofs.Common.{ℕ, ◌≡◌, ◌+◌, ◌*◌, ◌<◌, List, drop, refl, arith}
use Prim.Native.Nat.{zero-le}
use lib.ListN.{length-set}
use Rattle.best_message.specs.Table.{base}
use Rattle.best_message.proofs.Walking.{walk_turn, walk_next, walk_end}
use Rattle.best_message.proofs.walk.Goals as goal

pub loop-t-init : goal.loop-t-init
loop-t-init c =
    let place : 64 * 0 + c.args.start ≡ c.args.start = omega arith in
    let row = rw place at (c.requires.row 0 zero-le c.args.start c.requires.register) in
    record { small = c.requires.register; long = refl; first = omega arith; whole = refl }

pub loop-t-preserved : goal.loop-t-preserved
loop-t-preserved c =
    let l = c.loop-t in
    let pairs : List ℕ = c.args.pairs.now in
    let better : l.better < 2 = let e = l.invariant.first in omega arith in
    rw c.from.ensures
    record {
      small = omega arith;
      long = simp length-set l.invariant.long;
      first =
          walk_next pairs c.args.table.now l.t _ _ (base (drop (l.t + 1) pairs)) _
          (c.requires.row (l.t + 1) (omega arith)) l.invariant.small better c.picked-better.ensures;
      whole =
          walk_turn _ l.message l.t _ _ _ c.loop-t-test.true (omega arith) l.invariant.first l.invariant.whole;
    }

pub returns : goal.returns
returns c = walk_end _ _ _ _ _ c.loop-t-test.false (omega arith) c.loop-t.invariant.whole
