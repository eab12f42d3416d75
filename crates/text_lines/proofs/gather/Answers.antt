-- `text_lines::gather` meets its contract, by what is held of a line that goes on.
use mathlib.Core.Path.{◌≡◌}
use native.Mathlib.Omega.{arith}
use lib.ListN.{length}
use borrow.Author.Count.{below_more}
use Rattle.text_lines.proofs.Places.{front_found, front_none, held_start, held_more, held_full}
use Rattle.text_lines.proofs.Places.{held_long, held_as, cut_found, cut_none}
use Rattle.text_lines.proofs.gather.Goals.{then-count-room, else-count-room}
use Rattle.text_lines.proofs.gather.Goals as goal

pub loop-i-init : goal.loop-i-init
loop-i-init c = ((λ k lt. absurd (omega arith)), held_start _ _ _ _ c.least-count.ensures)

pub returns-then-text-i-eq10 : goal.returns-then-text-i-eq10
returns-then-text-i-eq10 c =
    let loop = c.loop-i in
    cut_found _ _ _ loop.i _ _ loop.invariant.1 (omega arith)
    (front_found _ loop.i (omega arith) loop.invariant.0 c.if-text-i-eq10.true)

pub loop-i-preserved : goal.loop-i-preserved
loop-i-preserved c =
    let loop = c.loop-i in
    let held = loop.invariant.1 in
    let long = held_long _ _ _ loop.i _ _ held in (
      below_more _ _ loop.invariant.0 c.if-text-i-eq10.false,
      elim c.if-count-room.branch [
        | then-count-room w ↦
            held_as _ _ _ _ _ _
            (held_more _ _ _ loop.i _ _ (omega arith) held (omega (arith, long, w.if-count-room.true))) _ _
            w.count-is w.line-is
        | else-count-room w ↦
            held_as _ _ _ _ _ _
            (held_full _ _ _ loop.i _ _ (omega arith) held (omega (arith, long, w.if-count-room.false))) _ _
            w.count-is w.line-is
      ],
    )

pub returns : goal.returns
returns c =
    let loop = c.loop-i in
    let text = c.args.text.now in
    let all : loop.i ≡ length text = omega arith in
    cut_none _ _ text loop.i _ _ loop.invariant.1 all
    (front_none text (λ k lt. loop.invariant.0 k (omega arith)))
