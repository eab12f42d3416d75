use Rattle.std.proofs.Common.{◌-◌, ℕ, ap, arith}
use Rattle.byte_interleaver.proofs.Taking.{ways_fit, some_waits, none_waits, newest_place}
use Rattle.byte_interleaver.proofs.Taking.{renewed_none, renewed_more, renewed_skip, renewed_all}
use Rattle.byte_interleaver.proofs.take_in.Goals as goal
use Rattle.byte_interleaver.proofs.take_in.Goals.{then-waits, else-waits}

pub loop-i-init : goal.loop-i-init
loop-i-init g c = renewed_none _ (ways_fit _) _ _ _ c.move_down.ensures

pub overflow_sub-first_of : goal.overflow_sub-first_of
overflow_sub-first_of g c =
    rw c.first_of.ensures
    (newest_place _ (ways_fit _) c.loop-i.i (omega arith) (some_waits c.waits.ensures c.if-waits.true)).0

pub put_newest-requires : goal.put_newest-requires
put_newest-requires g c =
    let place = newest_place _ (ways_fit _) c.loop-i.i (omega arith) (some_waits c.waits.ensures c.if-waits.true) in
    (omega (arith, c.first_of.ensures, place.1), omega arith)

pub loop-i-preserved : goal.loop-i-preserved
loop-i-preserved g c = elim c.if-waits.branch [
  | then-waits w ↦
      rw w.memory-is
      (renewed_more _ (ways_fit _) _ _ c.loop-i.i _ (omega arith) (some_waits c.waits.ensures w.if-waits.true)
      (ap (λ (n : ℕ). n - 17) w.first_of.ensures) _ _ c.loop-i.invariant w.put_newest.ensures)
  | else-waits w ↦
      rw w.memory-is
      (renewed_skip _ (ways_fit _) _ _ c.loop-i.i _ (none_waits c.waits.ensures w.if-waits.false) c.loop-i.invariant)
]

pub returns : goal.returns
returns g c = renewed_all _ (ways_fit _) _ _ c.loop-i.i _ (omega arith) c.loop-i.invariant
