use Rattle.std.proofs.Common.{arith, refl}
use Rattle.rules.specs.Bytes.{word_out}
use Rattle.lists.proofs.Fill.{fill_new, fill_step, fill_at, fill_all}
use Rattle.byte_interleaver.proofs.word_out.Goals as goal

pub loop-t-init : goal.loop-t-init
loop-t-init g c = fill_new 204 _

pub loop-i-init : goal.loop-i-init
loop-i-init g c = fill_at 204 _ c.loop-t.invariant _ (omega arith)

pub loop-i-preserved : goal.loop-i-preserved
loop-i-preserved g c =
    let filled = fill_step 204 _ c.loop-i.invariant _ _ refl (omega arith) c.out_byte.ensures in
    fill_at 204 _ filled _ (omega arith)

pub loop-t-preserved : goal.loop-t-preserved
loop-t-preserved g c = fill_at 204 _ c.loop-i.invariant _ (omega arith)

pub returns : goal.returns
returns g c = unfold word_out in fill_all 204 _ c.loop-t.invariant (omega arith)
