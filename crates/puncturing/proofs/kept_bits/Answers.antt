use Rattle.std.proofs.Common.{refl, arith}
use Rattle.lists.specs.Binary.{binary}
use Rattle.puncturing.proofs.Tables.{picked_small, picked_more, picked_all}
use Rattle.puncturing.proofs.kept_bits.Goals as goal

pub loop-i-init : goal.loop-i-init
unfolding binary
loop-i-init c = refl

pub overflow_mul-kept : goal.overflow_mul-kept
overflow_mul-kept c =
    let small = picked_small _ _ _ _ c.requires.0 c.loop-i.i c.loop-i.kept (omega arith) c.loop-i.invariant in
    omega arith

pub overflow_add-kept : goal.overflow_add-kept
overflow_add-kept c =
    let small = picked_small _ _ _ _ c.requires.0 c.loop-i.i c.loop-i.kept (omega arith) c.loop-i.invariant in
    omega (arith, c.from.type_inv, c.from.ensures, c.requires.0)

pub loop-i-preserved : goal.loop-i-preserved
loop-i-preserved c = rw c.from.ensures (picked_more _ _ _ _ _ _ c.loop-i.invariant)

pub returns : goal.returns
returns c = picked_all c.loop-i.i _ _ c.loop-i.invariant (omega arith)
