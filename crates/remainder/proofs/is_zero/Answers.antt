use Rattle.std.proofs.Common.{refl, arith}
use Rattle.remainder.specs.Remainder.{all_zero}
use Rattle.remainder.proofs.Zeros.{zero_more}
use Rattle.remainder.proofs.is_zero.Goals as goal

pub loop-byte-init : goal.loop-byte-init
unfolding all_zero
loop-byte-init c = refl

pub loop-byte-preserved : goal.loop-byte-preserved
loop-byte-preserved c =
    let at = c.loop-byte in
    zero_more c.args.bytes at.byte-index at.sum (omega arith) at.invariant
