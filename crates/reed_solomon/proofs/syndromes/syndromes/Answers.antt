-- One byte more, and all of them.
use Rattle.std.proofs.Common.{arith}
use Rattle.field.specs.Field.{value}
use Rattle.remainder.proofs.Zeros.{zeros_at}
use Rattle.reed_solomon.proofs.SyndromeLaws.{syndromes_more}
use Rattle.reed_solomon.proofs.syndromes.syndromes.Goals as goal

pub loop-byte-init : goal.loop-byte-init
unfolding value
loop-byte-init c = λ j h. zeros_at 16 j

pub loop-byte-preserved : goal.loop-byte-preserved
loop-byte-preserved c =
    let at = c.loop-byte in
    syndromes_more c.args.rest.now at.s c.turned-s.result at.byte-index (omega arith) (c.fits-rest at.byte-index)
    at.invariant c.turned-s.ensures
