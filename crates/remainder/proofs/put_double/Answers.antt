use Rattle.std.proofs.Common.{ap, ◌∙◌, arith}
use Rattle.field.specs.Field.{double}
use Rattle.remainder.proofs.Putting.{put_none, put_more, put_all}
use Rattle.remainder.proofs.put_double.Goals as goal

pub loop-k-init : goal.loop-k-init
loop-k-init c = put_none _ _ _

pub loop-k-preserved : goal.loop-k-preserved
loop-k-preserved c =
    let at = c.loop-k in
    put_more _ _ _ at.invariant (omega (arith, c.told-table)) c.twice.result
    (c.twice.ensures ∙ ap double (at.invariant.before _ (omega arith)))

pub returns : goal.returns
returns c = put_all _ _ _ c.loop-k.invariant 256 (omega arith)
