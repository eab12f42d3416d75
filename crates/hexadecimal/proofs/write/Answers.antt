use Rattle.std.proofs.Common.{refl, arith, ◌∙◌}
use Rattle.lists.proofs.FillBack.{back_none, back_more, back_all}
use Rattle.hexadecimal.specs.Digits.{digits_of}
use Rattle.hexadecimal.proofs.Places.{rest_none, rest_more, digit_here}
use Rattle.hexadecimal.proofs.write.Goals as goal

pub loop-k-init : goal.loop-k-init
loop-k-init c = (rest_none _ _, back_none _ _ refl)

pub loop-k-preserved : goal.loop-k-preserved
loop-k-preserved c =
    let inv = c.loop-k.invariant in
    let some = c.loop-k-test.true in
    let few = c.loop-k.auto.k in (
      rest_more _ _ _ _ some few inv.0,
      back_more _ _ inv.1 some few _ (c.digit.ensures ∙ digit_here _ _ _ _ some few inv.0),
    )

pub returns : goal.returns
unfolding digits_of
returns c = back_all _ _ c.loop-k.invariant.1 (omega arith)
