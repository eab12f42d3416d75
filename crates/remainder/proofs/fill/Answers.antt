use Rattle.std.proofs.Common.{refl, arith, rules}
use Rattle.remainder.proofs.Powers.{powers}
use Rattle.remainder.proofs.Putting.{put_none, put_more, put_all}
use Rattle.remainder.proofs.Filling.{low_zero, low_byte, high_zero, high_byte, table_filled}
use Rattle.remainder.proofs.fill.Goals as goal

pub loop-k-init : goal.loop-k-init
loop-k-init c = put_none _ _ _

pub loop-k-preserved : goal.loop-k-preserved
loop-k-preserved c = put_more _ _ _ c.loop-k.invariant (omega (arith, c.told-table)) _ refl

pub put_multiples-requires : goal.put_multiples-requires
unfolding powers
put_multiples-requires c =
    let low = put_all _ _ _ c.loop-k.invariant 256 (omega arith) in
    (search rules, low_zero _ _ c.requires low, low_byte _ _ c.requires low)

pub put_multiples-requires-2 : goal.put_multiples-requires-2
unfolding powers
put_multiples-requires-2 c =
    let low = put_all _ _ _ c.loop-k.invariant 256 (omega arith) in (
      search rules,
      high_zero _ _ c.requires low _ _ c.put_multiples.ensures c.put_double.ensures,
      high_byte _ _ c.requires low _ _ c.put_multiples.ensures c.put_double.ensures,
    )

pub returns : goal.returns
unfolding powers
returns c =
    let low = put_all _ _ _ c.loop-k.invariant 256 (omega arith) in
    table_filled _ _ c.requires low _ _ c.put_multiples.ensures c.put_double.ensures _ c.put_multiples-2.ensures
