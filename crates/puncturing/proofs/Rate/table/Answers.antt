use Rattle.std.proofs.Common.{ap, ◌∙◌}
use Rattle.lists.proofs.Fill.{fill_new, fill_more, fill_all}
use Rattle.puncturing.specs.Block.{block_of, block_table}
use Rattle.puncturing.proofs.Picking.{picked_is_block}
use Rattle.puncturing.proofs.Tables.{legal_of, entry_of_legal, code_few, shifts_few, bases_few}
use Rattle.puncturing.proofs.Rate.table.Goals as goal

pub loop-i-init : goal.loop-i-init
loop-i-init c = (fill_new 24 _, fill_new 24 _)

pub loop-i-preserved : goal.loop-i-preserved
loop-i-preserved c =
    let inv = c.loop-i.invariant in (
      fill_more 24 _ inv.0 c.loop-i-test.true _ c.shift_of.ensures,
      fill_more 24 _ inv.1 c.loop-i-test.true _ c.base_of.ensures,
    )

pub loop-place-init : goal.loop-place-init
loop-place-init c = fill_new 112 _

pub kept_bits-requires : goal.kept_bits-requires
kept_bits-requires c =
    let inv = c.loop-i.invariant in (
      code_few _ c.code_table-code.ensures,
      shifts_few _ _ (fill_all 24 _ inv.0 c.loop-i-test.false),
      bases_few _ _ (fill_all 24 _ inv.1 c.loop-i-test.false),
    )

pub loop-place-preserved : goal.loop-place-preserved
loop-place-preserved c =
    let inv = c.loop-i.invariant in
    let legal = legal_of _ c.args.self.legal in
    fill_more 112 _ c.loop-place.invariant c.loop-place-test.true _
    (c.kept_bits.ensures
    ∙ picked_is_block legal _ _ _ _ c.code_table-code.ensures (fill_all 24 _ inv.0 c.loop-i-test.false)
    (fill_all 24 _ inv.1 c.loop-i-test.false) ∙ ap (block_of _) c.half_byte.ensures ∙ entry_of_legal legal _)

pub returns : goal.returns
unfolding block_table
returns c = fill_all 112 _ c.loop-place.invariant c.loop-place-test.false
