-- The four rows that are picked are the sum.
use Rattle.field.specs.Field.{◌⊕◌}
use Rattle.reed_solomon.proofs.SyndromeLaws.{picked}
use Rattle.reed_solomon.proofs.syndromes.half.Goals as goal

pub returns : goal.returns
unfolding ◌⊕◌
returns c =
    picked c.args.c c.args.k c.args.tables.now.powers _ _ _ _ c.pick.ensures c.pick-2.ensures c.pick-3.ensures
    c.pick-4.ensures
