-- One entry more, and all of them.
use Rattle.std.proofs.Common.{ℕ, ap, arith}
use Rattle.field.specs.Field.{◌⊕◌}
use Rattle.lists.proofs.Fill.{fill_more}
use Rattle.reed_solomon.proofs.syndromes.turned.Goals as goal

pub loop-k-preserved : goal.loop-k-preserved
unfolding ◌⊕◌
loop-k-preserved c =
    let f = c.args.f in
    fill_more 16 _ c.loop-k.invariant (omega arith) _ (ap (λ (x : ℕ). f ⊕ x) c.lane.ensures)
