-- One term more, and all of them.
use Rattle.std.proofs.Common.{ℕ, ◌+◌, ◌*◌, refl, ap, get_or}
use Rattle.reed_solomon.specs.Rows.{total}
use Rattle.reed_solomon.proofs.Searching.{total_more}
use Rattle.reed_solomon.proofs.roots.value.Goals as goal

pub loop-k-init : goal.loop-k-init
unfolding total
loop-k-init c = refl

pub loop-k-preserved : goal.loop-k-preserved
loop-k-preserved c =
    let k = c.loop-k.k in
    total_more _ k c.loop-k.v _ c.loop-k.invariant
    (ap (λ (e : ℕ). get_or c.args.table.now (e + k * c.args.j) 0) c.from.ensures)
