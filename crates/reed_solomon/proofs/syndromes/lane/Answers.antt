-- The bits 0 to 3 and the bits 4 to 7 of c.
use Rattle.std.proofs.Common.{ℕ, ap₂, ◌∙◌, arith}
use Rattle.field.specs.Field.{◌⊕◌}
use Rattle.reed_solomon.proofs.SyndromeLaws.{lane_halves}
use Rattle.reed_solomon.proofs.syndromes.lane.Goals as goal

pub returns : goal.returns
unfolding ◌⊕◌
returns c =
    let tables = c.args.tables.now in
    ap₂ (λ (x y : ℕ). x ⊕ y) c.half.ensures c.half-2.ensures
    ∙ lane_halves c.args.c c.args.k tables.powers (omega arith) c.requires tables.are_powers
