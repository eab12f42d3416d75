-- Where the sum was too large, 255 less is the exponent of the same power.
use Rattle.std.proofs.Common.{◌∙◌, ap, arith}
use Rattle.field.specs.Field.{power}
use Rattle.field.proofs.Product.{power_add}
use Rattle.reed_solomon.proofs.Exponents.{power_wrapped}
use Rattle.reed_solomon.proofs.tables.ExponentAdd.add.Goals.{then-sum-lt255, else-sum-lt255}
use Rattle.reed_solomon.proofs.tables.ExponentAdd.add.Goals as goal

pub returns : goal.returns
returns c =
    let l = c.args.self.value in
    let m = c.args.other.value in
    elim c.if-sum-lt255.branch [
      | then-sum-lt255 w ↦ ap (power 2) (c.new.ensures ∙ w.new-is) ∙ power_add 2 l m
      | else-sum-lt255 w ↦ ap (power 2) (c.new.ensures ∙ w.new-is) ∙ power_wrapped l m (omega arith)
    ]
