-- 2 to the 0 is 1, and 2 to the 255 too.
use Rattle.std.proofs.Common.{ℕ, ◌∙◌, ap, ap₂, arith}
use Rattle.field.specs.Field.{◌⊗◌, power}
use Rattle.field.proofs.Product.{one-⊗}
use Rattle.reed_solomon.proofs.Exponents.{power_negated}
use Rattle.reed_solomon.proofs.tables.ExponentNeg.neg.Goals.{then-self-eq0, else-self-eq0}
use Rattle.reed_solomon.proofs.tables.ExponentNeg.neg.Goals as goal

pub returns : goal.returns
returns c =
    let l = c.args.self.value in
    elim c.if-self-eq0.branch [
      | then-self-eq0 w ↦ unfold power in
          ap₂ (λ (m n : ℕ). power 2 m ⊗ power 2 n) w.if-self-eq0.true (c.new.ensures ∙ w.new-is) ∙ one-⊗ 1 (omega arith)
      | else-self-eq0 w ↦
          ap (λ (n : ℕ). power 2 l ⊗ power 2 n) (c.new.ensures ∙ w.new-is) ∙ power_negated l (omega arith)
    ]
