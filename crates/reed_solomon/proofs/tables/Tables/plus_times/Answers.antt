-- A product with 0 is 0.
use Rattle.std.proofs.Common.{ℕ, sym, ap, ◌∙◌}
use Rattle.field.specs.Field.{◌⊕◌, ◌⊗◌, power}
use Rattle.field.proofs.Sum.{⊕-zero}
use Rattle.field.proofs.Product.{⊗-zero}
use Rattle.reed_solomon.proofs.tables.Tables.plus_times.Goals as goal

pub returns-then-b-eq0 : goal.returns-then-b-eq0
returns-then-b-eq0 c =
    let p = power 2 c.args.l.value in
    sym (ap (λ (b : ℕ). c.args.a ⊕ p ⊗ b) c.if-b-eq0.true ∙ ap (λ (x : ℕ). c.args.a ⊕ x) (⊗-zero p) ∙ ⊕-zero c.args.a)

pub returns : goal.returns
unfolding ◌⊕◌
returns c =
    let p = power 2 c.args.l.value in
    ap (λ (x : ℕ). c.args.a ⊕ x)
    (c.power.ensures ∙ c.add.ensures ∙ ap (λ (b : ℕ). p ⊗ b) c.logarithm.ensures)
