-- Where there is no row yet, this one joins; else the row there takes the image away.
use Rattle.std.proofs.Common.{ℕ, ◌∙◌, length, get_or, ap, sym, arith}
use Rattle.field.specs.Field.{◌⊕◌, ◌⊗◌, power}
use Rattle.field.proofs.Product.{power_lt}
use Rattle.reed_solomon.proofs.Inserting.{reduced_skip, reduced_more, reduced_all, joined}
use Rattle.reed_solomon.proofs.locator.insert.Goals.{then-row-c-ne0+in-Some, else-row-c-ne0}
use Rattle.reed_solomon.proofs.locator.insert.Goals as goal

pub returns-in_default : goal.returns-in_default
returns-in_default c =
    let at = c.loop-c in
    let f = power 2 c.neg.result.value in
    rw (← at.invariant.2)
    (joined _ _ at.c _ (omega arith) at.invariant.3 c.scaled.result f at.invariant.0 c.in_default.is
    (ap (λ (x : ℕ). x ⊗ f) (sym c.logarithm-l.ensures) ∙ c.neg.ensures) c.scaled.ensures)

pub loop-c-preserved : goal.loop-c-preserved
loop-c-preserved c =
    let at = c.loop-c in
    elim c.if-row-c-ne0.branch [
      | then-row-c-ne0+in-Some w ↦
          let pivot = w.in-Some.pivot in (
            at.invariant.0,
            ap length w.row-is ∙ w.reduce.array_long,
            at.invariant.2,
            rw w.row-is
                (reduced_more _ _ at.c at.row (omega arith) at.invariant.3 w.reduce.new.row pivot
                (omega (arith, w.logarithm-l.ensures, power_lt 2 w.logarithm-l.result.value)) w.in-Some.is
                (λ n h. w.reduce.ensures n h
                ∙ ap (λ (x : ℕ). get_or at.row n 0 ⊕ x ⊗ get_or pivot n 0) w.logarithm-l.ensures)),
          )
      | else-row-c-ne0 w ↦ (
        at.invariant.0,
        ap length w.row-is ∙ at.invariant.1,
        at.invariant.2,
        rw w.row-is (reduced_skip _ _ at.c _ (omega arith) at.invariant.3 w.if-row-c-ne0.false),
      )
    ]

pub returns : goal.returns
returns c =
    let at = c.loop-c in
    rw (← at.invariant.2) (reduced_all _ _ at.c _ (omega arith) at.invariant.3)
