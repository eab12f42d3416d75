-- One syndrome more, and all of them.
use Rattle.std.proofs.Common.{◌≡◌, ℕ, ◌+◌, ◌*◌, ◌∙◌, sym, ap, ap₂, arith}
use native.Mathlib.Nat.{mul-add}
use Rattle.field.specs.Field.{◌⊕◌, ◌⊗◌, power}
use Rattle.field.proofs.Product.{power_add}
use Rattle.reed_solomon.proofs.Fills.{stored}
use Rattle.reed_solomon.proofs.syndromes.change.Goals as goal

pub loop-entry-preserved : goal.loop-entry-preserved
unfolding ◌⊕◌
loop-entry-preserved c =
    let at = c.loop-entry in
    let q = c.args.q.value in
    let i = at.entry-index in
    let one : q * i + q * 1 ≡ q * i + q = omega arith in (
      c.add-l.ensures ∙ ap (λ (x : ℕ). x ⊗ power 2 q) at.invariant.0 ∙ sym (power_add 2 (q * i) q)
          ∙ ap (power 2) (sym (mul-add q i 1 ∙ one)),
      stored _ _ i at.s _ (omega arith)
          (ap₂ (λ (u v : ℕ). u ⊕ v) (at.invariant.1.left i (omega arith))
          (c.times.ensures ∙ ap (λ (p : ℕ). p ⊗ c.args.e) at.invariant.0)) at.invariant.1,
    )
