-- One place after the other is folded away, and at the end the error is the quotient.
use Rattle.std.proofs.Common.{◌≡◌, ℕ, ◌-◌, ◌<◌, ◌∙◌, length, ap, sym, subst, subst₂, arith}
use Rattle.field.specs.Field.{◌⊕◌, ◌⊗◌, power}
use Rattle.reed_solomon.proofs.Folding.{Folded, folded_none, folded_skip, folded_one, folded_all, left_one, places_apart}
use Rattle.reed_solomon.proofs.errors.error_at.Goals.{then-b-a, else-b-a}
use Rattle.reed_solomon.proofs.errors.error_at.Goals as goal

pub loop-b-init : goal.loop-b-init
loop-b-init c =
    let s = c.args.s.now in
    let at = c.args.at.now in (
      c.told-s,
      c.power-x.ensures ∙ ap (power 2) (c.new.ensures ∙ c.from.ensures),
      omega arith,
      subst (λ (d : ℕ). Folded s at c.args.a 0 d (length at) s) (sym c.new-d.ensures)
          (folded_none s at c.args.a (length at) (omega (arith, c.requires.0.few))),
    )

pub logarithm-requires : goal.logarithm-requires
unfolding ◌⊕◌
logarithm-requires c =
    let at = c.loop-b in
    subst₂ (λ (u v : ℕ). 0 < u ⊕ v) (sym at.invariant.1)
    (sym (c.power.ensures ∙ ap (power 2) (c.new-l.ensures ∙ c.from-then-b-a.ensures)))
    (places_apart _ _ _ at.b c.requires.0 c.requires.1 (omega arith) c.if-b-a.true)

pub loop-b-preserved : goal.loop-b-preserved
unfolding ◌⊕◌
loop-b-preserved c =
    let at = c.loop-b in
    let f = at.invariant.3 in
    elim c.if-b-a.branch [
      | then-b-a w ↦ (
        ap length w.t-is ∙ w.fold.array_long,
        at.invariant.1,
        left_one at.left _ _ at.b _ w.left-is w.if-b-a.true c.requires.1 (omega arith) at.invariant.2,
        rw (w.t-is, w.d-is, w.left-is)
            (folded_one _ _ _ _ _ _ _ f w.fold.new.t _ (power 2 w.new-l.result.value) w.add-d.result.value (at.left - 1)
            w.if-b-a.true (omega (arith, w.if-b-a.true)) at.invariant.1
            (ap (power 2) (w.new-l.ensures ∙ w.from-then-b-a.ensures))
            (w.add-d.ensures ∙ ap (λ (z : ℕ). power 2 at.d.value ⊗ z)
            (w.logarithm.ensures ∙ ap (λ (v : ℕ). c.power-x.result ⊕ v) w.power.ensures)) w.fold.ensures),
      )
      | else-b-a w ↦ (
        ap length w.t-is ∙ at.invariant.0,
        at.invariant.1,
        omega (arith, w.left-is, w.if-b-a.false),
        rw (w.t-is, w.d-is, w.left-is) (folded_skip _ _ _ _ _ _ _ f w.if-b-a.false),
      )
    ]

pub returns : goal.returns
returns c =
    let at = c.loop-b in
    let e : at.b ≡ length c.args.at.now = omega arith in
    folded_all _ _ _ _ _ at.left _ _ _ (c.requires.0.small _ c.requires.1) (omega (arith, c.requires.1))
    c.neg.ensures c.times.ensures (rw e at at.invariant.3)
