-- One error more is taken away, and all of them.
use Rattle.std.proofs.Common.{◌≡◌, ℕ, ◌+◌, ◌*◌, ◌-◌, ◌<◌, ◌∙◌, length, get_or, set, length-set, ap, sym, subst, inl, inr, arith}
use Rattle.field.specs.Field.{◌⊕◌, ◌⊗◌, power}
use Rattle.reed_solomon.proofs.Mending.{Mending, mending_none, mending_one, mending_all}
use Rattle.reed_solomon.proofs.SyndromeLaws.{syndromes_change}
use Rattle.reed_solomon.proofs.errors.mend.Goals.{then-e-ne0, else-e-ne0}
use Rattle.reed_solomon.proofs.errors.mend.Goals as goal

pub loop-a-init : goal.loop-a-init
loop-a-init c = (c.told-word, c.told-s, mending_none _ _ _ _, c.requires.1)

pub loop-a-preserved : goal.loop-a-preserved
unfolding ◌⊕◌
loop-a-preserved c =
    let at = c.loop-a in
    let s = c.args.s.now in
    let places = c.args.at.now in
    let q = c.from-q.result in
    let e : q ≡ get_or places at.a 0 = c.from-q.ensures in
    let small : q < 204 = omega (arith, c.requires.0.small at.a (omega arith)) in
    let v = c.error_at-e.result in
    let count = c.if-e-ne0.count in (
      simp length-set at.invariant.0,
      c.change.array_long,
      subst (λ (p : ℕ). Mending s places (length places) c.args.word.now (at.a + 1) count
          (set at.word (203 - p) (get_or at.word (203 - p) 0 ⊕ v))) (sym e)
          (mending_one s places (length places) c.args.word.now at.a at.count at.word c.requires.0 (omega arith)
          at.invariant.0 c.told-word at.invariant.2 v c.error_at-e.ensures count
          (elim c.if-e-ne0.branch [
            | then-e-ne0 w ↦ inl (w.if-e-ne0.true, w.count-is)
            | else-e-ne0 w ↦ inr (w.if-e-ne0.false, w.count-is)
          ])),
      syndromes_change at.word at.rest c.change.new.s q v at.invariant.0 small at.invariant.3
          (λ j h. c.change.ensures j h
          ∙ ap (λ (p : ℕ). get_or at.rest j 0 ⊕ power 2 (p * j) ⊗ v) c.new.ensures),
    )

pub returns : goal.returns
returns c =
    let at = c.loop-a in
    let e : at.a ≡ length c.args.at.now = omega arith in
    (mending_all _ _ _ _ _ _ c.requires.0 (rw e at at.invariant.2), at.invariant.3)
