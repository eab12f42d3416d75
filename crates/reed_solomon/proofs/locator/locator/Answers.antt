-- Nine rows cannot all join: there are eight places.
use Rattle.std.proofs.Common.{ℕ, suc, ◌∙◌, get_or, refl, ap, sym, subst, add-one, arith, rules}
use Rattle.reed_solomon.specs.Rows.{Basis, held, Joined, Vanished}
use Rattle.reed_solomon.proofs.Inserting.{basis_none, held_le}
use Rattle.reed_solomon.proofs.Starting.{started, located}
use Rattle.reed_solomon.proofs.locator.locator.Goals as goal

pub loop-i-init : goal.loop-i-init
unfolding held
loop-i-init c = (refl, basis_none _ _, refl)

pub returns-then-not-insert : goal.returns-then-not-insert
returns-then-not-insert c =
    let at = c.loop-i in
    let s = c.args.s.now in
    let left = c.insert.new.row in
    let monic = started c.args.s.now at.i _ c.loop-i-test.true c.fits-s c.copy_from_slice.ensures.len
    c.copy_from_slice.ensures.after in
    let gone : Vanished _ at.basis left = c.if-not-insert.ensures in
    let n = gone.to (λ j. get_or s j 0) at.i (omega arith) at.invariant.1 monic in
    located s c.coefficients.result left at.i (omega arith) (search rules) n.0 n.1 c.coefficients.ensures
    (λ p. search rules)

pub loop-i-preserved : goal.loop-i-preserved
loop-i-preserved c =
    let at = c.loop-i in
    let s : ℕ → ℕ = λ j. get_or c.args.s.now j 0 in
    let basis = c.insert.new.basis in
    let monic = started c.args.s.now at.i _ c.loop-i-test.true c.fits-s c.copy_from_slice.ensures.len
    c.copy_from_slice.ensures.after in
    let more : Joined _ at.basis basis = c.if-not-insert.ensures in (
      c.insert.array_long,
      subst (λ (n : ℕ). Basis s n basis) (sym (add-one at.i))
          (more.pivots s at.i (omega arith) at.invariant.1 monic),
      more.grown ∙ ap suc at.invariant.2 ∙ sym (add-one at.i),
    )

pub unreachable-requires : goal.unreachable-requires
unreachable-requires c = omega (arith, held_le c.loop-i.basis)
