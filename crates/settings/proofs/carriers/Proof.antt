-- `settings::carriers` meets its contract.
use mathlib.Core.Path.{sym}
use Prim.Native.Nat.{ℕ, ◌*◌, ◌≤◌}
use native.Mathlib.Nat.{mul-le-mul}
use native.Mathlib.Omega.{arith}
use borrow.Author.Rules.{rules}
use Rattle.settings.specs.Sizes.{C}
use Rattle.settings.proofs.Sizes.{mode_few, carriers_accepted, carriers_refused}
use Rattle.settings.proofs.carriers.Statement.{statement}
use Rattle.settings.proofs.carriers.Tie as tie

few : (double segments : ℕ) → double ≤ 4 → segments ≤ 255 → 96 * double * segments ≤ 97920
few double segments d s =
    let e : 96 * double ≤ 384 = omega arith in
    let m : 96 * double * segments ≤ 384 * 255 = mul-le-mul e s in
    omega arith

pub carriers_spec : {M : Type 1} → statement M
carriers_spec =
    tie.close (tie.spec (λ c κs. search rules)
    (λ c κs. mode_few _ _ c.accepted.ensures c.if-accepted.true) (λ c. search rules)
    (λ c κs. search rules)
    (λ c. let m = few c.doublings.result c.from.result c.doublings.ensures.1
    (omega arith) in omega arith)
    (λ c. let m = few c.doublings.result c.from.result c.doublings.ensures.1
    (omega arith) in omega arith)
    (λ c. unfold C in
    rw (c.doublings.ensures.0, c.from.ensures)
    (sym (carriers_accepted _ _ c.accepted.ensures c.if-accepted.true)))
    (λ c. sym (carriers_refused _ _ c.accepted.ensures c.if-accepted.false)))
