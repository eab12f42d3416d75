-- `receiver::frame::give_from` meets its contract.
use Prim.Native.Nat.{ℕ, ◌+◌, ◌-◌, ◌*◌}
use native.Mathlib.Omega.{arith}
use borrow.Author.Rules.{rules}
use Rattle.receiver.proofs.Giving.{handed_over, handed_slot}
use Rattle.receiver.proofs.frame.give_from.Statement.{statement}
use Rattle.receiver.proofs.frame.give_from.Tie as tie

pub give_from_spec : {M : Type 1} → statement M
give_from_spec =
    tie.close (tie.spec (λ c. search rules) (λ c. search rules) (λ c. search rules) (λ c. search rules)
    (λ c. search rules) (λ c κs. search rules) (λ c. search rules)
    (λ c. let a : ℕ = 189 * (c.args.n - c.args.passed) in
    handed_slot c.args.passed c.args.n _ _ (a + 189 - a) _ c.if-passed-n.true
    (omega arith) c.requires.1 c.give.ensures.0 c.give.ensures.1)
    (λ c. handed_over _ _ _ _ (omega arith)))
