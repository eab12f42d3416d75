-- `receiver::frame::give` meets its contract.
use mathlib.Core.Path.{◌∙◌, subst}
use mathlib.Core.List.{List}
use Prim.Native.Nat.{ℕ}
use borrow.Author.Rules.{rules}
use Rattle.nearest.specs.Slot.{Slot}
use Rattle.receiver.proofs.Giving.{given_slot, front_is}
use Rattle.receiver.proofs.frame.give.Statement.{statement}
use Rattle.receiver.proofs.frame.give.Tie as tie

same_length : tie.Need-shape_of-slot
same_length c = search rules

returns : tie.Need-returns
returns c = (
  subst (λ (l : List ℕ). Slot l c.give.new.slot) (front_is _ _ c.disperse-opened.ensures)
      (given_slot c.give.ensures (search rules) c.requires),
  same_length c ∙ c.requires,
)

pub give_spec : {M : Type 1} → statement M
give_spec =
    tie.close (tie.spec (λ c κs. search rules) (λ c. search rules) (λ c. search rules) (λ c. search rules)
    (λ c κs. search rules) same_length returns)
