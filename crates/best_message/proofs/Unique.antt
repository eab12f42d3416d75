-- Any two results that `best_message` allows are equal; and an accepted call's message is the best one by the rule.
--     answered_unique     the answer, the table and the message
--     answered_best       the message is that of a best one
use mathlib.Core.Path.{◌≡◌, sym, ◌∙◌}
use mathlib.Core.Bool.{Bool, true}
use mathlib.Core.List.{List, map}
use Prim.Native.Nat.{ℕ}
use Rattle.fewest.specs.Best.{bit, Best, best}
use Rattle.best_message.specs.Entry.{MessageFound}
use Rattle.fewest.proofs.Best.{best_is_best}
use Rattle.best_message.proofs.Accepting.{accepted_after}

module _ (pairs : List ℕ) (register : ℕ) (table message : List ℕ) where
  pub answered_unique : (table' message' table'' message'' : List ℕ) (r s : Bool)
      → MessageFound pairs register table message table' message' r
      → MessageFound pairs register table message table'' message'' s
      → (r ≡ s) × (table' ≡ table'') × (message' ≡ message'')
  answered_unique table' message' table'' message'' r s a b =
      (a.told ∙ sym b.told, a.table_left ∙ sym b.table_left, a.message_left ∙ sym b.message_left)

  pub answered_best : (table' message' : List ℕ) → MessageFound pairs register table message table' message' true
      → (message' ≡ map bit (best pairs register)) × Best pairs register (best pairs register)
  answered_best table' message' a = (
    a.message_left ∙ sym (accepted_after pairs register table message (sym a.told)).1,
    best_is_best pairs register,
  )
