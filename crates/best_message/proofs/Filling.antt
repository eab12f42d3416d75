-- The table that `fill` leaves is `table_of`.
use mathlib.Core.Path.{◌≡◌, ap, ◌∙◌}
use mathlib.Core.Logic.{⊎_elim}
use mathlib.Core.List.{List}
use Prim.Native.Nat.{ℕ, ◌+◌, ◌*◌, ◌/◌, ◌%◌, ◌≤◌, ◌<◌}
use native.Mathlib.Omega.{arith}
use lib.ListN.{length, get_or, drop}
use borrow.Author.Tests.{lt-ltb, le-ltb}
use Rattle.lists.proofs.Tabs.{tab_ext}
use Rattle.best_message.specs.Table.{entry, table_of}
use Rattle.best_message.specs.Steps.{Filled}
use Rattle.fewest.proofs.Best.{le_or_lt}

module _ (pairs before table : List ℕ) (r : Filled pairs before table) where
  inside : (place : ℕ) → place < 64 * length pairs + 64
      → get_or table place 0 ≡ entry (drop (place / 64) pairs) (place % 64)
  inside place h =
      unfold entry in let e : place ≡ 64 * (place / 64) + place % 64 = omega arith in
      let row = r.row (place / 64) (omega arith) (place % 64) (omega arith) in
      ap (λ (i : ℕ). get_or table i 0) e ∙ (omega arith)

  pub table_of_is : table ≡ table_of pairs before
  table_of_is =
      unfold table_of in tab_ext (length before) _ table r.long (λ place lt. ⊎_elim
      (λ (h : 64 * length pairs + 64 ≤ place). rw (le-ltb place (64 * length pairs + 64) h) (r.kept place h))
      (λ (h : place < 64 * length pairs + 64). rw (lt-ltb place (64 * length pairs + 64) h) (inside place h))
      (le_or_lt (64 * length pairs + 64) place))
