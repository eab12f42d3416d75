-- The rows from t on are right, row t low enough for the steps since it was lowered, and what lies behind the last row
-- is as it was.
use Rattle.std.proofs.Common.{◌≡◌, ℕ, ◌+◌, ◌*◌, ◌-◌, ◌%◌, ◌≤◌, List, length, get_or, drop}
use Rattle.best_message.specs.Table.{base}
use Rattle.best_message.specs.Steps.{CostRow, Under}
use Rattle.best_message.proofs.fill.Given as goal

abbrev pub Right : List ℕ → ℕ → List ℕ → Type 0
Right pairs u table = CostRow pairs u (base (drop u pairs)) table

abbrev pub invariant-loop-t : goal.invariant-loop-t
invariant-loop-t l =
    record {
      inside : l.t ≤ length l.pairs;
      long : length l.table ≡ length l.initial.table;
      count : l.since ≡ (length l.pairs - l.t) % 32;
      under : Under l.table (64 * l.t) (49 + 4 * l.since);
      right : (u : ℕ) → l.t ≤ u → u ≤ length l.pairs → Right l.pairs u l.table;
      kept : (i : ℕ) → 64 * length l.pairs + 64 ≤ i → get_or l.table i 0 ≡ get_or l.initial.table i 0;
    }
