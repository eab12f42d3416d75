-- The first j entries are less what the row can spare, and the others are as they were.
use Rattle.std.proofs.Common.{◌≡◌, ℕ, ◌+◌, ◌-◌, ◌<◌, ◌≤◌, length, get_or}
use Rattle.best_message.proofs.lower.Given as goal

abbrev pub invariant-loop-j : goal.invariant-loop-j
invariant-loop-j l =
    record {
      long : length l.table ≡ length l.initial.table;
      less : (s : ℕ) → s < l.j → get_or l.table (l.at + s) 0 ≡ get_or l.initial.table (l.at + s) 0 - l.spare;
      rest : (i : ℕ) → l.at + l.j ≤ i → get_or l.table i 0 ≡ get_or l.initial.table i 0;
    }
