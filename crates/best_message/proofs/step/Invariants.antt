-- The first k entries of both halves are right, and then the first 2 j entries of the row, with what lies behind the
-- row as it was.
use Rattle.std.proofs.Common.{◌≡◌, ℕ, ◌+◌, ◌*◌, ◌<◌, ◌≤◌, List, length, get_or, drop}
use Rattle.best_message.specs.Table.{packed, base}
use Rattle.best_message.proofs.step.Given as goal

-- an entry of the row is right
abbrev pub Right : List ℕ → ℕ → ℕ → ℕ → Type 0
Right pairs t s v = v + 2 * base (drop (t + 1) pairs) ≡ packed (drop t pairs) s

abbrev pub invariant-loop-k : goal.invariant-loop-k
invariant-loop-k l =
    record {
      even_long : length l.even ≡ 32;
      odd_long : length l.odd ≡ 32;
      even : (i : ℕ) → i < l.k → Right l.pairs l.t (2 * i) (get_or l.even i 0);
      odd : (i : ℕ) → i < l.k → Right l.pairs l.t (2 * i + 1) (get_or l.odd i 0);
    }

abbrev pub invariant-loop-j : goal.invariant-loop-j
invariant-loop-j l =
    record {
      long : length l.table ≡ length l.initial.table;
      row : (s : ℕ) → s < 2 * l.j → Right l.pairs l.t s (get_or l.table (64 * l.t + s) 0);
      kept : (i : ℕ) → 64 * l.t + 64 ≤ i → get_or l.table i 0 ≡ get_or l.initial.table i 0;
    }
