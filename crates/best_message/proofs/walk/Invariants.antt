-- The bits written, and the best message from the present register on, are the whole best message; and the present
-- better bit is its first.
use Rattle.std.proofs.Common.{◌≡◌, ◌<◌, ◌%◌, length, take, drop, map, ◌++◌}
use Rattle.fewest.specs.Best.{bit, best}
use Rattle.best_message.specs.Table.{packed}
use Rattle.best_message.proofs.walk.Given as goal

abbrev pub invariant-loop-t : goal.invariant-loop-t
invariant-loop-t l =
    record {
      small : l.register < 64;
      long : length l.message ≡ length l.initial.message;
      first : l.better ≡ packed (drop l.t l.pairs) l.register % 2;
      whole : take l.t l.message ++ map bit (best (drop l.t l.pairs) l.register) ≡ map bit (best l.pairs l.start);
    }
