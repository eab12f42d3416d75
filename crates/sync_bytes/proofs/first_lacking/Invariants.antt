-- The packets below p begin with 47, and so they are there.
use Rattle.std.proofs.Common.{◌≡◌, ◌+◌, ◌*◌, ◌<◌, ◌≤◌, ℕ, true, eqb, length, get_or}
use Rattle.sync_bytes.proofs.first_lacking.Given as goal

abbrev pub invariant-loop-p : goal.invariant-loop-p
invariant-loop-p l =
    (188 * l.p ≤ length l.packets + 187) × ((k : ℕ) → k < l.p → eqb (get_or l.packets (188 * k) 0) 0x47 ≡ true)
