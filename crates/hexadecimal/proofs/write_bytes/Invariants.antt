-- The places below i have their digits.
use Rattle.std.proofs.Common.{◌/◌, ◌%◌, ◌-◌, length, get_or}
use Rattle.lists.proofs.Fill.{Fill}
use Rattle.hexadecimal.specs.Digits.{digit_at}
use Rattle.hexadecimal.proofs.write_bytes.Given as goal

abbrev pub invariant-loop-i : goal.invariant-loop-i
invariant-loop-i l = Fill (length l.initial.out) (λ k. digit_at (get_or l.bytes (k / 2) 0) (1 - k % 2)) l.i l.out
