-- The places from k on have their digits, and the rest has the other digits.
use Rattle.std.proofs.Common.{◌≡◌, ◌-◌, ◌/◌, ◌^◌, length}
use Rattle.lists.proofs.FillBack.{FillBack}
use Rattle.hexadecimal.specs.Digits.{digit_at}
use Rattle.hexadecimal.proofs.write.Given as goal

abbrev pub invariant-loop-k : goal.invariant-loop-k
invariant-loop-k l =
    (l.rest ≡ l.number / 16 ^ (length l.initial.out - l.k))
    × FillBack (length l.initial.out) (λ place. digit_at l.number (length l.initial.out - 1 - place)) l.k l.out
