-- The places before b other than a are folded away; `left` entries of t are in use.
use Rattle.std.proofs.Common.{◌≡◌, ◌+◌, ◌-◌, length, get_or}
use Rattle.field.specs.Field.{power}
use Rattle.reed_solomon.proofs.Folding.{Folded}
use Rattle.reed_solomon.proofs.errors.error_at.Given as goal

abbrev pub invariant-loop-b : goal.invariant-loop-b
invariant-loop-b l =
    (length l.t ≡ 16) × (l.x ≡ power 2 (get_or l.at l.a 0))
    × (l.left + l.b + (l.b - (l.a + 1)) ≡ length l.at + (l.b - l.a)) × Folded l.s l.at l.a l.b l.d.value l.left l.t
