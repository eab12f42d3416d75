-- The entries before k are folded.
use Rattle.std.proofs.Common.{◌≡◌, ◌+◌, length, get_or}
use Rattle.field.specs.Field.{◌⊕◌, ◌⊗◌, power}
use Rattle.reed_solomon.proofs.Fills.{Filled}
use Rattle.reed_solomon.proofs.errors.fold.Given as goal

abbrev pub invariant-loop-k : goal.invariant-loop-k
invariant-loop-k l =
    (length l.t ≡ 16)
    × Filled (λ n. get_or l.initial.t (n + 1) 0 ⊕ power 2 l.l.value ⊗ get_or l.initial.t n 0)
    (λ n. get_or l.initial.t n 0) l.k l.t
