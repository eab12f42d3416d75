-- The result is the remainder of what stands before the blocks that are left, which are whole.
use Rattle.std.proofs.Common.{◌≡◌, ◌%◌, ◌++◌, ℕ, List, length}
use Rattle.std.specs.Slice.Iter.{chunks_exact_rest, chunks_exact_size}
use Rattle.remainder.specs.Remainder.{Remainder}
use Rattle.remainder.proofs.Rows.reduced.Given as goal

abbrev pub invariant-loop-block : goal.invariant-loop-block
invariant-loop-block l =
    (chunks_exact_size l.block-iterator ≡ 16) × (length (chunks_exact_rest l.block-iterator) % 16 ≡ 0)
    × ((done : List ℕ) × (l.word ≡ done ++ chunks_exact_rest l.block-iterator) × Remainder done l.result)
