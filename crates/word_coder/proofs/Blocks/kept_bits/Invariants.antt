-- The kept bits of the blocks below s are there.
use Rattle.lists.proofs.Fill.{Fill}
use Rattle.word_coder.specs.Step.{kept_of_block}
use Rattle.word_coder.proofs.Blocks.kept_bits.Given as goal

abbrev pub invariant-loop-s : goal.invariant-loop-s
invariant-loop-s l = Fill 136 (kept_of_block l.table l.self.size l.self.left l.stream) l.s l.kept
