use Rattle.std.proofs.Common.{◌≡◌, ◌<◌, ◌≤◌, ◌+◌, ◌*◌, ◌/◌, ℕ, arith}
use Rattle.lists.proofs.Fill.{fill_more}
use Rattle.word_coder.proofs.Numbers.{block_inside}
use Rattle.word_coder.proofs.Placing.{of_block}
use Rattle.word_coder.proofs.Blocks.kept_bits.Goals as goal

-- a block ends in the word
inside : {size left count s : ℕ} → 12 ≤ size → left < size → count ≡ (left + 1632) / size → s < count
    → size * s + size ≤ left + 1632
inside {size} {left} {count} {s} least fewer told h = block_inside size left least fewer s (omega arith)

pub overflow_mul-self : goal.overflow_mul-self
overflow_mul-self c =
    omega (arith, inside c.args.self.least c.args.self.fewer c.count-s-end.ensures.told c.loop-s-test.true)

pub overflow_add-self : goal.overflow_add-self
overflow_add-self c =
    omega (arith, inside c.args.self.least c.args.self.fewer c.count-s-end.ensures.told c.loop-s-test.true)

pub window-requires : goal.window-requires
window-requires c =
    omega (arith, inside c.args.self.least c.args.self.fewer c.count-s-end.ensures.told c.loop-s-test.true)

pub loop-s-preserved : goal.loop-s-preserved
loop-s-preserved c =
    fill_more 136 _ c.loop-s.invariant (omega arith) _ (of_block _ _ _ _ c.loop-s.s c.window.ensures c.block.ensures)

pub returns : goal.returns
returns c = record { at = λ s lt. c.loop-s.invariant.done s (omega arith) }
