use Rattle.std.proofs.Common.{ℕ, get_or, refl, ap, ◌∙◌, arith}
use Rattle.std.specs.Int.Bits.{bit_xor}
use Rattle.lists.proofs.FillOver.{over_start, over_step, over_end}
use Rattle.dispersal.specs.Register.{added}
use Rattle.dispersal.proofs.Words.{sum, sum_below, sum_behind}
use Rattle.dispersal.proofs.add.Goals as goal

pub loop-j-init : goal.loop-j-init
loop-j-init c =
    over_start 204 (sum c.args.word.now c.args.sequence.now) c.args.word.now 0 c.told-word
    (λ k lt. absurd (omega arith))

pub loop-j-preserved : goal.loop-j-preserved
loop-j-preserved c =
    let at = c.loop-j in
    let word = c.args.word.now in
    let sequence = c.args.sequence.now in
    over_step 204 (sum word sequence) word at.invariant at.j _ refl (omega arith)
    (ap (λ (byte : ℕ). bit_xor byte (get_or sequence at.j 0)) (at.invariant.rest at.j (omega arith))
    ∙ sum_below word sequence at.j c.loop-j-test.true)

pub returns : goal.returns
unfolding added sum
returns c =
    over_end 204 (sum c.args.word.now c.args.sequence.now) c.args.word.now c.loop-j.invariant
    (λ k from lt. sum_behind c.args.word.now c.args.sequence.now k (omega arith))
