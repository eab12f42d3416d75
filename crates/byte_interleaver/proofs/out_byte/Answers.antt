use Rattle.std.proofs.Common.{◌<◌, ◌+◌, ◌∙◌, ℕ, get_or, arith}
use Rattle.byte_interleaver.proofs.Taking.{ways_fit, some_waits, none_waits, byte_own, byte_old, byte_in}
use Rattle.byte_interleaver.proofs.out_byte.Goals as goal

pub overflow_add-result : goal.overflow_add-result
overflow_add-result g c =
    let here : c.first_of.result + c.args.t < 1122 =
    rw c.first_of.ensures
    (byte_in _ (ways_fit _) c.args.memory.now (λ b. 0) _ _ c.requires.0 c.requires.1
    (some_waits c.waits.ensures c.if-waits.true)) in
    omega arith

pub bounds-memory-first_of : goal.bounds-memory-first_of
bounds-memory-first_of g c =
    rw c.first_of.ensures
    (byte_in _ (ways_fit _) c.args.memory.now (λ b. 0) _ _ c.requires.0 c.requires.1
    (some_waits c.waits.ensures c.if-waits.true))

pub returns-then-waits : goal.returns-then-waits
returns-then-waits g c =
    rw c.first_of.ensures
    (byte_old _ (ways_fit _) _ _ _ _ c.requires.0 c.requires.1 (some_waits c.waits.ensures c.if-waits.true))

pub returns : goal.returns
returns g c =
    c.byte.ensures
    ∙ byte_own _ (ways_fit _) c.args.memory.now (λ (b : ℕ). get_or (g.W.Word.bytes c.args.word.now) b 0) _ _
    c.requires.0 c.requires.1 (none_waits c.waits.ensures c.if-waits.false)
