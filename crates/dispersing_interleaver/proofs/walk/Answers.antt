use Rattle.std.proofs.Common.{◌≡◌, ◌∙◌, ◌+◌, ◌-◌, ℕ, length, get_or, ap, arith}
use Rattle.lists.proofs.Tabs.{length_tab}
use Rattle.rules.specs.Bytes.{waits_there, stream_byte, word_out}
use Rattle.dispersal.specs.Register.{added}
use Rattle.dispersing_interleaver.proofs.Parts.{stream_parts}
use Rattle.dispersing_interleaver.proofs.walk.Goals as goal

pub returns-clause-stream_after : goal.returns-clause-stream_after
returns-clause-stream_after c =
    let given = c.args in
    let sent = added given.word.now given.sequence.now in
    let long : length (word_out waits_there given.memory.now sent) ≡ 204 =
    unfold word_out in length_tab 204 (stream_byte waits_there given.memory.now (λ b. get_or sent b 0)) in
    let read = c.copy_from_slice.ensures.after ∙ c.word_out.ensures in
    rw read
    (stream_parts given.stream.now _ c.copy_within.new.self (c.copy_within.ensures.len ∙ c.told-stream) long
    (λ k h. c.copy_within.ensures.by_index.0 k 0 (omega arith) (omega arith)
    ∙ ap (λ (n : ℕ). get_or given.stream.now n 0) {x = 204 + (k - 0)} {y = 204 + k} (omega arith))
    (λ k h. c.copy_within.ensures.by_index.2 k 0 (omega arith)))
