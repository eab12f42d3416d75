-- The places before turn t, and before branch i of it, hold their bytes.
use Rattle.std.proofs.Common.{◌+◌, ◌*◌, get_or, not, nat_eq}
use Rattle.lists.proofs.Fill.{Fill}
use Rattle.rules.specs.Bytes.{stream_byte}
use Rattle.byte_interleaver.specs.Steps.{waits_of}
use Rattle.byte_interleaver.proofs.word_out.Given as goal

abbrev pub invariant-loop-t : goal.invariant-loop-t
invariant-loop-t g l =
    Fill 204 (stream_byte (waits_of (not (nat_eq g.row.BACK 0))) l.memory (λ b. get_or (g.W.Word.bytes l.word) b 0)) (12 * l.t) l.out

abbrev pub invariant-loop-i : goal.invariant-loop-i
invariant-loop-i g l =
    Fill 204 (stream_byte (waits_of (not (nat_eq g.row.BACK 0))) l.memory (λ b. get_or (g.W.Word.bytes l.word) b 0))
    (12 * l.t + l.i) l.out
