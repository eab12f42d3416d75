-- s has the syndromes of the bytes before this one.
use Rattle.std.proofs.Common.{take}
use Rattle.reed_solomon.specs.Decode.{Syndromes}
use Rattle.reed_solomon.proofs.syndromes.syndromes.Given as goal

abbrev pub invariant-loop-byte : goal.invariant-loop-byte
invariant-loop-byte l = Syndromes (take l.byte-index l.rest) l.s
