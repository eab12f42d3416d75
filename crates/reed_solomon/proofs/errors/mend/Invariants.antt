-- The errors at the places before a are taken away, and rest has the syndromes of the word so far.
use Rattle.std.proofs.Common.{◌≡◌, length}
use Rattle.reed_solomon.specs.Decode.{Syndromes}
use Rattle.reed_solomon.proofs.Mending.{Mending}
use Rattle.reed_solomon.proofs.errors.mend.Given as goal

abbrev pub invariant-loop-a : goal.invariant-loop-a
invariant-loop-a l =
    (length l.word ≡ 204) × (length l.rest ≡ 16)
    × Mending l.s l.at (length l.at) l.initial.word l.a l.count l.word × Syndromes l.word l.rest
