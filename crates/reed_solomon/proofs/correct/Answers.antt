-- A word of another length, and one that is a codeword.
use Rattle.std.proofs.Common.{◌∙◌, sym, rules}
use Rattle.nearest.specs.Correction.{wrong_length}
use Rattle.reed_solomon.proofs.Ending.{ends_clean}
use Rattle.reed_solomon.proofs.correct.Goals as goal

pub returns-then-word-ne204 : goal.returns-then-word-ne204
returns-then-word-ne204 c = wrong_length c.if-word-ne204.true

pub returns-then-is_zero : goal.returns-then-is_zero
returns-then-is_zero c =
    ends_clean _ c.remainder-rest.result c.if-word-ne204.false (λ p. search rules) c.remainder-rest.ensures
    (sym c.is_zero.ensures ∙ c.if-is_zero.true)
