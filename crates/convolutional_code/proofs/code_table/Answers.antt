use Rattle.std.proofs.Common.{◌∙◌, ap, ◌/◌, ℕ, refl}
use Rattle.rules.specs.Code.{parity}
use Rattle.convolutional_code.specs.CodeTable.{code_entry}
use Rattle.convolutional_code.proofs.Turning.{turned_reverse}
use Rattle.convolutional_code.proofs.Tables.{halves_more, halves_all, entry_low, entry_high}
use Rattle.convolutional_code.proofs.code_table.Goals as goal

pub loop-seven-preserved : goal.loop-seven-preserved
loop-seven-preserved c =
    let at = c.loop-seven in
    let bits = ap (λ (n : ℕ). n / 2) c.reverse_bits-bits.ensures ∙ turned_reverse 1 7 at.seven refl in
    halves_more code_entry at.invariant c.loop-seven-test.true _ _ _ _ c.from.ensures c.from-in-loop-seven.ensures
    (c.parity_of.ensures ∙ ap (parity 0o133) bits ∙ entry_low at.seven c.loop-seven-test.true)
    (c.parity_of-in-loop-seven.ensures ∙ ap (parity 0o171) bits ∙ entry_high at.seven c.loop-seven-test.true)

pub returns : goal.returns
returns c = halves_all code_entry c.loop-seven.invariant c.loop-seven-test.false
