-- `bit_interleaver::lines` meets its contract.
use mathlib.Core.Path.{refl, ◌∙◌}
use mathlib.Core.Bool.{false}
use native.Mathlib.Omega.{arith}
use Rattle.rules.specs.Bits.{line_delay}
use Rattle.rules.proofs.Widths.{fits_two, fits_four, fits_six}
use Rattle.bit_interleaver.proofs.WidthsMade.{legal_two, legal_four, legal_six, legal_not}
use Rattle.bit_interleaver.proofs.WidthsMade.{entries_legal, entries_not}
use Rattle.bit_interleaver.proofs.lines.Statement.{statement}
use Rattle.bit_interleaver.proofs.lines.Tie as tie

pub lines_spec : {M : Type 1} → statement M
lines_spec =
    tie.close (tie.spec (λ c κs. unfold line_delay in (refl, fits_six false))
    (λ c. c.lines_by.ensures ∙ entries_legal _ _ 6 (omega arith) legal_six)
    (λ c κs. unfold line_delay in (refl, fits_four false))
    (λ c. c.lines_by-then-v-eq4.ensures ∙ entries_legal _ _ 4 (omega arith) legal_four)
    (λ c κs. unfold line_delay in (refl, fits_two false))
    (λ c. c.lines_by-then-v-eq2.ensures ∙ entries_legal _ _ 2 (omega arith) legal_two)
    (λ c. entries_not _ _ (legal_not _ (λ e. omega arith) (λ e. omega arith) (λ e. omega arith))))
