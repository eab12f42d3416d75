-- `bit_interleaver::waits` meets its contract.
use mathlib.Core.Path.{refl, ◌∙◌}
use mathlib.Core.Bool.{true}
use native.Mathlib.Omega.{arith}
use Rattle.rules.specs.Bits.{line_delay}
use Rattle.rules.proofs.Widths.{fits_two, fits_four, fits_six}
use Rattle.bit_interleaver.proofs.WidthsMade.{legal_two, legal_four, legal_six, legal_not}
use Rattle.bit_interleaver.proofs.WidthsMade.{waits_legal, waits_not}
use Rattle.bit_interleaver.proofs.waits.Statement.{statement}
use Rattle.bit_interleaver.proofs.waits.Tie as tie

pub waits_spec : {M : Type 1} → statement M
waits_spec =
    tie.close (tie.spec (λ c κs. unfold line_delay in (refl, fits_six true))
    (λ c. c.lines_by.ensures ∙ waits_legal _ _ 6 (omega arith) legal_six)
    (λ c κs. unfold line_delay in (refl, fits_four true))
    (λ c. c.lines_by-then-v-eq4.ensures ∙ waits_legal _ _ 4 (omega arith) legal_four)
    (λ c κs. unfold line_delay in (refl, fits_two true))
    (λ c. c.lines_by-then-v-eq2.ensures ∙ waits_legal _ _ 2 (omega arith) legal_two)
    (λ c. waits_not _ _ (legal_not _ (λ e. omega arith) (λ e. omega arith) (λ e. omega arith))))
