use Rattle.std.proofs.Common.{sym, ◌∙◌}
use Rattle.settings.proofs.LegalSettings.{qpsk, qam16, qam64}
use Rattle.settings.proofs.Patterns.{pattern_legal}
use Rattle.received_bits.proofs.HeldLaws.{held_legal, held_no_rate, held_no_bits}
use Rattle.received_bits.proofs.held_pairs.Goals as goal

pub returns-then-pattern_length-eq0 : goal.returns-then-pattern_length-eq0
returns-then-pattern_length-eq0 c =
    held_no_rate _ _ _ _ _ _ _ (sym c.pattern_length.ensures ∙ c.if-pattern_length-eq0.true)

pub pairs_held-requires : goal.pairs_held-requires
pairs_held-requires c = qam64

pub returns-then-v-eq6 : goal.returns-then-v-eq6
returns-then-v-eq6 c =
    held_legal _ _ _ _ _ qam64 (pattern_legal _ (λ e. c.if-pattern_length-eq0.false (c.pattern_length.ensures ∙ e))) _ _
    c.if-v-eq6.true c.pairs_held.ensures

pub pairs_held-requires-then-v-eq4 : goal.pairs_held-requires-then-v-eq4
pairs_held-requires-then-v-eq4 c = qam16

pub returns-then-v-eq4 : goal.returns-then-v-eq4
returns-then-v-eq4 c =
    held_legal _ _ _ _ _ qam16 (pattern_legal _ (λ e. c.if-pattern_length-eq0.false (c.pattern_length.ensures ∙ e))) _ _
    c.if-v-eq4.true c.pairs_held-then-v-eq4.ensures

pub pairs_held-requires-then-v-eq2 : goal.pairs_held-requires-then-v-eq2
pairs_held-requires-then-v-eq2 c = qpsk

pub returns-then-v-eq2 : goal.returns-then-v-eq2
returns-then-v-eq2 c =
    held_legal _ _ _ _ _ qpsk (pattern_legal _ (λ e. c.if-pattern_length-eq0.false (c.pattern_length.ensures ∙ e))) _ _
    c.if-v-eq2.true c.pairs_held-then-v-eq2.ensures

pub returns : goal.returns
returns c = held_no_bits _ _ _ _ _ _ _ c.if-v-eq6.false c.if-v-eq4.false c.if-v-eq2.false
