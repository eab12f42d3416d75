use Rattle.std.proofs.Common.{sym, ◌∙◌}
use Rattle.settings.proofs.LegalSettings.{qpsk, qam16, qam64}
use Rattle.settings.proofs.Patterns.{pattern_legal}
use Rattle.received_bits.proofs.Whole.{digits_of, received_few, no_rate, no_bits, all_pairs}
use Rattle.received_bits.proofs.pairs.Goals as goal

pub returns-then-pattern_length-eq0 : goal.returns-then-pattern_length-eq0
returns-then-pattern_length-eq0 c =
    no_rate _ _ _ (sym c.pattern_length.ensures ∙ c.if-pattern_length-eq0.true)

pub planes_of-planes-requires : goal.planes_of-planes-requires
planes_of-planes-requires c = qam64

pub pairs_by-requires : goal.pairs_by-requires
pairs_by-requires c = (qam64, digits_of 6 _ _ (received_few 6 _) c.planes_of-planes.ensures)

pub returns-then-v-eq6 : goal.returns-then-v-eq6
returns-then-v-eq6 c =
    all_pairs qam64 (pattern_legal _ (λ e. c.if-pattern_length-eq0.false (c.pattern_length.ensures ∙ e))) _ _ _ _
    c.if-v-eq6.true c.planes_of-planes.ensures c.pairs_by.ensures

pub planes_of-planes-requires-then-v-eq4 : goal.planes_of-planes-requires-then-v-eq4
planes_of-planes-requires-then-v-eq4 c = qam16

pub pairs_by-requires-then-v-eq4 : goal.pairs_by-requires-then-v-eq4
pairs_by-requires-then-v-eq4 c = (qam16, digits_of 4 _ _ (received_few 4 _) c.planes_of-planes-then-v-eq4.ensures)

pub returns-then-v-eq4 : goal.returns-then-v-eq4
returns-then-v-eq4 c =
    all_pairs qam16 (pattern_legal _ (λ e. c.if-pattern_length-eq0.false (c.pattern_length.ensures ∙ e))) _ _ _ _
    c.if-v-eq4.true c.planes_of-planes-then-v-eq4.ensures c.pairs_by-then-v-eq4.ensures

pub planes_of-planes-requires-then-v-eq2 : goal.planes_of-planes-requires-then-v-eq2
planes_of-planes-requires-then-v-eq2 c = qpsk

pub pairs_by-requires-then-v-eq2 : goal.pairs_by-requires-then-v-eq2
pairs_by-requires-then-v-eq2 c = (qpsk, digits_of 2 _ _ (received_few 2 _) c.planes_of-planes-then-v-eq2.ensures)

pub returns-then-v-eq2 : goal.returns-then-v-eq2
returns-then-v-eq2 c =
    all_pairs qpsk (pattern_legal _ (λ e. c.if-pattern_length-eq0.false (c.pattern_length.ensures ∙ e))) _ _ _ _
    c.if-v-eq2.true c.planes_of-planes-then-v-eq2.ensures c.pairs_by-then-v-eq2.ensures

pub returns : goal.returns
returns c = no_bits _ _ _ c.if-v-eq6.false c.if-v-eq4.false c.if-v-eq2.false
