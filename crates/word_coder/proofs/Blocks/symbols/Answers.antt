use Rattle.std.proofs.Common.{refl}
use Rattle.settings.proofs.LegalSettings.{qpsk, qam16, qam64}
use Rattle.rules.proofs.Counts.{per_block}
use Rattle.word_coder.proofs.Numbers.{per_block_none, per_block_some}
use Rattle.word_coder.proofs.Placing.{placed_by, none_placed}
use Rattle.word_coder.proofs.Blocks.symbols.Goals as goal

pub symbols_by-requires : goal.symbols_by-requires
symbols_by-requires c = unfold per_block in (c.count.ensures.few, qam64, refl)

pub symbols_by-requires-then-v-eq4 : goal.symbols_by-requires-then-v-eq4
symbols_by-requires-then-v-eq4 c = unfold per_block in (c.count-then-v-eq4.ensures.few, qam16, refl)

pub symbols_by-requires-then-v-eq2 : goal.symbols_by-requires-then-v-eq2
symbols_by-requires-then-v-eq2 c = unfold per_block in (c.count-then-v-eq2.ensures.few, qpsk, refl)

pub returns-then-v-eq6 : goal.returns-then-v-eq6
returns-then-v-eq6 c =
    placed_by _ _ _ _ 6 c.count.result _ c.if-v-eq6.true c.count.ensures.is (per_block_some qam64 c.if-v-eq6.true)
    (rw c.count.ensures.is c.kept_bits-kept.ensures) c.symbols_by.ensures

pub returns-then-v-eq4 : goal.returns-then-v-eq4
returns-then-v-eq4 c =
    let count = c.count-then-v-eq4 in
    placed_by _ _ _ _ 4 count.result _ c.if-v-eq4.true count.ensures.is (per_block_some qam16 c.if-v-eq4.true)
    (rw count.ensures.is c.kept_bits-kept.ensures) c.symbols_by-then-v-eq4.ensures

pub returns-then-v-eq2 : goal.returns-then-v-eq2
returns-then-v-eq2 c =
    let count = c.count-then-v-eq2 in
    placed_by _ _ _ _ 2 count.result _ c.if-v-eq2.true count.ensures.is (per_block_some qpsk c.if-v-eq2.true)
    (rw count.ensures.is c.kept_bits-kept.ensures) c.symbols_by-then-v-eq2.ensures

pub returns : goal.returns
returns c =
    none_placed _ _ _ _ (per_block_none _ c.if-v-eq6.false c.if-v-eq4.false c.if-v-eq2.false) c.with_history.ensures
