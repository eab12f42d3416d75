-- `word_coder::per_block` meets its contract.
use mathlib.Core.Path.{refl}
use Rattle.rules.proofs.Counts.{per_block}
use Rattle.word_coder.proofs.Numbers.{per_block_none}
use Rattle.word_coder.proofs.per_block.Statement.{statement}
use Rattle.word_coder.proofs.per_block.Tie as tie

pub per_block_spec : {M : Type 1} → statement M
per_block_spec =
    tie.close (tie.spec (λ c. unfold per_block in rw c.if-v-eq6.true refl)
    (λ c. unfold per_block in rw c.if-v-eq4.true refl) (λ c. unfold per_block in rw c.if-v-eq2.true refl)
    (λ c. per_block_none _ c.if-v-eq6.false c.if-v-eq4.false c.if-v-eq2.false))
