use Rattle.std.proofs.Common.{sym, ◌∙◌}
use Rattle.puncturing.proofs.Tables.{table_of_none}
use Rattle.puncturing.proofs.block_table.Goals as goal

pub returns-then-pattern_length-eq0 : goal.returns-then-pattern_length-eq0
returns-then-pattern_length-eq0 c = table_of_none _ (sym c.pattern_length.ensures ∙ c.if-pattern_length-eq0.true)
