-- A sum with 0.
use Rattle.std.proofs.Common.{◌∙◌}
use Rattle.field.proofs.Sum.{zero-⊕}
use Rattle.reed_solomon.proofs.tables.Tables.times.Goals as goal

pub returns : goal.returns
returns c = c.plus_times.ensures ∙ zero-⊕ _
