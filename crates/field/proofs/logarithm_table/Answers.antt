use Rattle.std.proofs.Common.{sym, subst}
use Rattle.field.specs.Tables.{Logarithms}
use Rattle.field.proofs.Tables.{logarithms_of}
use Rattle.field.proofs.Logarithms.{logarithms_behind}
use Rattle.field.proofs.Lent.{logarithms_lent}
use Rattle.field.proofs.logarithm_table.Goals as goal

pub returns-clause-value : goal.returns-clause-value
unfolding logarithms_of
returns-clause-value c = rw c.copy_from_slice.ensures.after logarithms_behind

pub returns-clause-logarithms : goal.returns-clause-logarithms
returns-clause-logarithms c = subst Logarithms (sym (returns-clause-value c)) logarithms_lent
