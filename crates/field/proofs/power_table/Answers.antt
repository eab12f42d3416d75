use Rattle.std.proofs.Common.{sym, subst}
use Rattle.field.specs.Tables.{Powers}
use Rattle.field.proofs.Tables.{powers_of_two}
use Rattle.field.proofs.Logarithms.{powers_then_zero}
use Rattle.field.proofs.Lent.{powers_lent}
use Rattle.field.proofs.power_table.Goals as goal

pub returns-clause-value : goal.returns-clause-value
unfolding powers_of_two
returns-clause-value c = rw c.copy_from_slice.ensures.after powers_then_zero

pub returns-clause-powers : goal.returns-clause-powers
returns-clause-powers c = subst Powers (sym (returns-clause-value c)) powers_lent
