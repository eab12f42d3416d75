-- Both halves hold the coded bits of the windows below.
use Rattle.convolutional_code.specs.CodeTable.{code_entry}
use Rattle.convolutional_code.proofs.Tables.{Halves}
use Rattle.convolutional_code.proofs.code_table.Given as goal

abbrev pub invariant-loop-seven : goal.invariant-loop-seven
invariant-loop-seven l = Halves code_entry l.seven l.table
