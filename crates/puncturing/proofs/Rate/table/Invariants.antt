-- The places of the kept bits before i are stored, and then the entries before the place.
use Rattle.lists.proofs.Fill.{Fill}
use Rattle.puncturing.specs.Block.{block_entry}
use Rattle.puncturing.specs.Steps.{shift_of, base_of}
use Rattle.puncturing.proofs.Rate.table.Given as goal

abbrev pub invariant-loop-i : goal.invariant-loop-i
invariant-loop-i l = Fill 24 (shift_of l.self.number) l.i l.shifts × Fill 24 (base_of l.self.number) l.i l.bases

abbrev pub invariant-loop-place : goal.invariant-loop-place
invariant-loop-place l = Fill 112 (block_entry l.fn.self.number) l.place l.table
