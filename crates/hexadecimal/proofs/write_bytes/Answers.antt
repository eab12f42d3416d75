use Rattle.std.proofs.Common.{arith}
use Rattle.lists.proofs.Fill.{fill_all}
use Rattle.hexadecimal.specs.Bytes.{digits_of_bytes}
use Rattle.hexadecimal.proofs.write_bytes.Goals as goal

pub returns : goal.returns
unfolding digits_of_bytes
returns c = fill_all _ _ c.loop-i.invariant (omega arith)
