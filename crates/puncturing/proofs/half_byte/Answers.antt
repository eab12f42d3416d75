use Rattle.std.proofs.Common.{arith}
use Rattle.puncturing.proofs.Tables.{half_byte_exact}
use Rattle.puncturing.proofs.half_byte.Goals as goal

pub returns : goal.returns
returns c = half_byte_exact _ _ (omega arith) (omega arith)
