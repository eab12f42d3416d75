use Rattle.remainder.proofs.Zeros.{zeros_at}
use Rattle.remainder.proofs.remainder.Goals as goal

pub filled-requires : goal.filled-requires
filled-requires c = zeros_at 8192
