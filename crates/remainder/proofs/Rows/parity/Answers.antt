use Rattle.remainder.proofs.Shifting.{parity_of}
use Rattle.remainder.proofs.Division.{parity_is}
use Rattle.remainder.proofs.Rows.parity.Goals as goal

pub returns : goal.returns
returns c = parity_is _ _ (parity_of _ _ c.shifted.result c.reduced.ensures c.shifted.ensures)
