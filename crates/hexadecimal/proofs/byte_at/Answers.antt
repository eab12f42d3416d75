-- Both bytes are digits.
use Rattle.std.proofs.Common.{◌+◌, ◌*◌, arith}
use Rattle.hexadecimal.specs.Bytes.{byte_at}
use Rattle.hexadecimal.proofs.Bytes.{digit_below}
use Rattle.hexadecimal.proofs.byte_at.Goals as goal

pub digit_value-requires : goal.digit_value-requires
digit_value-requires c = digit_below _ c.requires.0 (2 * c.args.k) (omega (arith, c.requires.1))

pub digit_value-requires-2 : goal.digit_value-requires-2
digit_value-requires-2 c = digit_below _ c.requires.0 (2 * c.args.k + 1) c.requires.1

pub returns : goal.returns
unfolding byte_at
returns c = (cc)
