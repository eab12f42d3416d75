use Rattle.std.proofs.Common.{◌-◌, refl, length, replicate}
use Rattle.remainder.proofs.Padding.{padded_copy}
use Rattle.remainder.proofs.Zeros.{zeros_at}
use Rattle.remainder.proofs.first_block.Goals as goal

pub returns : goal.returns
returns c =
    let head = c.args.head.now in
    rw c.copy_from_slice.ensures.after
    (padded_copy (replicate 16 0) head (16 - length head) refl (zeros_at 16) refl c.requires)
