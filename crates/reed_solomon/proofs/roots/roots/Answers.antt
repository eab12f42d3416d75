-- The polynomial is not 0, so few places are roots.
use Rattle.field.proofs.Values.{bytes_of}
use Rattle.reed_solomon.proofs.Few.{few_zeros}
use Rattle.reed_solomon.proofs.roots.roots.Goals as goal

pub zeros-requires : goal.zeros-requires
zeros-requires c =
    let l = c.args.l.now in
    few_zeros l c.values.result c.requires.degree c.told-l (bytes_of l c.requires.bytes) c.requires.one c.values.ensures
