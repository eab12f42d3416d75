use Rattle.std.proofs.Common.{◌≡◌, ◌+◌, ◌-◌, arith}
use Rattle.word_coder.proofs.Placing.{part_copied}
use Rattle.word_coder.proofs.last_symbols.Goals as goal

pub returns : goal.returns
returns c =
    let count : c.args.count + 120 - c.args.count ≡ 120 = omega arith in
    let read = c.copy_from_slice.ensures.after in
    rw (read, count) (part_copied c.args.symbols.now c.args.count 120 (omega arith))
