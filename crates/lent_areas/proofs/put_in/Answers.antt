use Rattle.std.proofs.Common.{◌≡◌, ◌+◌, ◌-◌, arith}
use Rattle.lent_areas.proofs.Copies.{put}
use Rattle.lent_areas.proofs.put_in.Goals as goal

pub returns : goal.returns
returns c =
    let count : c.min-from.result + c.min-count.result - c.min-from.result ≡ c.min-count.result = omega arith in
    let read = c.copy_from_slice.ensures.after in
    rw (read, count)
    (put c.args.bytes.now c.args.area.now c.args.place c.min-from.result c.min-count.result c.min-from.ensures
    c.min-count.ensures)
