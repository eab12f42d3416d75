use Rattle.std.proofs.Common.{◌*◌, ◌/◌, ◌%◌, ◌+◌, get_or, Fits, w8, arith, rules}
use Rattle.remainder.proofs.Shifting.{shift_none, shift_more, shift_all, two_rows}
use Rattle.remainder.proofs.Rows.shifted.Goals as goal

pub loop-j-init : goal.loop-j-init
loop-j-init c = shift_none c.args.bytes

pub loop-j-preserved : goal.loop-j-preserved
loop-j-preserved c =
    let at = c.loop-j in
    let table = c.args.self.bytes.now in
    let f = c.from-f.result in
    let small : Fits w8 (get_or c.args.bytes at.j 0) = search rules in
    shift_more table c.args.bytes c.args.self.right (search rules) at.j f c.loop-j-test.true c.from-f.ensures small.fits
    at.sum c.plus-sum.result at.invariant
    (λ k. let byte : Fits w8 (get_or c.plus-sum.result k 0) = search rules in byte.fits)
    (two_rows table at.sum c.plus.result c.plus-sum.result (256 * (f % 16) + 16 * at.j)
    (4096 + 256 * (f / 16) + 16 * at.j) _ _ (omega arith) (omega arith) c.plus.ensures c.plus-sum.ensures)

pub returns : goal.returns
returns c = shift_all c.args.bytes _ c.loop-j.j (search rules) (omega arith) c.loop-j.invariant
