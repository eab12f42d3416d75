use Rattle.std.proofs.Common.{arith, rules, ◌*◌, ◌+◌, ◌-◌, ◌≡◌, length}
use Rattle.remainder.proofs.Zeros.{zeros_at}
use Rattle.remainder.proofs.Putting.{put_part}
use Rattle.remainder.proofs.Packets.{parities_more, packets_not_whole, other_room, parities_all}
use Rattle.remainder.proofs.parities.Goals as goal

pub returns-then-packets-count : goal.returns-then-packets-count
returns-then-packets-count c = packets_not_whole _ _ c.if-packets-count.true

pub returns-then-out-count : goal.returns-then-out-count
returns-then-out-count c = other_room _ _ c.if-packets-count.false c.if-out-count.true

pub filled-rows-requires : goal.filled-rows-requires
filled-rows-requires c = zeros_at 8192

pub loop-p-preserved : goal.loop-p-preserved
loop-p-preserved c =
    let at = c.loop-p in
    let size : 16 * at.p + 16 - 16 * at.p ≡ 16 = omega arith in
    let long : length c.parity-parity.result ≡ 16 = search rules in
    rw (c.copy_from_slice.ensures.after, size)
    (parities_more _ c.args.packets.now at.out c.parity-parity.result _ at.p (omega arith) at.invariant
    c.parity-parity.ensures (put_part (16 * at.p) 16 at.out c.parity-parity.result (omega arith) long))

pub returns : goal.returns
returns c =
    parities_all _ _ c.if-packets-count.false c.loop-p.p _ c.if-out-count.false (omega arith) c.loop-p.invariant
