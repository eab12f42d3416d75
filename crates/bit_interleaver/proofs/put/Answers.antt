use Rattle.std.proofs.Common.{◌∙◌, sym, arith}
use Rattle.bit_interleaver.proofs.Writing.{writing_none, writing_more, writing_all, room_known, put_stays, put_writes}
use Rattle.bit_interleaver.proofs.put.Goals as goal

pub loop-j-init : goal.loop-j-init
loop-j-init g c = writing_none _ _ _ _ _ _

pub loop-j-preserved : goal.loop-j-preserved
loop-j-preserved g c =
    let room = room_known _ _ _ _ (sym c.if-has_room.true ∙ c.has_room.ensures) in
    rw c.put_on.ensures
    (writing_more _ _ _ _ _ _ c.loop-j.invariant (omega arith) room.1 _ c.carrier.ensures)

pub returns-after-loop-j : goal.returns-after-loop-j
returns-after-loop-j g c =
    let room = room_known _ _ _ _ (sym c.if-has_room.true ∙ c.has_room.ensures) in
    writing_all _ _ _ _ _ _ c.loop-j.invariant (omega arith) ∙ put_writes _ _ _ _ _ _ room.2 room.0 room.1

pub returns-else-has_room : goal.returns-else-has_room
returns-else-has_room g c = put_stays _ _ _ _ _ _ (sym c.if-has_room.false ∙ c.has_room.ensures)
