-- `bit_interleaver::has_room` meets its contract.
use mathlib.Core.Bool.{true}
use native.Mathlib.Omega.{arith}
use Rattle.bit_interleaver.proofs.WidthsMade.{legal_four, legal_six, legal_is, legal_rest}
use Rattle.bit_interleaver.proofs.Writing.{room_for_is, room_run, room_end}
use Rattle.bit_interleaver.proofs.has_room.Statement.{statement}
use Rattle.bit_interleaver.proofs.has_room.Tie as tie

pub has_room_spec : {M : Type 1} → statement M
has_room_spec =
    tie.close (tie.spec
    (λ c. let a = c.args in room_run a.v a.first a.count a.carriers (omega arith))
    (λ c. let a = c.args in room_end a.v a.first a.count a.carriers (omega arith))
    (λ c. let a = c.args in
    room_end a.v a.first a.count a.carriers (omega arith))
    (λ c. let a = c.args in
    room_for_is a.v a.first a.count a.carriers true (legal_is a.v 6 true c.if-v-eq6.true legal_six)
    (omega arith) (omega arith))
    (λ c. let a = c.args in
    room_for_is a.v a.first a.count a.carriers true (legal_is a.v 4 true c.if-v-eq4.true legal_four)
    (omega arith) (omega arith))
    (λ c. let a = c.args in
    room_for_is a.v a.first a.count a.carriers _ (legal_rest a.v c.if-v-eq6.false c.if-v-eq4.false)
    (omega arith) (omega arith)))
