-- `line_programs::run_in_own_areas`: areas that are not the program's, and those that are.
use Rattle.std.proofs.Common.{sym, ◌∙◌, arith, ℕ}
use lib.ListN.{length-replicate}
use Rattle.line_programs.proofs.Areas.{areas_are, own_number, other_number, own_is}
use Rattle.line_programs.proofs.run_in_own_areas.Goals as goal

pub returns-then-not-own_areas : goal.returns-then-not-own_areas
returns-then-not-own_areas g c =
    other_number _ _ _ _ (areas_are _ _ _ _ c.own_areas.ensures c.ROOM.ensures c.MOST.ensures g.met.R.LineWork.room_is
    g.met.R.LineWork.most_is c.if-not-own_areas.true)

pub whole_as_slice-turns : goal.whole_as_slice-turns
whole_as_slice-turns g c =
    let own = own_is _ _ _ _ (sym c.own_areas.ensures ∙ c.if-not-own_areas.false) in
    omega (arith, own.2)

pub whole_as_slice-turns-2 : goal.whole_as_slice-turns-2
whole_as_slice-turns-2 g c =
    let own = own_is _ _ _ _ (sym c.own_areas.ensures ∙ c.if-not-own_areas.false) in
    omega (arith, own.3)

pub turns-requires : goal.turns-requires
turns-requires g c =
    let own =
    own_is _ _ _ _ (areas_are _ _ _ _ c.own_areas.ensures c.ROOM.ensures c.MOST.ensures g.met.R.LineWork.room_is
    g.met.R.LineWork.most_is c.if-not-own_areas.false) in (
      sym (length-replicate {A = ℕ} g.row.LINE 0 ∙ own.0),
      sym (length-replicate {A = ℕ} g.row.ANSWER 0 ∙ own.1),
    )

pub returns : goal.returns
returns g c =
    own_number _ _ _ _ (areas_are _ _ _ _ c.own_areas.ensures c.ROOM.ensures c.MOST.ensures g.met.R.LineWork.room_is
    g.met.R.LineWork.most_is c.if-not-own_areas.false)
