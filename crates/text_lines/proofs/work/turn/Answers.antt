-- `text_lines::turn`: areas that are not the program's, a line that is answered, and a turn in which none ends.
use Rattle.std.proofs.Common.{◌≡◌, ◌∙◌, refl, sym, ℕ, List, Bool, not, ◌&&◌}
use Rattle.text_lines.specs.declared.Awaits.{Awaits}
use Rattle.text_lines.specs.Awaiting.{over}
use Rattle.text_lines.specs.Turned.{areas_fit}
use Rattle.text_lines.proofs.Turns.{count_most, fit_out, turn_refused, turn_goes_on, turn_answers}
use Rattle.text_lines.proofs.work.turn.Goals as goal
use Rattle.text_lines.proofs.work.turn.Goals.{then-step, else-step}

-- the areas, by the lengths that the program's definitions give
areas_are : {room room' room'' most most' most'' : ℕ} (line out : List ℕ) (tested fits : Bool)
    → tested ≡ areas_fit room most line out → room ≡ room' → most ≡ most' → room' ≡ room'' → most' ≡ most''
    → tested ≡ fits → areas_fit room'' most'' line out ≡ fits
areas_are line out tested fits is e f e' f' test = rw (← e', ← f', ← e, ← f) (sym is ∙ test)

-- whether the loop goes on, by what is awaited after the turn
more_is : {R : Type 0} (awaits : R → Awaits) (more before : Bool) (now : Awaits) (run next : R)
    → more ≡ (before && not (over now)) → now ≡ awaits run → run ≡ next → more ≡ (before && not (over (awaits next)))
more_is awaits more before now run next e f g = rw (← g, ← f) e

pub returns-then-not-areas_fit : goal.returns-then-not-areas_fit
returns-then-not-areas_fit g c =
    let a = c.args in
    turn_refused (λ run. over (g.R.LineWork.awaits run)) g.R.LineWork.tells _ _ a.run a.reading a.text.now a.line.now
    a.out.now _
    (areas_are _ _ _ _ c.areas_fit.ensures c.ROOM.ensures c.MOST.ensures g.met.R.LineWork.room_is
    g.met.R.LineWork.most_is c.if-not-areas_fit.true) refl

pub slice_bounds-answer-end : goal.slice_bounds-answer-end
slice_bounds-answer-end g c =
    let a = c.args in
    count_most a.reading a.text.now a.line.now _ _ c.go_on-step.ensures

pub returns : goal.returns
returns g c =
    let a = c.args in
    let awaits = g.R.LineWork.awaits in
    let room =
    fit_out _ _ a.line.now a.out.now
    (areas_are _ _ _ _ c.areas_fit.ensures c.ROOM.ensures c.MOST.ensures refl refl c.if-not-areas_fit.false) in
    let fits = areas_are _ _ _ _ c.areas_fit.ensures c.ROOM.ensures c.MOST.ensures g.met.R.LineWork.room_is
    g.met.R.LineWork.most_is c.if-not-areas_fit.false in
    elim c.if-step.branch [
      | then-step w ↦ rw (w.next-is, w.out-is, w.written-is)
          (turn_answers (λ run. over (awaits run)) g.R.LineWork.tells _ _ a.run a.reading a.text.now a.line.now
          a.out.now _ fits refl _ _ c.go_on-step.ensures w.if-step.true _ _ _ (w.answer-written.ensures.answered room) _
          (more_is awaits _ _ _ _ _ c.goes_on.ensures c.awaits.ensures w.next-is))
      | else-step w ↦ rw (w.next-is, w.out-is, w.written-is)
          (turn_goes_on (λ run. over (awaits run)) g.R.LineWork.tells _ _ a.run a.reading a.text.now a.line.now
          a.out.now _ fits refl _ _ c.go_on-step.ensures w.if-step.false _
          (more_is awaits _ _ _ _ _ c.goes_on.ensures c.awaits.ensures w.next-is))
    ]
