-- Turns of the program.
--     coding_turn_unique                     any two results of a turn are equal
--     coding_turn_is                         what a turn prints and the run after it, as equations
use mathlib.Core.Path.{◌≡◌, refl, sym, ap₂, ◌∙◌}
use mathlib.Core.Bool.{Bool, true, false, cond}
use mathlib.Core.List.{List, []}
use Prim.Native.Nat.{ℕ}
use lib.ListN.{length, take}
use lib.Seq.{take_at}
use Rattle.text_lines.specs.declared.Reading.{Reading}
use Rattle.text_lines.specs.declared.work.Turned.{Turned}
use Rattle.text_lines.specs.Cut.{line_so_far}
use Rattle.text_lines.specs.Turns.{line_ends, Turn}
use Rattle.text_lines.specs.Reading.{held_in, left_of}
use Rattle.text_lines.specs.Turned.{areas_fit}
use Rattle.text_lines.proofs.Unique.{given_unique, same_turned}
use Rattle.coding_lines.specs.declared.Run.{Run}
use Rattle.coding_lines.specs.Lines.{line_text, run_after}
use Rattle.coding_lines.specs.Turns.{CodingTells, coding_over, coding_room, coding_answer_room, CodingTurn}

pub coding_turn_unique : (run : Run) (reading : Reading) (text line out : List ℕ) (r s : Turned Run)
    (line' line'' out' out'' : List ℕ) → CodingTurn run reading text line out r line' out'
    → CodingTurn run reading text line out s line'' out'' → (r ≡ s) × (line' ≡ line'') × (out' ≡ out'')
coding_turn_unique run reading text line out r s line' line'' out' out'' one other =
    let same =
    given_unique coding_over CodingTells
    (λ (run : Run) (line text text₁ : List ℕ) (next next₁ : Run) (f : CodingTells run line text next)
    (g : CodingTells run line text₁ next₁). (f.0 ∙ sym g.0, f.1 ∙ sym g.1))
    coding_room run coding_answer_room reading text line out _ _ _ _ _ _ _ _ _ _ _ _ _ _ one other in
    (same_turned r s same.0 same.1 same.2 same.3 same.4, same.5, same.6)

-- a turn in which no line ends prints nothing, and leaves the run
turn_text : (run : Run) (held piece text : List ℕ) (next : Run) (held' piece' : List ℕ) (more : Bool)
    → Turn coding_over CodingTells coding_room run held piece text next held' piece' more
    → (text ≡ cond (line_ends held piece) (line_text run (line_so_far coding_room held piece)) [])
    × (next ≡ cond (line_ends held piece) (run_after run (line_so_far coding_room held piece)) run)
turn_text run held piece text next held' piece' more turn = go (line_ends held piece) refl
  where
    go : (b : Bool) → line_ends held piece ≡ b
        → (text ≡ cond b (line_text run (line_so_far coding_room held piece)) [])
        × (next ≡ cond b (run_after run (line_so_far coding_room held piece)) run)
    go true e = turn.line_ends_is e
    go false e = turn.line_goes_on e

pub coding_turn_is : (run : Run) (reading : Reading) (text line out : List ℕ) (r : Turned Run) (line' out' : List ℕ)
    → CodingTurn run reading text line out r line' out' → areas_fit coding_room coding_answer_room line out ≡ true
    → (take r.written out' ≡ cond (line_ends (held_in reading line) (left_of reading text))
    (line_text run (line_so_far coding_room (held_in reading line) (left_of reading text))) [])
    × (r.run ≡ cond (line_ends (held_in reading line) (left_of reading text))
    (run_after run (line_so_far coding_room (held_in reading line) (left_of reading text))) run)
coding_turn_is run reading text line out r line' out' given fits =
    let made = given.made fits in
    let is = turn_text run _ _ _ _ _ _ _ made.turn in
    let front : take r.written out' ≡ made.printed =
    ap₂ (λ (n : ℕ) (l : List ℕ). take n l) made.written_is made.out_is
    ∙ take_at made.printed _ (length made.printed) refl in
    (front ∙ is.0, is.1)
