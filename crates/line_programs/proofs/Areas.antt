-- The areas of a program's loop.
--     areas_are                 the test of the lengths, by the program's definitions
--     own_number, other_number  the number that a run answers
--     own_is                    what the test says of the lengths
--     own_run                   areas of the program's lengths are not refused
--     turn_made                 a turn in areas of the program's lengths is not refused
use mathlib.Core.Path.{◌≡◌, refl, sym, ◌∙◌}
use mathlib.Core.Bool.{Bool, true, false, ◌&&◌}
use mathlib.Core.List.{List}
use Prim.Native.Nat.{ℕ, ◌<◌, ◌^◌}
use native.Mathlib.Omega.{arith}
use lib.Dec.{eqb, ltb}
use lib.ListN.{length}
use borrow.Author.Tests.{eqb-true, eq-eqb, le-leb, ltb-true, lt-ltb}
use Rattle.std.specs.Prelude.{is_ok}
use Rattle.lists.proofs.Bools.{and_both}
use Rattle.settings.specs.Answers.{Answer, number_of}
use Rattle.settings.proofs.Answers.{ok_is}
use Rattle.text_lines.specs.declared.Reading.{Reading}
use Rattle.text_lines.specs.Turned.{areas_fit, TurnGiven}
use Rattle.line_programs.specs.Areas.{own_areas, areas_number}

pub areas_are : {room room' room'' most most' most'' : ℕ} (line answer : ℕ) (tested own : Bool)
    → tested ≡ own_areas room most line answer → room ≡ room' → most ≡ most' → room' ≡ room'' → most' ≡ most''
    → tested ≡ own → own_areas room'' most'' line answer ≡ own
areas_are line answer tested own is e f e' f' test = rw (← e', ← f', ← e, ← f) (sym is ∙ test)

module _ (room most line answer : ℕ) where
  pub own_number : own_areas room most line answer ≡ true → 0 ≡ areas_number room most line answer
  own_number own = unfold areas_number in rw own refl

  pub other_number : own_areas room most line answer ≡ false → 5 ≡ areas_number room most line answer
  other_number other = unfold areas_number in rw other refl

  pub own_is : own_areas room most line answer ≡ true
      → (line ≡ room) × (answer ≡ most) × (line < 2 ^ 63) × (answer < 2 ^ 63)
  own_is own =
      unfold own_areas in
      let all = and_both (eqb line room && eqb answer most) (ltb line (2 ^ 63) && ltb answer (2 ^ 63)) own in
      let same = and_both (eqb line room) (eqb answer most) all.0 in
      let few = and_both (ltb line (2 ^ 63)) (ltb answer (2 ^ 63)) all.1 in (
        eqb-true line room same.0,
        eqb-true answer most same.1,
        ltb-true line (2 ^ 63) few.0,
        ltb-true answer (2 ^ 63) few.1,
      )

  pub own_run : line ≡ room → answer ≡ most → line < 2 ^ 63 → answer < 2 ^ 63 → areas_number room most line answer ≡ 0
  own_run e f less few =
      unfold areas_number own_areas in
      rw (eq-eqb line room e, eq-eqb answer most f, lt-ltb line (2 ^ 63) less, lt-ltb answer (2 ^ 63) few) refl

module _ (room most : ℕ) (line out : List ℕ) (line_is : room ≡ length line) (out_is : most ≡ length out) where
  fits : areas_fit room most line out ≡ true
  fits =
      unfold areas_fit in
      rw (eq-eqb (length line) room (sym line_is), le-leb most (length out) (omega (arith, out_is))) refl

  pub turn_made : {Run : Type 0} {over : Run → Bool} {Tells : Run → List ℕ → List ℕ → Run → Type 0} {run next : Run}
      {reading after : Reading} {text line' out' : List ℕ} {answer : Answer} {written : ℕ} {more : Bool}
      → TurnGiven over Tells room most run reading text line out answer next after written more line' out'
      → is_ok answer ≡ true
  turn_made {answer = answer} given = ok_is answer ∙ eq-eqb (number_of answer) 0 (given.made fits).answer_is
