-- The turns that a program's function makes.
--     held_after, left_after_is     what is held and left after a turn, by what is returned and left in the areas
--     count_most                    a line that has ended lies in its area
--     fit_line, fit_out             areas that are the program's
--     turn_refused                  areas that aren't
--     written_most                  what is to be printed lies in the output
--     turn_goes_on, turn_answers    a turn in which no line ends, and one in which a line is answered
use mathlib.Core.Path.{◌≡◌, refl, sym, ap, ap₂, ◌∙◌, subst}
use mathlib.Core.Bool.{Bool, true, false, cond, not, ◌&&◌, false≢true, true≢false}
use mathlib.Core.List.{List, [], ◌++◌}
use Prim.Native.Nat.{ℕ, ◌+◌, ◌-◌, ◌≤◌, min}
use native.Mathlib.Nat.{min-eq_left, min-le_right}
use native.Mathlib.Omega.{arith}
use lib.Dec.{eqb, leb}
use lib.ListN.{length, take, drop, length-append, length-drop}
use lib.Seq.{take_at, take-add, drop_at, drop-drop, length-take-le}
use borrow.Author.Tests.{eqb-true, leb-true}
use Rattle.lists.proofs.Bools.{and_both}
use Rattle.settings.specs.Answers.{Answer}
use Rattle.settings.specs.Answers.{number_of}
use Rattle.text_lines.specs.declared.Reading.{Reading}
use Rattle.text_lines.specs.declared.Step.{Step}
use Rattle.text_lines.specs.Cut.{used_of, line_so_far}
use Rattle.text_lines.specs.Turns.{line_ends, line_held_after, left_after, goes_on}
use Rattle.text_lines.specs.Reading.{held_in, end_in, at_in, left_of, line_read, reading_after, line_after, Stepped}
use Rattle.text_lines.specs.Answer.{SomeTold}
use Rattle.text_lines.specs.Turned.{areas_fit, TurnGiven}
use Rattle.text_lines.proofs.Cuts.{used_most}
use Rattle.text_lines.proofs.Steps.{left_long}

-- behind the first k bytes of a part
drop_part : (k m : ℕ) (l : List ℕ) → k ≤ length l → drop k (take (k + m) l) ≡ take m (drop k l)
drop_part k m l few =
    ap (λ (part : List ℕ). drop k part) (take-add k m l)
    ∙ drop_at (take k l) (take m (drop k l)) k (length-take-le k l few)

module _ (reading : Reading) (text line : List ℕ) where
  pub held_after : held_in (reading_after reading text line) (line_after reading text line)
      ≡ line_held_after (length line) (held_in reading line) (left_of reading text)
  unfolding reading_after line_after line_held_after
  held_after = go (line_ends (held_in reading line) (left_of reading text)) (line_read reading text line)
    where
      go : (b : Bool) (l : List ℕ) → take (length (cond b [] l)) (l ++ drop (length l) line) ≡ cond b [] l
      go true l = refl
      go false l = take_at l (drop (length l) line) (length l) refl

  -- the places of the piece
  at_most : at_in reading text ≤ end_in reading text
  at_most = unfold at_in in min-le_right reading.at (end_in reading text)

  end_most : end_in reading text ≤ length text
  end_most = unfold end_in in min-le_right reading.end (length text)

  used_few : used_of (left_of reading text) ≤ end_in reading text - at_in reading text
  used_few =
      omega (arith, used_most (left_of reading text), left_long reading text line _ _ refl refl at_most end_most)

  end_after : end_in (reading_after reading text line) text ≡ end_in reading text
  end_after = unfold end_in reading_after in min-eq_left end_most

  at_after : at_in (reading_after reading text line) text ≡ at_in reading text + used_of (left_of reading text)
  unfolding at_in reading_after
  at_after =
      ap (λ (n : ℕ). min (at_in reading text + used_of (left_of reading text)) n) end_after
      ∙ min-eq_left (omega (arith, used_few, at_most))

  pub left_after_is : left_of (reading_after reading text line) text ≡ left_after (left_of reading text)
  unfolding left_after
  left_after_is =
      let used = used_of (left_of reading text) in
      let at = at_in reading text in
      let end = end_in reading text in
      let sum : used + (end - (at + used)) ≡ end - at = omega (arith, used_few) in
      let few : used ≤ length (drop at text) = omega (arith, used_few, at_most, end_most, length-drop at text) in
      ap₂ (λ (e a : ℕ). take (e - a) (drop a text)) end_after at_after
      ∙ ap (λ (l : List ℕ). take (end - (at + used)) l) (sym (drop-drop used at text))
      ∙ sym (drop_part used (end - (at + used)) (drop at text) few)
      ∙ ap (λ (n : ℕ). drop used (take n (drop at text))) sum

  pub count_most : (step : Step) (line' : List ℕ) → Stepped reading text line step line' → step.count ≤ length line'
  unfolding line_after
  count_most step line' is =
      let read : List ℕ = line_read reading text line in
      omega (arith, is.count_is, ap length is.line_is, length-append read (drop (length read) line))

-- areas that are the program's
module _ (room most : ℕ) (line out : List ℕ) (fits : areas_fit room most line out ≡ true) where
  both : (eqb (length line) room ≡ true) × (leb most (length out) ≡ true)
  both = unfold areas_fit in and_both (eqb (length line) room) (leb most (length out)) fits

  pub fit_line : length line ≡ room
  fit_line = eqb-true (length line) room both.0

  pub fit_out : most ≤ length out
  fit_out = leb-true most (length out) both.1

module _ {Run : Type 0} (over : Run → Bool) (Tells : Run → List ℕ → List ℕ → Run → Type 0) (room most : ℕ)
    (run : Run) (reading : Reading) (text line out : List ℕ) (answer : Answer) where
  pub turn_refused : areas_fit room most line out ≡ false → number_of answer ≡ 5
      → TurnGiven over Tells room most run reading text line out answer run reading 0 false line out
  turn_refused unfit five =
      record {
        refused = λ _.
            record {
              answer_is = five;
              run_is = refl;
              reading_is = refl;
              written_is = refl;
              more_is = refl;
              line_is = refl;
              out_is = refl;
            };
        made = λ fits. absurd (false≢true (sym unfit ∙ fits));
      }

  pub written_most : (next : Run) (after : Reading) (written : ℕ) (more : Bool) (line' out' : List ℕ)
      → TurnGiven over Tells room most run reading text line out answer next after written more line' out'
      → written ≤ length out'
  written_most next after written more line' out' given = go (areas_fit room most line out) refl
    where
      go : (b : Bool) → areas_fit room most line out ≡ b → written ≤ length out'
      go true e =
          let made = given.made e in
          let long = length-append made.printed (drop (length made.printed) out) in
          omega (arith, made.written_is, ap length made.out_is, long)
      go false e = omega (arith, (given.refused e).written_is)

  module _ (fits : areas_fit room most line out ≡ true) (zero : number_of answer ≡ 0) (step : Step)
      (line' : List ℕ) (is : Stepped reading text line step line') where
    long : length line ≡ room
    long = fit_line room most line out fits

    held_same : held_in step.reading line' ≡ line_held_after room (held_in reading line) (left_of reading text)
    held_same =
        ap₂ held_in is.reading_is is.line_is ∙ held_after reading text line
        ∙ ap (λ (n : ℕ). line_held_after n (held_in reading line) (left_of reading text)) long

    left_same : left_of step.reading text ≡ left_after (left_of reading text)
    left_same = ap (λ (r : Reading). left_of r text) is.reading_is ∙ left_after_is reading text line

    more_same : (more is_over : Bool) → more ≡ (step.more && not is_over) → more
        ≡ goes_on (left_of reading text) is_over
    unfolding goes_on
    more_same more is_over e = e ∙ ap (λ (b : Bool). b && not is_over) is.more_is

    pub turn_goes_on : step.ended ≡ false → (more : Bool) → more ≡ (step.more && not (over run))
        → TurnGiven over Tells room most run reading text line out answer run step.reading 0 more line' out
    turn_goes_on goes more is-more =
        record {
          refused = λ unfit. absurd (true≢false (sym fits ∙ unfit));
          made = λ _.
              record {
                answer_is = zero;
                printed = [];
                turn = record {
                  line_ends_is = λ ends. absurd (false≢true (sym goes ∙ is.ended_is ∙ ends));
                  line_goes_on = λ _. (refl, refl);
                  held_is = held_same;
                  piece_is = left_same;
                  more_is = more_same more (over run) is-more;
                };
                reading_is = is.reading_is;
                line_is = is.line_is;
                written_is = refl;
                out_is = refl;
              };
        }

    -- the line that stands at the front of its area
    ended_line : take (step.count - 0) line' ≡ line_so_far room (held_in reading line) (left_of reading text)
    unfolding line_after
    ended_line =
        let all : step.count - 0 ≡ length (line_read reading text line) = omega (arith, is.count_is) in
        ap₂ (λ (n : ℕ) (l : List ℕ). take n l) all is.line_is
        ∙ take_at (line_read reading text line) _ (length (line_read reading text line)) refl
        ∙ ap (λ (n : ℕ). line_so_far n (held_in reading line) (left_of reading text)) long

    pub turn_answers : step.ended ≡ true → (next : Run) (written : ℕ) (out' : List ℕ)
        → SomeTold (Tells run (take (step.count - 0) line')) out next written out'
        → (more : Bool) → more ≡ (step.more && not (over next))
        → TurnGiven over Tells room most run reading text line out answer next step.reading written more line' out'
    turn_answers ends next written out' told more is-more =
        record {
          refused = λ unfit. absurd (true≢false (sym fits ∙ unfit));
          made = λ _.
              record {
                answer_is = zero;
                printed = told.text;
                turn = record {
                  line_ends_is = λ _.
                      rw told.told.run_is
                      (subst (λ (l : List ℕ). Tells run l told.text told.next) ended_line told.says);
                  line_goes_on = λ goes. absurd (true≢false (sym ends ∙ is.ended_is ∙ goes));
                  held_is = held_same;
                  piece_is = left_same;
                  more_is = more_same more (over next) is-more;
                };
                reading_is = is.reading_is;
                line_is = is.line_is;
                written_is = told.told.written_is;
                out_is = told.told.out_is;
              };
        }
