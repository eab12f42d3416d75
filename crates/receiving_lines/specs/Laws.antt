-- What the program's code goes by.
--     room_is, answer_room_is                      the lengths of its areas
--     first_tells, frames_tell, nothing_tells      what a line tells, by what is awaited
use Rattle.std.specs.Prelude.{◌≡◌, List, [], ℕ, ◌*◌}
use Rattle.std.proofs.Common.{refl, sym, ap, ◌∙◌, arith}
use Rattle.text_lines.specs.declared.Awaits.TheVariants.{FirstLine, Frames, Nothing}
use Rattle.text_lines.specs.First.{first_text}
use Rattle.text_lines.specs.Turned.{line_room, answer_room}
use Rattle.text_lines.proofs.Small.{largest_sizes}
use Rattle.receiving_lines.specs.declared.Run.{Run}
use Rattle.receiving_lines.specs.Lines.{receiving_begun, FrameTold, LineTold}
use Rattle.receiving_lines.specs.Turns.{receiving_room, receiving_answer_room}

pub room_is : 78337 ≡ receiving_room
room_is = unfold receiving_room line_room in ap line_room (sym largest_sizes.1)

pub answer_room_is : 47631 ≡ receiving_answer_room
unfolding receiving_answer_room answer_room
answer_room_is = ap (λ (packets : ℕ). answer_room (189 * packets)) (sym largest_sizes.0)

-- what is awaited is one thing alone
first≢frames : FirstLine ≡ Frames → ⊥
first≢frames e = let z : ◌≡◌ {A = ℕ} 0 1 = cc in omega arith

first≢nothing : FirstLine ≡ Nothing → ⊥
first≢nothing e = let z : ◌≡◌ {A = ℕ} 0 1 = cc in omega arith

frames≢nothing : Frames ≡ Nothing → ⊥
frames≢nothing e = let z : ◌≡◌ {A = ℕ} 0 1 = cc in omega arith

pub first_tells : (run : Run) (line : List ℕ) → run.awaits ≡ FirstLine
    → LineTold run line (first_text line) (receiving_begun run line)
first_tells run line e = record {
  first = λ _. (refl, refl);
  frame = λ f. absurd (first≢frames (sym e ∙ f));
  nothing = λ f. absurd (first≢nothing (sym e ∙ f));
}

pub frames_tell : (run : Run) (line text : List ℕ) (next : Run) → run.awaits ≡ Frames
    → FrameTold run line text next → LineTold run line text next
frames_tell run line text next e told = record {
  first = λ f. absurd (first≢frames (sym f ∙ e));
  frame = λ _. told;
  nothing = λ f. absurd (frames≢nothing (sym e ∙ f));
}

pub nothing_tells : (run : Run) (line : List ℕ) → run.awaits ≡ Nothing → LineTold run line [] run
nothing_tells run line e = record {
  first = λ f. absurd (first≢nothing (sym f ∙ e));
  frame = λ f. absurd (frames≢nothing (sym f ∙ e));
  nothing = λ _. (refl, refl);
}
