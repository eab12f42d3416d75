-- What the calls of a program's loop print is what its turns print.
--     nothing_left     before the first piece nothing is left
--     loop_reads
use mathlib.Core.Path.{◌≡◌, refl, ap, ap₂, ◌∙◌, subst}
use mathlib.Core.Bool.{Bool, true, false}
use mathlib.Core.List.{List, [], ◌∷◌}
use Prim.Native.Nat.{ℕ, ◌-◌, ◌≤◌, min}
use native.Mathlib.Nat.{min-eq_left}
use native.Mathlib.Omega.{arith}
use lib.ListN.{length, take, drop, length-take}
use lib.Seq.{take_at}
use Rattle.text_lines.specs.declared.Reading.{Reading}
use Rattle.text_lines.specs.Turns.{Turn}
use Rattle.text_lines.specs.Reading.{held_in, end_in, at_in, left_of, new_reading, with_piece}
use Rattle.whole_texts.specs.Reading.{Reads, next_piece, one_turn, run_ends, text_ends}
use Rattle.whole_texts.specs.Loop.{Call, Loop, piece_read, called, called_last, end_read}

-- what is left of a piece before its first turn is all of it
left_piece : (reading : Reading) (text : List ℕ) (count : ℕ) → count ≤ length text
    → left_of (with_piece reading count) text ≡ take count text
unfolding end_in at_in
left_piece reading text count few =
    let end : min count (length text) ≡ count = min-eq_left few in
    let at : min 0 (min count (length text)) ≡ 0 = min-eq_left (omega arith) in
    let all : min count (length text) - min 0 (min count (length text)) ≡ count = omega (arith, end, at) in
    ap₂ (λ (n a : ℕ). take n (drop a text)) all at

pub nothing_left : (text : List ℕ) → left_of new_reading text ≡ []
nothing_left text = left_piece new_reading text 0 (omega arith)

module _ {Run : Type 0} (over : Run → Bool) (Tells : Run → List ℕ → List ℕ → Run → Type 0) (room most : ℕ) where
  -- a call is a turn
  call_turn : (run : Run) (reading : Reading) (text line printed : List ℕ) (next : Run) (after : Reading)
      (more : Bool) (line' : List ℕ) → Call over Tells room most run reading text line printed next after more line'
      → Turn over Tells room run (held_in reading line) (left_of reading text) printed next
      (held_in after line') (left_of after text) more
  call_turn run reading text line printed next after more line' call =
      let made = call.given.made call.fits in
      let same : printed ≡ made.printed = call.printed_is
      ∙ ap₂ (λ (n : ℕ) (l : List ℕ). take n l) made.written_is made.out_is
      ∙ take_at made.printed _ (length made.printed) refl in
      rw same made.turn

  pub loop_reads : (run : Run) (reading : Reading) (text line : List ℕ) (pieces : List (List ℕ)) (printed : List ℕ)
      → Loop over Tells room most run reading text line pieces printed
      → Reads over Tells room run (held_in reading line) (left_of reading text ∷ pieces) printed
  loop_reads run reading text line pieces printed (piece_read _ _ _ text' _ piece _ more none_left is loop) =
      let few : length piece ≤ length text' = omega (arith, ap length is, length-take (length piece) text') in
      let rest = loop_reads run (with_piece reading (length piece)) text' line more printed loop in
      rw none_left (next_piece run (held_in reading line) printed (piece ∷ more)
      (subst (λ (l : List ℕ). Reads over Tells room run (held_in reading line) (l ∷ more) printed)
      (left_piece reading text' (length piece) few ∙ is) rest))
  loop_reads run reading text line pieces printed (called _ next _ after _ _ line' told rest _ call loop) =
      one_turn run next (held_in reading line) (held_in after line') (left_of reading text)
      (left_of after text) told rest
      pieces (call_turn run reading text line told next after true line' call)
      (loop_reads next after text line' pieces rest loop)
  loop_reads run reading text line pieces printed (called_last _ next _ after _ _ line' _ _ some call) =
      run_ends run next (held_in reading line) (held_in after line') (left_of reading text) (left_of after text) printed
      pieces some (call_turn run reading text line printed next after false line' call)
  loop_reads run reading text line pieces printed (end_read _ next _ after _ text' _ line' _ none_left call) =
      let turn = call_turn run (with_piece reading 0) text' line printed next after false line' call in
      rw none_left (next_piece run (held_in reading line) printed []
      (text_ends run next (held_in reading line) _ _ printed
      (subst (λ (l : List ℕ). Turn over Tells room run (held_in reading line) l printed next (held_in after line')
      (left_of after text') false) (left_piece reading text' 0 (omega arith)) turn)))
