-- Where each line is answered, each text is, in whatever pieces it comes.
--     Answer, Printed     a line that is answered, a text that is printed
--     reads_all
use mathlib.Core.Path.{◌≡◌, refl, sym, ◌∙◌}
use mathlib.Core.Bool.{Bool, true, false, false≢true, true≢false}
use mathlib.Core.List.{List, [], ◌∷◌, ◌++◌}
use Prim.Native.Nat.{ℕ, zero, suc, ◌+◌, ◌<◌, ◌≤◌}
use native.Mathlib.Omega.{arith}
use lib.ListN.{length, length-drop}
use Rattle.text_lines.specs.Cut.{used_of, line_so_far}
use Rattle.text_lines.specs.Turns.{line_ends, line_held_after, left_after, goes_on, Turn}
use Rattle.text_lines.proofs.Cuts.{used_some}
use Rattle.whole_texts.specs.Reading.{Reads, next_piece, one_turn, run_ends, text_ends}

pub record Answer {Run : Type 0} (Tells : Run → List ℕ → List ℕ → Run → Type 0) (run : Run)
    (line : List ℕ) : Type 0 where
  pub text : List ℕ
  pub next : Run
  pub told : Tells run line text next

pub record Printed {Run : Type 0} (over : Run → Bool) (Tells : Run → List ℕ → List ℕ → Run → Type 0)
    (room : ℕ) (run : Run)
    (held : List ℕ) (pieces : List (List ℕ)) : Type 0 where
  pub text : List ℕ
  pub reads : Reads over Tells room run held pieces text

-- what is left to do: the pieces and their bytes
left : List (List ℕ) → ℕ
left [] = 0
left (piece ∷ pieces) = suc (length piece + left pieces)

-- a turn uses up a part of its piece
shorter : (piece : List ℕ) → 0 < length piece → length (left_after piece) < length piece
unfolding left_after
shorter piece some =
    let used = used_some piece some in omega (arith, used.0, used.1, length-drop (used_of piece) piece)

module _ {Run : Type 0} (over : Run → Bool) (Tells : Run → List ℕ → List ℕ → Run → Type 0) (room : ℕ)
    (answer : (run : Run) (line : List ℕ) → Answer Tells run line) where
  -- a turn that is made
  record Made (run : Run) (held piece : List ℕ) : Type 0 where
    pub text : List ℕ
    pub next : Run
    pub turn : Turn over Tells room run held piece text next (line_held_after room held piece) (left_after piece)
        (goes_on piece (over next))

  make : (run : Run) (held piece : List ℕ) → Made run held piece
  make run held piece = go (line_ends held piece) refl
    where
      go : (b : Bool) → line_ends held piece ≡ b → Made run held piece
      go true e =
          let one = answer run (line_so_far room held piece) in
          record {
            text = one.text;
            next = one.next;
            turn = record {
              line_ends_is = λ _. one.told;
              line_goes_on = λ f. absurd (true≢false (sym e ∙ f));
              held_is = refl;
              piece_is = refl;
              more_is = refl;
            };
          }
      go false e =
          record {
            text = [];
            next = run;
            turn = record {
              line_ends_is = λ f. absurd (false≢true (sym e ∙ f));
              line_goes_on = λ _. (refl, refl);
              held_is = refl;
              piece_is = refl;
              more_is = refl;
            };
          }

  -- a turn on a piece that has bytes, where what is then left is printed
  one_piece : (n : ℕ) (run : Run) (held piece : List ℕ) (pieces : List (List ℕ)) → 0 < length piece
      → left (piece ∷ pieces) ≤ suc n
      → ((run : Run) (held : List ℕ) (pieces : List (List ℕ)) → left pieces ≤ n
      → Printed over Tells room run held pieces) → Printed over Tells room run held (piece ∷ pieces)
  unfolding left
  one_piece n run held piece pieces some few then =
      let one = make run held piece in
      go (goes_on piece (over one.next)) one one.turn
    where
      go : (b : Bool) (one : Made run held piece)
          → Turn over Tells room run held piece one.text one.next (line_held_after room held piece)
          (left_after piece) b
          → Printed over Tells room run held (piece ∷ pieces)
      go true one turn =
          let rest = then one.next (line_held_after room held piece) (left_after piece ∷ pieces)
          (omega (arith, few, shorter piece some)) in
          record {
            text = one.text ++ rest.text;
            reads = one_turn run one.next held _ piece _ one.text rest.text pieces turn rest.reads;
          }
      go false one turn =
          record {
            text = one.text;
            reads = run_ends run one.next held _ piece _ one.text pieces some turn;
          }

  -- the end of the text
  end : (run : Run) (held : List ℕ) → Printed over Tells room run held []
  unfolding goes_on
  end run held =
      let last = make run held [] in
      record { text = last.text; reads = text_ends run last.next held _ _ last.text last.turn }

  next_turn : (n : ℕ) → ((run : Run) (held : List ℕ) (pieces : List (List ℕ)) → left pieces ≤ n
      → Printed over Tells room run held pieces) → (run : Run)
      (held : List ℕ) (pieces : List (List ℕ)) → left pieces ≤ suc n → Printed over Tells room run held pieces
  unfolding left
  next_turn n then run held [] few = end run held
  next_turn n then run held ([] ∷ pieces) few =
      let rest = then run held pieces (omega (arith, few)) in
      record { text = rest.text; reads = next_piece run held rest.text pieces rest.reads }
  next_turn n then run held ((byte ∷ piece) ∷ pieces) few =
      one_piece n run held (byte ∷ piece) pieces (omega arith) few then

  turns : (n : ℕ) (run : Run) (held : List ℕ) (pieces : List (List ℕ)) → left pieces ≤ n
      → Printed over Tells room run held pieces
  unfolding left
  turns zero run held [] few = end run held
  turns zero run held (piece ∷ pieces) few = absurd (omega (arith, few))
  turns (suc n) run held pieces few = next_turn n (λ r h p f. turns n r h p f) run held pieces few

  pub reads_all : (run : Run) (held : List ℕ) (pieces : List (List ℕ)) → Printed over Tells room run held pieces
  reads_all run held pieces = turns (left pieces) run held pieces (omega arith)
