-- What a program prints for the pieces of a text is what the lines of the text print.
--     none_held       of a line that has not begun nothing is held
--     reads_print     where a line that is held in part prints what it prints whole, and nothing is printed once the
--                     run is over
use mathlib.Core.Path.{◌≡◌, refl, sym, ap, ◌∙◌, subst}
use mathlib.Core.Bool.{Bool, true, false, not, false≢true, true≢false}
use mathlib.Core.List.{List, [], ◌∷◌, ◌++◌, append-nil}
use Prim.Native.Nat.{ℕ, zero, suc, ◌<◌}
use native.Mathlib.Omega.{arith}
use lib.ListN.{length, take, drop}
use lib.Seq.{drop-length}
use borrow.Author.Tests.{ne_eqb}
use Rattle.text_lines.specs.Lines.{lines_from}
use Rattle.text_lines.specs.Cut.{front_of, ends_in, used_of, line_so_far}
use Rattle.text_lines.specs.Turns.{line_ends, line_held_after, left_after, goes_on, Turn}
use Rattle.whole_texts.specs.Reading.{joined, Prints, no_line, one_more, Reads, next_piece, one_turn, run_ends}
use Rattle.whole_texts.specs.Reading.{text_ends}
use Rattle.whole_texts.proofs.Cuts.{front_all, cut_goes_on, cut_ended, held_more}

pub none_held : (room : ℕ) → [] ≡ take {A = ℕ} room []
none_held zero = refl
none_held (suc room) = refl

-- a line of which nothing is held has not begun
not_begun : (room : ℕ) (begun : List ℕ) → 0 < room → [] ≡ take room begun → lines_from begun [] ≡ []
unfolding lines_from
not_begun zero begun enough is = absurd (omega (arith, enough))
not_begun (suc room) [] enough is = refl
not_begun (suc room) (byte ∷ begun) enough is = absurd (omega (arith, ap length is))

-- and one of which something is held is the last of the text
has_begun : (room : ℕ) (begun : List ℕ) → 0 < length (take room begun) → lines_from begun [] ≡ begun ∷ []
unfolding lines_from
has_begun zero begun some = absurd (omega (arith, some))
has_begun (suc room) [] some = absurd (omega (arith, some))
has_begun (suc room) (byte ∷ begun) some = refl

module _ (piece : List ℕ) (some : 0 < length piece) where
  -- in a piece that has bytes a line ends at its line feed
  ends_in_is : (held : List ℕ) → line_ends held piece ≡ ends_in piece
  ends_in_is held = unfold line_ends in rw (ne_eqb (length piece) 0 (λ e. omega arith)) refl

  -- and the loop goes on unless the run is over
  goes_on_is : (is_over : Bool) → goes_on piece is_over ≡ not is_over
  goes_on_is is_over = unfold goes_on in rw (ne_eqb (length piece) 0 (λ e. omega arith)) refl

-- the loop goes on in a piece that has bytes
went_on : (piece : List ℕ) (is_over : Bool) → true ≡ goes_on piece is_over → 0 < length piece
unfolding goes_on
went_on [] is_over e = absurd (true≢false e)
went_on (byte ∷ piece) is_over e = omega arith

module _ {Run : Type 0} (over : Run → Bool) (Tells : Run → List ℕ → List ℕ → Run → Type 0) (room : ℕ)
    (enough : 0 < room)
    (capped : (run next : Run) (line text : List ℕ) → Tells run (take room line) text next → Tells run line text next)
    (silent : (run : Run) (lines : List (List ℕ)) → over run ≡ true → Prints Tells run lines []) where
  module _ (run next : Run) (held held' piece piece' text : List ℕ) (more : Bool) (some : 0 < length piece)
      (turn : Turn over Tells room run held piece text next held' piece' more) (behind rest : List ℕ)
      (then : (begun' : List ℕ) → held' ≡ take room begun'
      → Prints Tells next (lines_from begun' (piece' ++ behind)) rest)
      (begun : List ℕ) (is : held ≡ take room begun) where
    -- a turn in which a line ends
    turn_ends : ends_in piece ≡ true → Prints Tells run (lines_from begun (piece ++ behind)) (text ++ rest)
    unfolding line_so_far line_held_after left_after
    turn_ends ends =
        let ended : line_ends held piece ≡ true = ends_in_is piece some held ∙ ends in
        let none_then : held' ≡ take room [] = turn.held_is ∙ rw ended (none_held room) in
        let told : Tells run (begun ++ front_of piece) text next =
        capped run next (begun ++ front_of piece) text (subst (λ (l : List ℕ). Tells run l text next)
        (ap (λ (l : List ℕ). take room (l ++ front_of piece)) is ∙ held_more room begun (front_of piece))
        (turn.line_ends_is ended)) in
        let lines : Prints Tells next (lines_from [] (drop (used_of piece) piece ++ behind)) rest =
        subst (λ (l : List ℕ). Prints Tells next (lines_from [] (l ++ behind)) rest) turn.piece_is
        (then [] none_then) in
        subst (λ (l : List (List ℕ)). Prints Tells run l (text ++ rest)) (sym (cut_ended piece behind begun ends))
        (one_more run next (begun ++ front_of piece) text rest _ told lines)

    -- one in which the line goes on
    turn_goes_on : ends_in piece ≡ false → Prints Tells run (lines_from begun (piece ++ behind)) (text ++ rest)
    unfolding line_so_far line_held_after left_after used_of
    turn_goes_on goes =
        let open-line : line_ends held piece ≡ false = ends_in_is piece some held ∙ goes in
        let same = turn.line_goes_on open-line in
        let held_then : held' ≡ take room (begun ++ piece) =
        turn.held_is ∙ rw open-line (ap (λ (l : List ℕ). take room (held ++ l)) (front_all piece goes)
        ∙ ap (λ (l : List ℕ). take room (l ++ piece)) is ∙ held_more room begun piece) in
        let none_left : piece' ≡ [] = turn.piece_is ∙ rw goes (drop-length piece) in
        let lines : Prints Tells run (lines_from (begun ++ piece) behind) rest =
        subst (λ (l : List ℕ). Prints Tells run (lines_from (begun ++ piece) (l ++ behind)) rest) none_left
        (subst (λ (r : Run). Prints Tells r (lines_from (begun ++ piece) (piece' ++ behind)) rest) same.1
        (then (begun ++ piece) held_then)) in
        subst (λ (l : List (List ℕ)). Prints Tells run l (text ++ rest)) (sym (cut_goes_on piece behind begun goes))
        (subst (λ (t : List ℕ). Prints Tells run (lines_from (begun ++ piece) behind) (t ++ rest)) (sym same.0) lines)

    turn_prints : Prints Tells run (lines_from begun (piece ++ behind)) (text ++ rest)
    turn_prints = go (ends_in piece) refl
      where
        go : (b : Bool) → ends_in piece ≡ b → Prints Tells run (lines_from begun (piece ++ behind)) (text ++ rest)
        go true e = turn_ends e
        go false e = turn_goes_on e

  -- the turn at the end of the text
  end_prints : (run next : Run) (held held' piece' text : List ℕ) (more : Bool)
      → Turn over Tells room run held [] text next held' piece' more → (begun : List ℕ)
      → held ≡ take room begun → Prints Tells run (lines_from begun []) text
  unfolding line_ends line_so_far front_of
  end_prints run next [] held' piece' text more turn begun is =
      subst (λ (lines : List (List ℕ)). Prints Tells run lines text) (sym (not_begun room begun enough is))
      (subst (λ (t : List ℕ). Prints Tells run [] t) (sym (turn.line_goes_on refl).0) (no_line run))
  end_prints run next (byte ∷ held) held' piece' text more turn begun is =
      let ended : line_ends (byte ∷ held) [] ≡ true = ap not (ne_eqb (suc (length held)) 0 (λ e. omega arith)) in
      let whole : take room ((byte ∷ held) ++ []) ≡ take room begun =
      ap (λ (l : List ℕ). take room (l ++ [])) is ∙ held_more room begun []
      ∙ ap (λ (l : List ℕ). take room l) (append-nil begun) in
      subst (λ (lines : List (List ℕ)). Prints Tells run lines text)
      (sym (has_begun room begun (subst (λ (l : List ℕ). 0 < length l) is (omega arith))))
      (subst (λ (t : List ℕ). Prints Tells run (begun ∷ []) t) (append-nil text)
      (one_more run next begun text [] [] (capped run next begun text
      (subst (λ (l : List ℕ). Tells run l text next) whole (turn.line_ends_is ended))) (no_line next)))

  -- a turn after which the run is over
  over_then : (is_over : Bool) (piece : List ℕ) → 0 < length piece → false ≡ goes_on piece is_over → is_over ≡ true
  over_then true piece some e = refl
  over_then false piece some e = absurd (false≢true (e ∙ goes_on_is piece some false))

  pub reads_print : (run : Run) (held text : List ℕ) (pieces : List (List ℕ))
      → Reads over Tells room run held pieces text
      → (begun : List ℕ) → held ≡ take room begun → Prints Tells run (lines_from begun (joined pieces)) text
  unfolding joined
  reads_print run held text pieces (next_piece _ _ _ more reads) begun is =
      reads_print run held text more reads begun is
  reads_print run held text pieces (one_turn _ next _ held' piece piece' told rest more turn reads) begun is =
      turn_prints run next held held' piece piece' told true (went_on piece (over next) turn.more_is) turn
      (joined more) rest (λ begun' is'. reads_print next held' rest (piece' ∷ more) reads begun' is') begun is
  reads_print run held text pieces (run_ends _ next _ held' piece piece' _ more some turn) begun is =
      subst (λ (t : List ℕ). Prints Tells run (lines_from begun (piece ++ joined more)) t) (append-nil text)
      (turn_prints run next held held' piece piece' text false some turn (joined more) []
      (λ begun' is'. silent next _ (over_then (over next) piece some turn.more_is)) begun is)
  reads_print run held text pieces (text_ends _ next _ held' piece' _ turn) begun is =
      end_prints run next held held' piece' text false turn begun is
