-- Going on with a text.
--     and_true, and_false     a test beside one that passes, and beside one that fails
--     left_long               how many bytes are left of a piece
--     stepped                 what going on gives, from the line that was cut
use mathlib.Core.Path.{◌≡◌, refl, sym, ap, ◌∙◌}
use mathlib.Core.Bool.{Bool, true, false, cond, not, ◌&&◌}
use mathlib.Core.List.{List, [], ◌∷◌, append-nil}
use Prim.Native.Nat.{ℕ, ◌+◌, ◌-◌, ◌≤◌}
use native.Mathlib.Decide.{dec_lt}
use native.Mathlib.Omega.{arith}
use lib.Dec.{eqb, ltb}
use lib.ListN.{length, take, drop, length-take, length-drop}
use lib.Seq.{take_all}
use borrow.Author.Tests.{eqb-true, eq-eqb, ne_eqb, lt-ltb, le-ltb}
use Rattle.text_lines.specs.declared.Gathered.{Gathered}
use Rattle.text_lines.specs.declared.Reading.{Reading}
use Rattle.text_lines.specs.Cut.{front_of, ends_in, used_of, line_so_far, line_held, Cut}
use Rattle.text_lines.specs.Turns.{none, line_ends, line_held_after}
use Rattle.text_lines.specs.Reading.{held_in, end_in, at_in, left_of, line_read, reading_after, line_after, Stepped}

pub and_true : (a : Bool) → a ≡ (a && true)
and_true true = refl
and_true false = refl

pub and_false : (a : Bool) → false ≡ (a && false)
and_false true = refl
and_false false = refl

no_bytes : (l : List ℕ) → none l ≡ true → l ≡ []
no_bytes [] e = refl
no_bytes (byte ∷ l) e = absurd (omega (arith, eqb-true (length (byte ∷ l)) 0 e))

-- the line, where the piece has no bytes
none_read : (line : List ℕ) (held : ℕ) → line_held line held [] ≡ take held line
unfolding line_so_far front_of
none_read line held =
    ap (λ (l : List ℕ). take (length line) l) (append-nil (take held line))
    ∙ take_all (length line) (take held line) (omega (arith, length-take held line))

module _ (reading : Reading) (text line : List ℕ) (at end : ℕ) (at-is : at ≡ at_in reading text)
    (end_is : end ≡ end_in reading text) (first : at ≤ end) (last : end ≤ length text) where
  pub left_long : length (left_of reading text) ≡ end - at
  left_long =
      rw (sym at-is, sym end_is) (length-take (end - at) (drop at text) ∙ omega (arith, length-drop at text))

  more_left : ltb at end ≡ not (none (left_of reading text))
  more_left = elim (dec_lt at end) [
    | yes h ↦ lt-ltb at end h ∙ ap not (sym (ne_eqb (length (left_of reading text)) 0 (λ e. omega (arith, left_long))))
    | no h ↦ le-ltb at end (omega arith)
        ∙ ap not (sym (eq-eqb (length (left_of reading text)) 0 (omega (arith, left_long))))
  ]

  module _ (cut : Gathered) (line' : List ℕ) (held : ℕ) (ended : Bool)
      (is : Cut line reading.held (take (end - at) (drop at text)) cut line')
      (ended_is : ended ≡ cond (ltb at end) cut.ended (not (eqb cut.held 0)))
      (held_is : held ≡ cond ended 0 cut.held) where
    same : Cut line reading.held (left_of reading text) cut line'
    same = rw (at-is, end_is) at is

    ends : ended ≡ line_ends (held_in reading line) (left_of reading text)
    unfolding line_ends
    ends =
        ended_is ∙ ap (λ (b : Bool). cond b cut.ended (not (eqb cut.held 0))) more_left
        ∙ go (none (left_of reading text)) refl
      where
        go : (b : Bool) → none (left_of reading text) ≡ b → cond (not b) cut.ended (not (eqb cut.held 0))
            ≡ cond b (not (none (held_in reading line))) (ends_in (left_of reading text))
        go true e =
            let held : cut.held ≡ length (held_in reading line) = same.held_is
            ∙ ap (λ (l : List ℕ). length (line_held line reading.held l)) (no_bytes (left_of reading text) e)
            ∙ ap length (none_read line reading.held) in
            ap (λ (n : ℕ). not (eqb n 0)) held
        go false e = same.ended_is

    held_on : held ≡ length (line_held_after (length line) (held_in reading line) (left_of reading text))
    unfolding line_held_after
    held_on =
        held_is ∙ ap (λ (b : Bool). cond b 0 cut.held) ends
        ∙ ap (λ (n : ℕ). cond (line_ends (held_in reading line) (left_of reading text)) 0 n) same.held_is
        ∙ go (line_ends (held_in reading line) (left_of reading text)) (line_read reading text line)
      where
        go : (b : Bool) (l : List ℕ) → cond b 0 (length l) ≡ length (cond b [] l)
        go true l = refl
        go false l = refl

    pub stepped : Stepped reading text line (record {
      reading = record { at = at + cut.used; end = end; held = held };
      ended = ended;
      count = cut.held;
      more = ltb at end;
    }) line'
    unfolding reading_after line_after
    stepped =
        record {
          reading_is =
              ap (λ (n : ℕ). record { at = n + cut.used; end = end; held = held }) at-is
              ∙ ap (λ (n : ℕ). record { at = at_in reading text + n; end = end; held = held }) same.used_is
              ∙ ap (λ (n : ℕ). record {
                at = at_in reading text + used_of
                    (left_of reading text);
                end = n;
                held = held;
              })
              end_is
              ∙ ap (λ (n : ℕ). record {
                at = at_in reading text + used_of (left_of reading text);
                end = end_in reading text;
                held = n;
              }) held_on;
          ended_is = ends;
          count_is = same.held_is;
          more_is = more_left;
          line_is = same.line_is;
        }
