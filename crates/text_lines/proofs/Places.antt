-- Where the first line feed of a text stands, and a line that is held in an area.
--     front_found, front_none              the bytes before the first line feed, and where there is none
--     Held                                 what is held of a line once i bytes of a piece are taken
--     held_start, held_more, held_full     before the first byte; one more; one more where there is no room
--     held_long, held_as                   the area keeps its length; the same, said otherwise
--     cut_found, cut_none                  at the line feed, and at the end of the piece
use mathlib.Core.Path.{◌≡◌, refl, sym, ap, ap₂, ◌∙◌}
use mathlib.Core.Bool.{Bool, true, false}
use mathlib.Core.Logic.{◌⊎◌, ⊎_elim}
use mathlib.Core.List.{List, [], ◌∷◌, ◌++◌, append_assoc, append-nil}
use Prim.Native.Nat.{ℕ, zero, suc, ◌+◌, ◌<◌, ◌≤◌}
use native.Mathlib.Numerals.{add-one}
use native.Mathlib.Omega.{arith}
use lib.ListN.{length, take, drop, set, get_or, length-append, length-take, length-drop, take-append-drop}
use lib.Seq.{take_all, take-length, take-suc, take-append-le, set_at, drop-cons, length-take-le}
use borrow.Author.Tests.{eq-eqb, ne_eqb}
use Rattle.text_lines.specs.Cut.{front_of, ends_in, used_of, line_so_far, line_held, Cut}

pub front_found : (text : List ℕ) (i : ℕ) → i < length text → ((k : ℕ) → k < i → get_or text k 0 ≡ 10 → ⊥)
    → get_or text i 0 ≡ 10 → (front_of text ≡ take i text) × (ends_in text ≡ true)
unfolding front_of ends_in
front_found [] i h before e = absurd (omega arith)
front_found (byte ∷ text) zero h before e = rw (eq-eqb byte 10 e) (refl, refl)
front_found (byte ∷ text) (suc i) h before e =
    let rest = front_found text i (omega arith) (λ k lt. before (suc k) (omega arith)) e in
    rw (ne_eqb byte 10 (before 0 (omega arith))) (ap (λ (l : List ℕ). byte ∷ l) rest.0, rest.1)

pub front_none : (text : List ℕ) → ((k : ℕ) → k < length text → get_or text k 0 ≡ 10 → ⊥)
    → (front_of text ≡ text) × (ends_in text ≡ false)
unfolding front_of ends_in
front_none [] none = (refl, refl)
front_none (byte ∷ text) none =
    let rest = front_none text (λ k lt. none (suc k) (omega arith)) in
    rw (ne_eqb byte 10 (none 0 (omega arith))) (ap (λ (l : List ℕ). byte ∷ l) rest.0, rest.1)

-- one byte more, where there is room and where there is none
capped_more : (room : ℕ) (l : List ℕ) (x : ℕ) → length (take room l) < room
    → take room (l ++ (x ∷ [])) ≡ take room l ++ (x ∷ [])
capped_more room l x h =
    let some : length l < room = omega (arith, length-take room l) in
    take_all room (l ++ (x ∷ [])) (omega (arith, length-append l (x ∷ [])))
    ∙ ap (λ (m : List ℕ). m ++ (x ∷ [])) (sym (take_all room l (omega arith)))

capped_full : (room : ℕ) (l : List ℕ) (x : ℕ) → room ≤ length (take room l) → take room (l ++ (x ∷ [])) ≡ take room l
capped_full room l x h = take-append-le room l (x ∷ []) (omega (arith, length-take room l))

unfoldable pub held_of : List ℕ → ℕ → List ℕ → ℕ → List ℕ
held_of line held text i = take (length line) (take held line ++ take i text)

pub record Held (line : List ℕ) (held : ℕ) (text : List ℕ) (i count : ℕ) (line' : List ℕ) : Type 0 where
  pub count_is : count ≡ length (held_of line held text i)
  pub line_is : line' ≡ held_of line held text i ++ drop (length (held_of line held text i)) line

-- a store behind what is held
stored : (kept line : List ℕ) (x : ℕ) → length kept < length line
    → set (kept ++ drop (length kept) line) (length kept) x
    ≡ (kept ++ (x ∷ [])) ++ drop (length (kept ++ (x ∷ []))) line
stored kept line x h =
    let long : length (kept ++ (x ∷ [])) ≡ suc (length kept) = length-append kept (x ∷ []) ∙ add-one (length kept) in
    ap (λ (l : List ℕ). set (kept ++ l) (length kept) x) (drop-cons line (length kept) 0 h)
    ∙ set_at kept (get_or line (length kept) 0) (drop (suc (length kept)) line) x (length kept) refl
    ∙ sym (append_assoc kept (x ∷ []) (drop (suc (length kept)) line))
    ∙ ap (λ (n : ℕ). (kept ++ (x ∷ [])) ++ drop n line) (sym long)

module _ (line : List ℕ) (held : ℕ) (text : List ℕ) where
  -- before the first byte of the piece
  begun : (count : ℕ) → (count ≤ held) × (count ≤ length line) × ((count ≡ held) ⊎ (count ≡ length line))
      → take (length line) (take held line ++ []) ≡ take count line
  begun count h =
      ap (λ (l : List ℕ). take (length line) l) (append-nil (take held line)) ∙ ⊎_elim
      (λ e. take_all (length line) (take held line) (omega (arith, length-take held line))
      ∙ ap (λ (n : ℕ). take n line) (sym e))
      (λ e. ap (λ (l : List ℕ). take (length line) l) (take_all held line (omega (arith, h.0)))
      ∙ ap (λ (n : ℕ). take n line) (sym e)) h.2

  pub held_start : (count : ℕ) → (count ≤ held) × (count ≤ length line) × ((count ≡ held) ⊎ (count ≡ length line))
      → Held line held text 0 count line
  held_start count h =
      unfold held_of in let same = begun count h in
      let long : length (take count line) ≡ count = length-take-le count line h.1 in
      record {
        count_is = sym (ap length same ∙ long);
        line_is =
            sym (take-append-drop count line)
            ∙ ap₂ (λ (l : List ℕ) (n : ℕ). l ++ drop n line) (sym same) (sym (ap length same ∙ long));
      }

  more : (i : ℕ) → i < length text
      → take held line ++ take (i + 1) text ≡ (take held line ++ take i text) ++ (get_or text i 0 ∷ [])
  more i h =
      ap (λ (l : List ℕ). take held line ++ l) (ap (λ (n : ℕ). take n text) (add-one i) ∙ take-suc text i 0 h)
      ∙ sym (append_assoc (take held line) (take i text) (get_or text i 0 ∷ []))

  module _ (i count : ℕ) (line' : List ℕ) (inside : i < length text) (is : Held line held text i count line') where
    pub held_more : count < length line → Held line held text (i + 1) (count + 1) (set line' count (get_or text i 0))
    held_more h =
        unfold held_of in let kept : List ℕ = held_of line held text i in
        let x = get_or text i 0 in
        let room : length kept < length line = omega (arith, is.count_is) in
        let next : held_of line held text (i + 1) ≡ kept ++ (x ∷ []) =
        ap (λ (l : List ℕ). take (length line) l) (more i inside)
        ∙ capped_more (length line) (take held line ++ take i text) x room in
        record {
          count_is = ap (λ (n : ℕ). n + 1) is.count_is ∙ sym (length-append kept (x ∷ [])) ∙ ap length (sym next);
          line_is =
              ap₂ (λ (l : List ℕ) (n : ℕ). set l n x) is.line_is is.count_is ∙ stored kept line x room
              ∙ ap (λ (l : List ℕ). l ++ drop (length l) line) (sym next);
        }

    pub held_full : length line ≤ count → Held line held text (i + 1) count line'
    held_full h =
        unfold held_of in let same : held_of line held text (i + 1) ≡ held_of line held text i =
        ap (λ (l : List ℕ). take (length line) l) (more i inside)
        ∙ capped_full (length line) (take held line ++ take i text) (get_or text i 0) (omega (arith, is.count_is)) in
        record {
          count_is = is.count_is ∙ ap length (sym same);
          line_is = is.line_is ∙ ap (λ (l : List ℕ). l ++ drop (length l) line) (sym same);
        }

  module _ (i count : ℕ) (line' : List ℕ) (is : Held line held text i count line') where
    pub held_long : length line' ≡ length line
    held_long =
        unfold held_of in let kept : List ℕ = held_of line held text i in
        ap length is.line_is ∙ length-append kept (drop (length kept) line)
        ∙ omega (arith, length-drop (length kept) line, length-take (length line) (take held line ++ take i text))

    pub held_as : (count₁ : ℕ) (line₁ : List ℕ) → count₁ ≡ count → line₁ ≡ line' → Held line held text i count₁ line₁
    held_as count₁ line₁ e f = rw (e, f) is

    same_held : front_of text ≡ take i text → line_held line held text ≡ held_of line held text i
    unfolding line_so_far held_of
    same_held front = ap (λ (l : List ℕ). take (length line) (take held line ++ l)) front

    cut : front_of text ≡ take i text → (used : ℕ) (ended : Bool) → used ≡ used_of text → ended ≡ ends_in text
        → Cut line held text (record { held = count; used = used; ended = ended }) line'
    cut front used ended u e =
        let same = same_held front in
        record {
          held_is = is.count_is ∙ ap length (sym same);
          used_is = u;
          ended_is = e;
          line_is = is.line_is ∙ ap (λ (l : List ℕ). l ++ drop (length l) line) (sym same);
        }

    pub cut_found : i < length text → (front_of text ≡ take i text) × (ends_in text ≡ true)
        → Cut line held text (record { held = count; used = i + 1; ended = true }) line'
    cut_found inside found =
        unfold used_of in cut found.0 (i + 1) true
        (rw found.1 (ap (λ (n : ℕ). n + 1) (sym (ap length found.0 ∙ length-take-le i text (omega arith)))))
        (sym found.1)

    pub cut_none : i ≡ length text → (front_of text ≡ text) × (ends_in text ≡ false)
        → Cut line held text (record { held = count; used = length text; ended = false }) line'
    unfolding used_of
    cut_none all found =
        cut (found.0 ∙ sym (ap (λ (n : ℕ). take n text) all ∙ take-length text)) (length text) false
        (rw found.1 refl) (sym found.1)
