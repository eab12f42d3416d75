-- The lines of a text, cut out of its pieces.
--     front_all       a piece without a line feed
--     cut_goes_on     a line that does not end in a piece is gone on with in the next one
--     cut_ended       a line that ends in a piece is the next one of the text
--     held_more       of a line that is longer than there is room for it is enough to hold its front
use mathlib.Core.Path.{◌≡◌, refl, sym, ap, ◌∙◌}
use mathlib.Core.Bool.{Bool, true, false, cond, false≢true, true≢false}
use mathlib.Core.List.{List, [], ◌∷◌, ◌++◌, append_assoc, append-nil}
use Prim.Native.Nat.{ℕ, zero, suc}
use native.Mathlib.Numerals.{add-one}
use lib.Dec.{eqb}
use lib.ListN.{length, take, drop}
use Rattle.text_lines.specs.Lines.{lines_from}
use Rattle.text_lines.specs.Cut.{front_of, ends_in, used_of}

pub front_all : (text : List ℕ) → ends_in text ≡ false → front_of text ≡ text
unfolding ends_in front_of
front_all [] e = refl
front_all (byte ∷ text) e = go (eqb byte 10) e (front_all text)
  where
    go : (b : Bool) → cond b true (ends_in text) ≡ false → (ends_in text ≡ false → front_of text ≡ text)
        → cond b [] (byte ∷ front_of text) ≡ byte ∷ text
    go true t rest = absurd (true≢false t)
    go false t rest = ap (λ (l : List ℕ). byte ∷ l) (rest t)

pub cut_goes_on : (text more begun : List ℕ) → ends_in text ≡ false
    → lines_from begun (text ++ more) ≡ lines_from (begun ++ text) more
unfolding ends_in lines_from
cut_goes_on [] more begun e = ap (λ (l : List ℕ). lines_from l more) (sym (append-nil begun))
cut_goes_on (byte ∷ text) more begun e = go (eqb byte 10) e (cut_goes_on text more (begun ++ (byte ∷ [])))
  where
    go : (b : Bool) → cond b true (ends_in text) ≡ false
        → (ends_in text ≡ false → lines_from (begun ++ (byte ∷ [])) (text ++ more)
        ≡ lines_from ((begun ++ (byte ∷ [])) ++ text) more)
        → cond b (begun ∷ lines_from [] (text ++ more)) (lines_from (begun ++ (byte ∷ [])) (text ++ more))
        ≡ lines_from (begun ++ (byte ∷ text)) more
    go true t rest = absurd (true≢false t)
    go false t rest = rest t ∙ ap (λ (l : List ℕ). lines_from l more) (append_assoc begun (byte ∷ []) text)

-- up to the first line feed
ended : (text more begun : List ℕ) → ends_in text ≡ true → lines_from begun (text ++ more)
    ≡ (begun ++ front_of text) ∷ lines_from [] (drop (suc (length (front_of text))) text ++ more)
unfolding ends_in lines_from front_of
ended [] more begun e = absurd (false≢true e)
ended (byte ∷ text) more begun e = go (eqb byte 10) e (ended text more (begun ++ (byte ∷ [])))
  where
    go : (b : Bool) → cond b true (ends_in text) ≡ true
        → (ends_in text ≡ true → lines_from (begun ++ (byte ∷ [])) (text ++ more)
        ≡ ((begun ++ (byte ∷ [])) ++ front_of text) ∷ lines_from [] (drop (suc (length (front_of text))) text ++ more))
        → cond b (begun ∷ lines_from [] (text ++ more)) (lines_from (begun ++ (byte ∷ [])) (text ++ more))
        ≡ (begun ++ cond b [] (byte ∷ front_of text))
        ∷ lines_from [] (drop (suc (length (cond b [] (byte ∷ front_of text)))) (byte ∷ text) ++ more)
    go true t rest = ap (λ (l : List ℕ). l ∷ lines_from [] (text ++ more)) (sym (append-nil begun))
    go false t rest =
        rest t ∙ ap (λ (l : List ℕ). l ∷ lines_from [] (drop (suc (length (front_of text))) text ++ more))
        (append_assoc begun (byte ∷ []) (front_of text))

pub cut_ended : (text more begun : List ℕ) → ends_in text ≡ true
    → lines_from begun (text ++ more) ≡ (begun ++ front_of text) ∷ lines_from [] (drop (used_of text) text ++ more)
unfolding used_of
cut_ended text more begun e =
    ended text more begun e ∙ ap (λ (n : ℕ). (begun ++ front_of text) ∷ lines_from [] (drop n text ++ more))
    (sym (add-one (length (front_of text)))) ∙ rw e refl

pub held_more : (room : ℕ) (begun front : List ℕ) → take room (take room begun ++ front) ≡ take room (begun ++ front)
held_more zero begun front = refl
held_more (suc room) [] front = refl
held_more (suc room) (byte ∷ begun) front = ap (λ (l : List ℕ). byte ∷ l) (held_more room begun front)
