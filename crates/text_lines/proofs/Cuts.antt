-- Lines that are cut out of pieces.
--     long_not_written          a line that is longer than asked for is none of the form
--     used_most                 no more is used up than a piece has
--     used_some                 each piece is used up in part at least
--     used_part                 what is used up of a part of the piece lies in it
--     least_min                 the smaller of two numbers
use mathlib.Core.Path.{◌≡◌, refl, sym, ◌∙◌}
use mathlib.Core.Bool.{Bool, true, false, cond, false≢true}
use mathlib.Core.List.{List, [], ◌∷◌}
use mathlib.Core.Logic.{◌⊎◌, ⊎_elim}
use Prim.Native.Nat.{ℕ, suc, ◌+◌, ◌-◌, ◌*◌, ◌<◌, ◌≤◌, min}
use native.Mathlib.Nat.{min-eq_left, min-eq_right}
use native.Mathlib.Omega.{arith}
use lib.Dec.{eqb}
use lib.ListN.{length, take, drop, length-take, length-drop}
use borrow.Author.Tests.{ne_eqb}
use Rattle.hexadecimal.specs.Bytes.{writes}
use Rattle.text_lines.specs.Cut.{front_of, ends_in, used_of}

front_within : (text : List ℕ) → ends_in text ≡ true → length (front_of text) + 1 ≤ length text
unfolding ends_in front_of
front_within [] e = absurd (false≢true e)
front_within (byte ∷ text) e = go (eqb byte 10) e (front_within text)
  where
    go : (b : Bool) → cond b true (ends_in text) ≡ true
        → (ends_in text ≡ true → length (front_of text) + 1 ≤ length text)
        → length (cond b [] (byte ∷ front_of text)) + 1 ≤ suc (length text)
    go true t rest = omega arith
    go false t rest = let short = rest t in omega arith

-- a line that is longer than asked for is none of the form
pub long_not_written : (count : ℕ) (line : List ℕ) → 2 * count < length line → writes count line ≡ false
long_not_written count line h = unfold writes in rw (ne_eqb (length line) (2 * count) (omega arith)) refl

pub used_most : (text : List ℕ) → used_of text ≤ length text
unfolding used_of
used_most text = go (ends_in text) (front_within text)
  where
    go : (b : Bool) → (b ≡ true → length (front_of text) + 1 ≤ length text)
        → cond b (length (front_of text) + 1) (length text) ≤ length text
    go true within = within refl
    go false within = omega arith

-- a piece that is not empty is used up in part at least
pub used_some : (text : List ℕ) → 0 < length text → (0 < used_of text) × (used_of text ≤ length text)
unfolding used_of
used_some text some = (go (ends_in text), used_most text)
  where
    go : (b : Bool) → 0 < cond b (length (front_of text) + 1) (length text)
    go true = omega arith
    go false = some

-- what is used up of the bytes from the place `at` up to `end` lies among them
pub used_part : (text : List ℕ) (at end used : ℕ) → at ≤ end → end ≤ length text
    → used ≡ used_of (take (end - at) (drop at text)) → at + used ≤ length text
used_part text at end used first last is =
    let part : List ℕ = take (end - at) (drop at text) in
    let long : length part ≡ end - at = length-take (end - at) (drop at text) ∙ omega (arith, length-drop at text) in
    omega (arith, used_most part)

-- the smaller of two numbers
pub least_min : (r one other : ℕ) → (r ≤ one) × (r ≤ other) × ((r ≡ one) ⊎ (r ≡ other)) → r ≡ min one other
least_min r one other is =
    ⊎_elim (λ e. e ∙ sym (min-eq_left {n = one} {m = other} (omega arith)))
    (λ e. e ∙ sym (min-eq_right {n = other} {m = one} (omega arith))) is.2
