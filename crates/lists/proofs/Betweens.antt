-- The test `between` by its outcome.
--     between_yes, between_below, between_above     what it answers
--     between_true                                  what it says
use mathlib.Core.Path.{◌≡◌, refl}
use mathlib.Core.Bool.{Bool, true, false, false≢true, ◌&&◌}
use Prim.Native.Nat.{ℕ, ◌≤◌, ◌<◌}
use lib.Dec.{leb}
use borrow.Author.Tests.{le-leb, lt-leb, leb-true}
use Rattle.lists.specs.Tests.{between}

module _ (first last n : ℕ) where
  pub between_yes : first ≤ n → n ≤ last → between first last n ≡ true
  between_yes low high = unfold between in simp (le-leb first n low, le-leb n last high)

  pub between_below : n < first → between first last n ≡ false
  between_below low = unfold between in simp (lt-leb first n low)

  pub between_above : last < n → between first last n ≡ false
  unfolding between
  between_above high = simp (lt-leb n last high) (never (leb first n))
    where
      never : (b : Bool) → (b && false) ≡ false
      never true = refl
      never false = refl

  pub between_true : between first last n ≡ true → (first ≤ n) × (n ≤ last)
  unfolding between
  between_true e = go (leb first n) (leb n last) refl refl e
    where
      go : (a b : Bool) → leb first n ≡ a → leb n last ≡ b → (a && b) ≡ true → (first ≤ n) × (n ≤ last)
      go true true p q r = (leb-true first n p, leb-true n last q)
      go true false p q r = absurd (false≢true r)
      go false b p q r = absurd (false≢true r)
