-- The newest bit turns both of what is sent.
--     flip_x_is, flip_y_is    the two bits sent for 0 and for 1
--     miss_both               a digit that is a bit disagrees with one of the two
use mathlib.Core.Path.{◌≡◌, refl}
use mathlib.Core.Bool.{Bool, true, false, cond}
use mathlib.Core.Logic.{⊎_elim}
use Prim.Native.Nat.{ℕ, ◌+◌, ◌≤◌, ◌<◌}
use native.Mathlib.Omega.{arith}
use lib.Count.{ones}
use lib.Dec.{T, eqb, ltb, eqb→eq}
use borrow.Author.Tests.{le-ltb}
use Rattle.lists.proofs.Every.{both, both_left, both_right, every, at}
use Rattle.lists.proofs.Xor.{bit_cases}
use Rattle.rules.specs.Code.{parity}
use Rattle.fewest.specs.Best.{seven, sent_x, sent_y, miss}
use Rattle.fewest.proofs.Best.{le_or_lt}

-- 1 where the digit is a bit
unfoldable pub there : ℕ → ℕ
there digit = cond (ltb digit 2) 1 0

abbrev flip_x : ℕ → Bool
flip_x s = eqb (sent_x s false + sent_x s true) 1

abbrev flip_y : ℕ → Bool
flip_y s = eqb (sent_y s false + sent_y s true) 1

flips : ℕ → Bool
flips s = both (flip_x s) (flip_y s)

flips_all : T (every flips 64)
flips_all = unfold flips sent_x sent_y seven parity ones in tt

module _ (s : ℕ) (h : s < 64) where
  pub flip_x_is : sent_x s false + sent_x s true ≡ 1
  flip_x_is = unfold flips in eqb→eq _ _ (both_left (flip_x s) (flip_y s) (at flips 64 flips_all s h))

  pub flip_y_is : sent_y s false + sent_y s true ≡ 1
  flip_y_is = unfold flips in eqb→eq _ _ (both_right (flip_x s) (flip_y s) (at flips 64 flips_all s h))

pub miss_both : (digit x y : ℕ) → x + y ≡ 1 → miss digit x + miss digit y ≡ there digit
unfolding miss there
miss_both digit x y e = ⊎_elim none some (le_or_lt 2 digit)
  where
    none : 2 ≤ digit → miss digit x + miss digit y ≡ there digit
    none h = rw (le-ltb digit 2 h) refl

    one : (d : ℕ) → d < 2 → miss d 0 + miss d 1 ≡ there d
    one d h = bit_cases (λ (n : ℕ). miss n 0 + miss n 1 ≡ there n) refl refl d h

    other : (d : ℕ) → d < 2 → miss d 1 + miss d 0 ≡ there d
    other d h = bit_cases (λ (n : ℕ). miss n 1 + miss n 0 ≡ there n) refl refl d h

    some : digit < 2 → miss digit x + miss digit y ≡ there digit
    some h =
        ⊎_elim
        (λ (p : 1 ≤ x). rw (let q : x ≡ 1 = omega arith in q, let q : y ≡ 0 = omega arith in q) (other digit h))
        (λ (p : x < 1). rw (let q : x ≡ 0 = omega arith in q, let q : y ≡ 1 = omega arith in q) (one digit h))
        (le_or_lt 1 x)
