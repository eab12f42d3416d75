-- Whether every byte is 0, as a loop that joins the bits of all bytes finds it, and what it says of each byte.
use mathlib.Core.Path.{◌≡◌, refl, sym, ap, ◌∙◌}
use mathlib.Core.Bool.{Bool, true, false≢true}
use mathlib.Core.List.{List, [], ◌∷◌, ◌++◌}
use Prim.Native.Nat.{ℕ, zero, suc, ◌+◌, ◌<◌, ◌≤◌}
use native.Mathlib.Numerals.{add-one}
use native.Mathlib.Omega.{arith}
use lib.Bits.{bit_or, or_zero_l, or_add_and, and_le_r}
use lib.Dec.{eqb}
use lib.ListN.{length, get_or, take, replicate}
use lib.Seq.{take-suc, take_all}
use borrow.Author.Tests.{ne_eqb}
use Rattle.lists.proofs.Every.{both}
use Rattle.remainder.specs.Remainder.{all_zero}

-- an array of zeros
pub zeros_at : (n k : ℕ) → get_or (replicate {A = ℕ} n 0) k 0 ≡ 0
zeros_at zero k = refl
zeros_at (suc n) zero = refl
zeros_at (suc n) (suc k) = zeros_at n k

-- the bits of two numbers together are 0 where both numbers are
or_both : (a b : ℕ) → eqb (bit_or a b) 0 ≡ both (eqb a 0) (eqb b 0)
or_both zero b = ap (λ (n : ℕ). eqb n 0) (or_zero_l b)
or_both (suc a) b =
    ne_eqb (bit_or (suc a) b) 0 (λ e. absurd (omega (arith, or_add_and (suc a) b, and_le_r (suc a) b)))
    ∙ ap (λ (t : Bool). both t (eqb b 0)) (sym (ne_eqb (suc a) 0 (λ e. absurd (omega arith))))

zero_snoc : (c : List ℕ) (a : ℕ) → all_zero (c ++ (a ∷ [])) ≡ both (all_zero c) (eqb a 0)
unfolding all_zero
zero_snoc [] zero = refl
zero_snoc [] (suc a) = sym (ne_eqb (suc a) 0 (λ e. absurd (omega arith)))
zero_snoc (zero ∷ c) a = zero_snoc c a
zero_snoc (suc b ∷ c) a = refl

pub zero_none : (c : List ℕ) → eqb 0 0 ≡ all_zero (take 0 c)
zero_none c = unfold all_zero in refl

-- one byte more
pub zero_more : (c : List ℕ) (k sum : ℕ) → k < length c → eqb sum 0 ≡ all_zero (take k c)
    → eqb (bit_or sum (get_or c k 0)) 0 ≡ all_zero (take (k + 1) c)
zero_more c k sum h e =
    or_both sum (get_or c k 0) ∙ ap (λ (b : Bool). both b (eqb (get_or c k 0) 0)) e
    ∙ sym (zero_snoc (take k c) (get_or c k 0))
    ∙ ap all_zero (sym (take-suc c k 0 h) ∙ ap (λ (n : ℕ). take n c) (sym (add-one k)))

pub zero_all : (c : List ℕ) (k sum : ℕ) → length c ≤ k → eqb sum 0 ≡ all_zero (take k c) → eqb sum 0 ≡ all_zero c
zero_all c k sum h e = e ∙ ap all_zero (take_all k c h)

-- every byte is 0 where the test says so, and the test says so where every byte is
pub all_zero_at : (c : List ℕ) → all_zero c ≡ true → (k : ℕ) → get_or c k 0 ≡ 0
unfolding all_zero
all_zero_at [] e k = refl
all_zero_at (zero ∷ c) e zero = refl
all_zero_at (zero ∷ c) e (suc k) = all_zero_at c e k
all_zero_at (suc a ∷ c) e k = absurd (false≢true e)

pub all_zero_of : (c : List ℕ) → ((k : ℕ) → get_or c k 0 ≡ 0) → all_zero c ≡ true
unfolding all_zero
all_zero_of [] h = refl
all_zero_of (zero ∷ c) h = all_zero_of c (λ k. h (suc k))
all_zero_of (suc a ∷ c) h = absurd (omega (arith, h 0))
