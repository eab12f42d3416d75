-- A test at every number below a bound, by its outcome.
--     all_yes, all_no     it passes at each; it fails at one
--     all_at              what it says of each
--     all_none, all_more  the tests so far, one after the other
use mathlib.Core.Path.{◌≡◌, refl, sym, ap, ◌∙◌}
use mathlib.Core.Bool.{Bool, true, false, ◌&&◌}
use Prim.Native.Nat.{ℕ, zero, suc, ◌+◌, ◌<◌}
use native.Mathlib.Decide.{ℕ_discrete}
use native.Mathlib.Numerals.{add-one}
use native.Mathlib.Omega.{arith}
use Rattle.lists.proofs.Bools.{and_both, and_no}
use Rattle.lists.specs.Tests.{all_below}

pub all_yes : (n : ℕ) (test : ℕ → Bool) → ((k : ℕ) → k < n → test k ≡ true) → all_below n test ≡ true
unfolding all_below
all_yes zero test h = refl
all_yes (suc n) test h = rw (h n (omega arith)) (all_yes n test (λ k lt. h k (omega arith)))

pub all_no : (n : ℕ) (test : ℕ → Bool) (k : ℕ) → k < n → test k ≡ false → all_below n test ≡ false
unfolding all_below
all_no zero test k lt e = absurd (omega arith)
all_no (suc n) test k lt e = go (ℕ_discrete k n) (all_no n test k)
  where
    go : Dec (k ≡ n) → (k < n → test k ≡ false → all_below n test ≡ false) → (test n && all_below n test) ≡ false
    go (yes s) rest = rw (ap test (sym s) ∙ e) refl
    go (no ne) rest = rw (rest (omega arith) e) (and_no (test n))

pub all_at : (n : ℕ) (test : ℕ → Bool) → all_below n test ≡ true → (k : ℕ) → k < n → test k ≡ true
unfolding all_below
all_at zero test e k lt = absurd (omega arith)
all_at (suc n) test e k lt = go (ℕ_discrete k n) (all_at n test (and_both (test n) (all_below n test) e).1 k)
  where
    go : Dec (k ≡ n) → (k < n → test k ≡ true) → test k ≡ true
    go (yes s) rest = ap test s ∙ (and_both (test n) (all_below n test) e).0
    go (no ne) rest = rest (omega arith)

pub all_none : (test : ℕ → Bool) → true ≡ all_below 0 test
all_none test = unfold all_below in refl

pub all_more : (n : ℕ) (test : ℕ → Bool) {one all : Bool} → one ≡ test n → all ≡ all_below n test
    → (one && all) ≡ all_below (n + 1) test
all_more n test e f = unfold all_below in rw (add-one n) (cc)
