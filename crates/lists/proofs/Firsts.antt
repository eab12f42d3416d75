-- The first number below a bound at which a test fails.
--     Failing                   a number below the bound at which it fails, and before which it passes
--     first_is                  such a number is the first
--     first_none                where it passes at each number, the first is the bound
--     first_below               the first is below the bound exactly if the test doesn't pass at every number,
--     first_fails               and then it is such a number
use mathlib.Core.Path.{◌≡◌, refl, sym, ap, ◌∙◌}
use mathlib.Core.Bool.{Bool, true, false, not, true≢false}
use mathlib.Core.Logic.{◌⊎◌, inl, inr}
use Prim.Native.Nat.{ℕ, zero, suc, ◌<◌}
use native.Mathlib.Omega.{arith}
use lib.Dec.{ltb}
use borrow.Author.Tests.{lt-ltb, le-ltb}
use Rattle.lists.specs.Tests.{all_below, first_failing}
use Rattle.lists.proofs.AllBelows.{all_yes, all_no}

pub record Failing (n : ℕ) (test : ℕ → Bool) (p : ℕ) : Type 0 where
  pub below : p < n
  pub fails : test p ≡ false
  pub passes : (k : ℕ) → k < p → test k ≡ true

pub first_is : (n : ℕ) (test : ℕ → Bool) (p : ℕ) → Failing n test p → first_failing n test ≡ p
unfolding first_failing
first_is zero test p is = absurd (omega (arith, is.below))
first_is (suc n) test zero is = rw is.fails refl
first_is (suc n) test (suc p) is =
    rw (is.passes zero (omega arith))
    (ap suc (first_is n (λ k. test (suc k)) p record {
      below = omega (arith, is.below);
      fails = is.fails;
      passes = λ k lt. is.passes (suc k) (omega arith);
    }))

pub first_none : (n : ℕ) (test : ℕ → Bool) → ((k : ℕ) → k < n → test k ≡ true) → first_failing n test ≡ n
unfolding first_failing
first_none zero test passes = refl
first_none (suc n) test passes =
    rw (passes zero (omega arith)) (ap suc (first_none n (λ k. test (suc k)) (λ k lt. passes (suc k) (omega arith))))

-- it passes at every number, or there is such a number
found : (n : ℕ) (test : ℕ → Bool) → ((k : ℕ) → k < n → test k ≡ true) ⊎ ((p : ℕ) × Failing n test p)
found zero test = inl (λ k lt. absurd (omega arith))
found (suc n) test = go (test zero) refl (found n (λ k. test (suc k)))
  where
    go : (b : Bool) → test zero ≡ b
        → ((k : ℕ) → k < n → test (suc k) ≡ true) ⊎ ((p : ℕ) × Failing n (λ k. test (suc k)) p)
        → ((k : ℕ) → k < suc n → test k ≡ true) ⊎ ((p : ℕ) × Failing (suc n) test p)
    go false e rest = inr (zero, record { below = omega arith; fails = e; passes = λ k lt. absurd (omega arith) })
    go true e (inl all) = inl (λ k lt. at k lt)
      where
        at : (k : ℕ) → k < suc n → test k ≡ true
        at zero lt = e
        at (suc k) lt = all k (omega arith)
    go true e (inr (p, is)) = inr (suc p, record { below = omega (arith, is.below); fails = is.fails; passes = at })
      where
        at : (k : ℕ) → k < suc p → test k ≡ true
        at zero lt = e
        at (suc k) lt = is.passes k (omega arith)

pub first_below : (n : ℕ) (test : ℕ → Bool) → ltb (first_failing n test) n ≡ not (all_below n test)
first_below n test = by_cases (found n test)
  where
    by_cases : ((k : ℕ) → k < n → test k ≡ true) ⊎ ((p : ℕ) × Failing n test p)
        → ltb (first_failing n test) n ≡ not (all_below n test)
    by_cases (inl all) = rw (first_none n test all, all_yes n test all) (le-ltb n n (omega arith))
    by_cases (inr (p, is)) =
        rw (first_is n test p is, all_no n test p is.below is.fails) (lt-ltb p n is.below)

pub first_fails : (n : ℕ) (test : ℕ → Bool) → all_below n test ≡ false → Failing n test (first_failing n test)
first_fails n test some = by_cases (found n test)
  where
    by_cases : ((k : ℕ) → k < n → test k ≡ true) ⊎ ((p : ℕ) × Failing n test p) → Failing n test (first_failing n test)
    by_cases (inl all) = absurd (true≢false (sym (all_yes n test all) ∙ some))
    by_cases (inr (p, is)) = rw (first_is n test p is) is
