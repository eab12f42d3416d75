-- What the pairs cost at the registers 2 k and 2 k + 1, by the costs of their digits.
--     differ_odd_zero, differ_odd_one     the register's oldest bit does so too
--     zero_cost, one_cost                 what `step` reads and computes is twice the disagreements
use mathlib.Core.Path.{◌≡◌, refl, ap, ◌∙◌}
use mathlib.Core.Bool.{Bool, true, false}
use mathlib.Core.List.{List}
use Prim.Native.Nat.{ℕ, ◌+◌, ◌*◌, ◌/◌, ◌%◌, ◌<◌}
use native.Mathlib.Omega.{arith}
use lib.Count.{ones}
use lib.Dec.{T, eqb, eqb→eq}
use lib.ListN.{get_or}
use Rattle.lists.specs.Tab.{tab}
use Rattle.lists.proofs.Every.{both, both_left, both_right, every, at}
use Rattle.lists.proofs.Tabs.{get_d_tab}
use Rattle.rules.specs.Code.{parity}
use Rattle.fewest.proofs.Flips.{flip_x_is, flip_y_is, miss_both, there}
use Rattle.fewest.specs.Best.{seven, sent_x, sent_y, miss, differ}
use Rattle.best_message.specs.Steps.{digit_cost}

abbrev odd_x : ℕ → Bool
odd_x k = eqb (sent_x (2 * k + 1) false) (sent_x (2 * k) true)

abbrev odd_y : ℕ → Bool
odd_y k = eqb (sent_y (2 * k + 1) false) (sent_y (2 * k) true)

odds : ℕ → Bool
odds k = both (odd_x k) (odd_y k)

odds_all : T (every odds 32)
odds_all = unfold odds sent_x sent_y seven parity ones in tt

module _ (k : ℕ) (h : k < 32) where
  odd_x_is : sent_x (2 * k + 1) false ≡ sent_x (2 * k) true
  odd_x_is = unfold odds in eqb→eq _ _ (both_left (odd_x k) (odd_y k) (at odds 32 odds_all k h))

  odd_y_is : sent_y (2 * k + 1) false ≡ sent_y (2 * k) true
  odd_y_is = unfold odds in eqb→eq _ _ (both_right (odd_x k) (odd_y k) (at odds 32 odds_all k h))

  odd_x' : sent_x (2 * k + 1) true ≡ sent_x (2 * k) false
  odd_x' = omega (arith, odd_x_is, flip_x_is (2 * k) (omega arith), flip_x_is (2 * k + 1) (omega arith))

  odd_y' : sent_y (2 * k + 1) true ≡ sent_y (2 * k) false
  odd_y' = omega (arith, odd_y_is, flip_y_is (2 * k) (omega arith), flip_y_is (2 * k + 1) (omega arith))

  pub differ_odd_zero : (pair : ℕ) → differ pair (2 * k + 1) false ≡ differ pair (2 * k) true
  differ_odd_zero pair = unfold differ in rw (odd_x_is, odd_y_is) refl

  pub differ_odd_one : (pair : ℕ) → differ pair (2 * k + 1) true ≡ differ pair (2 * k) false
  differ_odd_one pair = unfold differ in rw (odd_x', odd_y') refl

digit_at : (taps digit k : ℕ) → k < 32 → digit_cost taps (32 * digit + k) ≡ 2 * miss digit (parity taps (2 * k))
digit_at taps digit k h =
    unfold digit_cost in rw (
      let p : (32 * digit + k) / 32 ≡ digit = omega arith in p,
      let q : (32 * digit + k) % 32 ≡ k = omega arith in q,
    ) refl

-- ---- a pair

digit_by : (taps digit k : ℕ) (costs : List ℕ) → costs ≡ tab 96 (digit_cost taps) → digit < 3 → k < 32
    → get_or costs (32 * digit + k) 0 ≡ 2 * miss digit (parity taps (seven (2 * k) false))
unfolding seven
digit_by taps digit k costs e hd hk =
    rw e (get_d_tab 96 (digit_cost taps) (32 * digit + k) (omega arith) ∙ digit_at taps digit k hk
    ∙ ap (λ (n : ℕ). 2 * miss digit (parity taps n)) (omega arith))

module _ (pair k : ℕ) (hp : pair < 9) (hk : k < 32) where
  pub zero_cost : (xcosts ycosts : List ℕ) → xcosts ≡ tab 96 (digit_cost 0o171) → ycosts ≡ tab 96 (digit_cost 0o133)
      → get_or xcosts (32 * (pair / 3) + k) 0 + get_or ycosts (32 * (pair % 3) + k) 0 ≡ 2 * differ pair (2 * k) false
  zero_cost xcosts ycosts ex ey =
      unfold differ sent_x sent_y in omega (
        arith,
        digit_by 0o171 (pair / 3) k xcosts ex (omega arith) hk,
        digit_by 0o133 (pair % 3) k ycosts ey (omega arith) hk,
      )

  pub one_cost : there (pair / 3) + there (pair % 3) ≡ differ pair (2 * k) false + differ pair (2 * k) true
  one_cost =
      unfold differ in let even : 2 * k < 64 = omega arith in
      omega (
        arith,
        miss_both (pair / 3) (sent_x (2 * k) false) (sent_x (2 * k) true) (flip_x_is (2 * k) even),
        miss_both (pair % 3) (sent_y (2 * k) false) (sent_y (2 * k) true) (flip_y_is (2 * k) even),
      )
