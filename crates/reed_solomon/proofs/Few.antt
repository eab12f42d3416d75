-- A polynomial of nine coefficients that is not 0 has no nine roots among the locators.
use mathlib.Core.Path.{◌≡◌, sym, ◌∙◌}
use mathlib.Core.Logic.{◌≢◌}
use mathlib.Core.List.{List}
use Prim.Native.Nat.{ℕ, zero, suc, ◌<◌}
use native.Mathlib.Omega.{arith}
use lib.ListN.{length, get_or}
use Rattle.field.specs.Field.{power, Bytes}
use Rattle.field.proofs.Sum.{⊕-lt, eq-of-⊕}
use Rattle.field.proofs.Product.{power_lt}
use Rattle.field.proofs.Tables.{power_distinct}
use Rattle.lists.specs.Tab.{tab}
use Rattle.lists.proofs.Tabs.{length_tab}
use Rattle.field.specs.Roots.{poly}
use Rattle.field.proofs.RootBound.{Apart, Distinct, RootsOf, only_zero, zero_at}
use Rattle.reed_solomon.specs.Decode.{FewZeros}

apart_tab : (n : ℕ) (f : ℕ → ℕ) (x : ℕ) → x < 256 → ((k : ℕ) → k < n → f k < 256) → ((k : ℕ) → k < n → f k ≢ x)
    → Apart x (tab n f)
unfolding tab
apart_tab zero f x h b ne = tt
apart_tab (suc n) f x h b ne = (
  ⊕-lt (f 0) x (b 0 (omega arith)) h,
  (λ e. ne 0 (omega arith) (eq-of-⊕ (f 0) x e)),
  apart_tab n (λ k. f (suc k)) x h (λ k lt. b (suc k) (omega arith)) (λ k lt. ne (suc k) (omega arith)),
)

distinct_tab : (n : ℕ) (f : ℕ → ℕ) → ((k : ℕ) → k < n → f k < 256) → ((a b : ℕ) → a < b → b < n → f b ≢ f a)
    → Distinct (tab n f)
unfolding tab
distinct_tab zero f b ne = tt
distinct_tab (suc n) f b ne = (
  apart_tab n (λ k. f (suc k)) (f 0) (b 0 (omega arith)) (λ k lt. b (suc k) (omega arith))
      (λ k lt. ne 0 (suc k) (omega arith) (omega arith)),
  distinct_tab n (λ k. f (suc k)) (λ k lt. b (suc k) (omega arith))
      (λ i j p q. ne (suc i) (suc j) (omega arith) (omega arith)),
)

roots_tab : (l : List ℕ) (n : ℕ) (f : ℕ → ℕ) → ((k : ℕ) → k < n → poly l (f k) ≡ 0) → RootsOf l (tab n f)
unfolding tab
roots_tab l zero f h = tt
roots_tab l (suc n) f h = (h 0 (omega arith), roots_tab l n (λ k. f (suc k)) (λ k lt. h (suc k) (omega arith)))

pub few_zeros : (l v : List ℕ) (d : ℕ) → length l ≡ 9 → Bytes l → get_or l d 0 ≡ 1
    → ((q : ℕ) → q < 204 → get_or v q 0 ≡ poly l (power 2 q)) → FewZeros v
few_zeros l v d ll b one h at small rising zeros =
    let points : ℕ → ℕ = λ a. power 2 (at a) in
    let apart : (i j : ℕ) → i < j → j < 9 → points j ≢ points i = λ i j p q e.
    absurd (omega (
      arith,
      rising i j p q,
      small j q,
      small i (omega arith),
      power_distinct (at j) (at i)
          (omega (arith, small j q)) (omega (arith, small i (omega arith))) e,
    )) in
    absurd (omega (
      arith,
      one,
      zero_at l d (only_zero (tab 9 points) l b (omega (arith, length_tab 9 points))
          (distinct_tab 9 points (λ k lt. power_lt 2 (at k)) apart)
          (roots_tab l 9 points (λ k lt. sym (h (at k) (small k lt)) ∙ zeros k lt))),
    ))
