-- A loop that stores f k at each place k of a list of n, from behind. `FillBack n f k l`: l holds f j at each j from
-- k on.
--     back_none, back_more, back_all     before the first store; after the store below k; at the end l is `tab n f`
use mathlib.Core.Path.{◌≡◌, sym, ◌∙◌, subst}
use mathlib.Core.List.{List}
use Prim.Native.Nat.{ℕ, ◌-◌, ◌<◌, ◌≤◌}
use native.Mathlib.Decide.{ℕ_discrete}
use native.Mathlib.Omega.{arith}
use lib.ListN.{length, get_or, set, length-set}
use lib.Seq.{get_or-set_same, get_or-set_other}
use Rattle.lists.specs.Tab.{tab}
use Rattle.lists.proofs.Tabs.{tab_ext}

pub record FillBack (n : ℕ) (f : ℕ → ℕ) (k : ℕ) (l : List ℕ) : Type 0 where
  pub len : length l ≡ n
  pub done : (j : ℕ) → k ≤ j → j < n → get_or l j 0 ≡ f j

module _ (n : ℕ) (f : ℕ → ℕ) where
  pub back_none : {l : List ℕ} → length l ≡ n → FillBack n f n l
  back_none e = record { len = e; done = λ j le lt. absurd (omega arith) }

  pub back_more : {l : List ℕ} {k : ℕ} → FillBack n f k l → 0 < k → k ≤ n → (v : ℕ) → v ≡ f (k - 1)
      → FillBack n f (k - 1) (set l (k - 1) v)
  back_more {l} {k} b some few v e =
      record { len = length-set l (k - 1) v ∙ b.len; done = λ j le lt. go j le lt (ℕ_discrete j (k - 1)) }
    where
      go : (j : ℕ) → k - 1 ≤ j → j < n → Dec (j ≡ k - 1) → get_or (set l (k - 1) v) j 0 ≡ f j
      go j le lt (yes s) =
          rw s (get_or-set_same l (k - 1) v 0 (subst (λ (m : ℕ). k - 1 < m) (sym b.len) (omega arith)) ∙ e)
      go j le lt (no ne) = get_or-set_other l (k - 1) j v 0 ne ∙ b.done j (omega arith) lt

  pub back_all : {l : List ℕ} {k : ℕ} → FillBack n f k l → k ≤ 0 → l ≡ tab n f
  back_all {l} b none = tab_ext n f l b.len (λ j lt. b.done j (omega arith) lt)
