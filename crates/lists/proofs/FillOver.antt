-- A loop that stores f i at places of a list one after the other and leaves the others as they are. `Over n f old i
-- l`: l holds f k at each k below i, and what `old` held from i on.
--     over_start     before the first store, at i
--     over_step      after the store at i, the place said otherwise
--     over_at        the same count, said otherwise
--     over_end       after the last store l is `tab n f`
use mathlib.Core.Path.{◌≡◌, refl, sym, ap, ◌∙◌, subst}
use mathlib.Core.List.{List}
use Prim.Native.Nat.{ℕ, ◌+◌, ◌<◌, ◌≤◌}
use native.Mathlib.Omega.{arith}
use native.Mathlib.Decide.{ℕ_discrete, dec_lt}
use lib.ListN.{length, get_or, set, length-set}
use lib.Seq.{get_or-set_same, get_or-set_other}
use Rattle.lists.specs.Tab.{tab}
use Rattle.lists.proofs.Tabs.{tab_ext}

pub record Over (n : ℕ) (f : ℕ → ℕ) (old : List ℕ) (i : ℕ) (l : List ℕ) : Type 0 where
  pub len : length l ≡ n
  pub done : (k : ℕ) → k < i → get_or l k 0 ≡ f k
  pub rest : (k : ℕ) → i ≤ k → get_or l k 0 ≡ get_or old k 0

module _ (n : ℕ) (f : ℕ → ℕ) (old : List ℕ) where
  pub over_start : (i : ℕ) → length old ≡ n → ((k : ℕ) → k < i → get_or old k 0 ≡ f k) → Over n f old i old
  over_start i e h = record { len = e; done = h; rest = λ k le. refl }

  over_more : {l : List ℕ} {i : ℕ} → Over n f old i l → (v : ℕ) → i < n → v ≡ f i → Over n f old (i + 1) (set l i v)
  over_more {l} {i} b v h e =
      let long = b.len in
      record {
        len = length-set l i v ∙ long;
        done = λ k lt. elim (ℕ_discrete k i) [
          | yes s ↦ rw s (get_or-set_same l i v 0 (omega arith) ∙ e)
          | no ne ↦ get_or-set_other l i k v 0 ne ∙ b.done k (omega arith)
        ];
        rest = λ k le. get_or-set_other l i k v 0 (omega arith) ∙ b.rest k (omega arith);
      }

  pub over_step : {l : List ℕ} {i : ℕ} → Over n f old i l → (j v : ℕ) → j ≡ i → i < n → v ≡ f j
      → Over n f old (j + 1) (set l j v)
  over_step {l} {i} b j v e h w =
      subst (λ (k : ℕ). Over n f old (k + 1) (set l k v)) (sym e) (over_more b v h (w ∙ ap f e))

  pub over_at : {l : List ℕ} {i : ℕ} → Over n f old i l → (j : ℕ) → i ≡ j → Over n f old j l
  over_at {l} {i} b j e = subst (λ (k : ℕ). Over n f old k l) e b

  pub over_end : {l : List ℕ} {i : ℕ} → Over n f old i l → ((k : ℕ) → i ≤ k → k < n → get_or old k 0 ≡ f k) → l
      ≡ tab n f
  over_end {l} {i} b h = tab_ext n f l b.len (λ k lt. elim (dec_lt k i) [
    | yes p ↦ b.done k p
    | no p ↦ b.rest k (omega arith) ∙ h k (omega arith) lt
  ])
