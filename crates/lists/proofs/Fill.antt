-- A loop that stores f i at each place i of a list of n, from the front. `Fill n f i l`: l holds f k at each k below i.
--     fill_none, fill_new     before the first store, and in a fresh array
--     fill_more, fill_step    after the store at i; the same with the place said otherwise
--     fill_at                 the same count, said otherwise
--     fill_all                at the end l is `tab n f`
use mathlib.Core.Path.{◌≡◌, sym, ap, ◌∙◌, subst}
use mathlib.Core.List.{List}
use Prim.Native.Nat.{ℕ, ◌+◌, ◌<◌, ◌≤◌}
use native.Mathlib.Omega.{arith}
use native.Mathlib.Decide.{ℕ_discrete}
use lib.ListN.{length, get_or, set, length-set, replicate, length-replicate}
use lib.Seq.{get_or-set_same, get_or-set_other}
use Rattle.lists.specs.Tab.{tab}
use Rattle.lists.proofs.Tabs.{tab_ext}

pub record Fill (n : ℕ) (f : ℕ → ℕ) (i : ℕ) (l : List ℕ) : Type 0 where
  pub len : length l ≡ n
  pub done : (k : ℕ) → k < i → get_or l k 0 ≡ f k

module _ (n : ℕ) (f : ℕ → ℕ) where
  -- a store of f i at i
  stored : (l : List ℕ) (i v : ℕ) → i < length l → v ≡ f i → ((k : ℕ) → k < i → get_or l k 0 ≡ f k)
      → (k : ℕ) → k < i + 1 → get_or (set l i v) k 0 ≡ f k
  stored l i v h e d k lt = go (ℕ_discrete k i)
    where
      go : Dec (k ≡ i) → get_or (set l i v) k 0 ≡ f k
      go (yes s) = rw s (get_or-set_same l i v 0 h ∙ e)
      go (no ne) = get_or-set_other l i k v 0 ne ∙ d k (omega arith)

  pub fill_none : {l : List ℕ} → length l ≡ n → Fill n f 0 l
  fill_none e = record { len = e; done = λ k lt. absurd (omega arith) }

  -- a fresh array
  pub fill_new : Fill n f 0 (replicate n 0)
  fill_new = fill_none (length-replicate {A = ℕ} n 0)

  pub fill_more : {l : List ℕ} {i : ℕ} → Fill n f i l → i < n → (v : ℕ) → v ≡ f i → Fill n f (i + 1) (set l i v)
  fill_more {l} {i} b h v e =
      record {
        len = length-set l i v ∙ b.len;
        done = stored l i v (subst (λ (m : ℕ). i < m) (sym b.len) h) e b.done;
      }

  -- the same with the place said otherwise, for several stores in one turn
  pub fill_step : {l : List ℕ} {i : ℕ} → Fill n f i l → (j v : ℕ) → j ≡ i → i < n → v ≡ f j
      → Fill n f (j + 1) (set l j v)
  fill_step {l} {i} b j v e h w =
      subst (λ (k : ℕ). Fill n f (k + 1) (set l k v)) (sym e) (fill_more b h v (w ∙ ap f e))

  pub fill_at : {l : List ℕ} {i : ℕ} → Fill n f i l → (j : ℕ) → i ≡ j → Fill n f j l
  fill_at {l} {i} b j e = subst (λ (k : ℕ). Fill n f k l) e b

  pub fill_all : {l : List ℕ} {i : ℕ} → Fill n f i l → n ≤ i → l ≡ tab n f
  fill_all {l} {i} b h = tab_ext n f l b.len (λ k lt. b.done k (omega arith))
