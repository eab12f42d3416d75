-- What holds of each entry from a place on, as a loop stores one more.
--     one_more, one_more_from      the entries from the front; from a place on
--     two_more                     two stores more
use mathlib.Core.Path.{◌≡◌, refl, sym, subst}
use mathlib.Core.Logic.{⊎_elim}
use mathlib.Core.List.{List}
use Prim.Native.Nat.{ℕ, ◌+◌, ◌*◌, ◌≤◌, ◌<◌}
use native.Mathlib.Omega.{arith}
use lib.ListN.{length, get_or, set, length-set}
use lib.Seq.{get_or-set_same, get_or-set_other}
use Rattle.fewest.proofs.Best.{le_or_lt}

module _ (P : ℕ → ℕ → Type 0) (l : List ℕ) where
  pub one_more : (k v : ℕ) → k < length l → ((i : ℕ) → i < k → P i (get_or l i 0)) → P k v
      → (i : ℕ) → i < k + 1 → P i (get_or (set l k v) i 0)
  one_more k v h f e i hi =
      ⊎_elim
      (λ (p : k ≤ i). rw (let q : i ≡ k = omega arith in q) (subst (P k) (sym (get_or-set_same l k v 0 h)) e))
      (λ (p : i < k). subst (P i) (sym (get_or-set_other l k i v 0 (omega arith))) (f i p)) (le_or_lt k i)

  pub one_more_from : (at k place v : ℕ) → place ≡ at + k → place < length l
      → ((i : ℕ) → i < k → P i (get_or l (at + i) 0))
      → P k v → (i : ℕ) → i < k + 1 → P i (get_or (set l place v) (at + i) 0)
  one_more_from at k place v s h f e i hi =
      ⊎_elim (λ (p : k ≤ i).
      rw (let q : i ≡ k = omega arith in q, ← s) (subst (P k) (sym (get_or-set_same l place v 0 h)) e))
      (λ (p : i < k). subst (P i) (sym (get_or-set_other l place (at + i) v 0 (omega arith))) (f i p))
      (le_or_lt k i)

-- two stores more
pub two_more : (P : ℕ → ℕ → Type 0) (l : List ℕ) (at j u v : ℕ) → at + 2 * j + 1 < length l
    → ((i : ℕ) → i < 2 * j → P i (get_or l (at + i) 0)) → P (2 * j) u → P (2 * j + 1) v
    → (i : ℕ) → i < 2 * (j + 1) → P i (get_or (set (set l (at + 2 * j) u) (at + 2 * j + 1) v) (at + i) 0)
two_more P l at j u v h f p q i lt =
    one_more_from P (set l (at + 2 * j) u) at (2 * j + 1) (at + 2 * j + 1) v (omega arith) (rw length-set h)
    (one_more_from P l at (2 * j) (at + 2 * j) u refl (omega arith) f p) q i (omega arith)
