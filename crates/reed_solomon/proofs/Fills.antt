-- A loop that stores entry after entry: those before k have their new values, and the others their old ones.
use mathlib.Core.Path.{◌≡◌, sym, ap, ◌∙◌, subst, subst₂}
use mathlib.Core.List.{List}
use Prim.Native.Nat.{ℕ, ◌+◌, ◌≤◌, ◌<◌}
use native.Mathlib.Decide.{ℕ_discrete}
use native.Mathlib.Omega.{arith}
use lib.ListN.{length, get_or, set}
use lib.Seq.{get_or-set_same, get_or-set_other}

pub record Filled (new old : ℕ → ℕ) (k : ℕ) (l : List ℕ) : Type 0 where
  pub done : (n : ℕ) → n < k → get_or l n 0 ≡ new n
  pub left : (n : ℕ) → k ≤ n → get_or l n 0 ≡ old n

-- where the loop begins
pub begins : (new old : ℕ → ℕ) (k : ℕ) (l : List ℕ) → k ≡ 0 → ((n : ℕ) → get_or l n 0 ≡ old n) → Filled new old k l
begins new old k l e h = record { done = λ n b. absurd (omega arith); left = λ n b. h n }

-- one store
pub stored : (new old : ℕ → ℕ) (k : ℕ) (l : List ℕ) (v : ℕ) → k < length l → v ≡ new k → Filled new old k l
    → Filled new old (k + 1) (set l k v)
stored new old k l v h e f = record {
  done = λ n b. elim (ℕ_discrete n k) [
    | yes p ↦ ap (λ (m : ℕ). get_or (set l k v) m 0) p ∙ get_or-set_same l k v 0 h ∙ e ∙ ap new (sym p)
    | no p ↦ get_or-set_other l k n v 0 p ∙ f.done n (omega arith)
  ];
  left = λ n b. get_or-set_other l k n v 0 (λ p. absurd (omega arith)) ∙ f.left n (omega arith);
}

-- the same by a rule: what is stored at n obeys P n
pub record FilledBy (P : ℕ → ℕ → Type 0) (k : ℕ) (l : List ℕ) : Type 0 where
  pub done : (n : ℕ) → n < k → P n (get_or l n 0)

pub stored_by : (P : ℕ → ℕ → Type 0) (k : ℕ) (l : List ℕ) (v : ℕ) → k < length l → P k v → FilledBy P k l
    → FilledBy P (k + 1) (set l k v)
stored_by P k l v h p f = record {
  done = λ n b. elim (ℕ_discrete n k) [
    | yes q ↦ subst₂ P (sym q) (sym (ap (λ (m : ℕ). get_or (set l k v) m 0) q ∙ get_or-set_same l k v 0 h)) p
    | no q ↦ subst (P n) (sym (get_or-set_other l k n v 0 q)) (f.done n (omega arith))
  ];
}
