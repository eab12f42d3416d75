-- The steps of the elimination keep rows rows.
use mathlib.Core.Path.{◌≡◌, sym, ap, ap₂, ◌∙◌}
use Prim.Native.Nat.{ℕ, suc, ◌+◌, ◌<◌}
use native.Mathlib.Decide.{ℕ_discrete}
use native.Mathlib.Omega.{arith}
use Rattle.field.specs.Field.{◌⊕◌, ◌⊗◌}
use Rattle.field.proofs.Sum.{⊕-zero, ⊕-self}
use Rattle.field.proofs.Product.{⊕-⊗, ⊗-zero, ⊗-one, ⊗-assoc, ⊗-comm}
use Rattle.reed_solomon.specs.Rows.{total, Row, Monic, Pivot}
use Rattle.reed_solomon.proofs.Totals.{total_ext, total-⊕, total-⊗}

-- what holds of ρ holds of entries that agree with it
module _ (s : ℕ → ℕ) (i : ℕ) (ρ σ : ℕ → ℕ) (e : (n : ℕ) → n < 17 → σ n ≡ ρ n) where
  row_ext : Row s i ρ → Row s i σ
  row_ext r = record {
    image = λ j b. e j (omega arith) ∙ r.image j b
        ∙ sym (total_ext 9 (λ k. σ (8 + k) ⊗ s (k + j)) (λ k. ρ (8 + k) ⊗ s (k + j))
        (λ k h. ap (λ (x : ℕ). x ⊗ s (k + j)) (e (8 + k) (omega arith))));
    high = λ k p q. e (8 + k) (omega arith) ∙ r.high k p q;
  }

-- ρ plus f times μ
module _ (s : ℕ → ℕ) (i f : ℕ) (ρ μ σ : ℕ → ℕ) (e : (n : ℕ) → n < 17 → σ n ≡ ρ n ⊕ f ⊗ μ n) where
  plus_row : Row s i ρ → Row s i μ → Row s i σ
  plus_row r u = row_ext s i (λ n. ρ n ⊕ f ⊗ μ n) σ e (record {
    image = λ j b. ap₂ (λ (x y : ℕ). x ⊕ f ⊗ y) (r.image j b) (u.image j b)
        ∙ ap (λ (y : ℕ). total 9 (λ k. ρ (8 + k) ⊗ s (k + j)) ⊕ y) (sym (total-⊗ 9 f (λ k. μ (8 + k) ⊗ s (k + j))))
        ∙ sym (total-⊕ 9 (λ k. ρ (8 + k) ⊗ s (k + j)) (λ k. f ⊗ (μ (8 + k) ⊗ s (k + j))))
        ∙ total_ext 9 (λ k. ρ (8 + k) ⊗ s (k + j) ⊕ f ⊗ (μ (8 + k) ⊗ s (k + j)))
        (λ k. (ρ (8 + k) ⊕ f ⊗ μ (8 + k)) ⊗ s (k + j)) (λ k h. simp (⊕-⊗, ⊗-assoc));
    high = λ k p q. ap₂ (λ (x y : ℕ). x ⊕ f ⊗ y) (r.high k p q) (u.high k p q) ∙ simp (⊗-zero, ⊕-zero);
  })

weaken : (s : ℕ → ℕ) (i : ℕ) (ρ : ℕ → ℕ) → Row s i ρ → Row s (suc i) ρ
weaken s i ρ r = record { image = r.image; high = λ k p q. r.high k (omega arith) q }

-- one reduction
pub reduced_monic : (s : ℕ → ℕ) (i c : ℕ) (ρ μ σ : ℕ → ℕ) → i < 9 → ((n : ℕ) → n < 17 → σ n ≡ ρ n ⊕ ρ c ⊗ μ n)
    → Monic s i ρ → Pivot s i c μ → Monic s i σ
reduced_monic s i c ρ μ σ b e r p = record {
  row = plus_row s (suc i) (ρ c) ρ μ σ e r.row (weaken s i μ p.row);
  top = e (8 + i) (omega arith) ∙ ap₂ (λ (x y : ℕ). x ⊕ ρ c ⊗ y) r.top (p.row.high i (omega arith) b)
      ∙ simp (⊗-zero, ⊕-zero);
}

pub reduced_zeros : (c : ℕ) (ρ μ σ : ℕ → ℕ) → ρ c < 256 → ((n : ℕ) → n < 17 → σ n ≡ ρ n ⊕ ρ c ⊗ μ n) → μ c ≡ 1
    → ((b : ℕ) → b < c → μ b ≡ 0) → ((b : ℕ) → b < c → ρ b ≡ 0) → c < 8 → (b : ℕ) → b < c + 1 → σ b ≡ 0
reduced_zeros c ρ μ σ h e one before z hc b k = elim (ℕ_discrete b c) [
  | yes q ↦
      ap σ q ∙ e c (omega arith) ∙ ap (λ (x : ℕ). ρ c ⊕ ρ c ⊗ x) one ∙ ap (λ (x : ℕ). ρ c ⊕ x) (⊗-one (ρ c) h)
      ∙ ⊕-self (ρ c)
  | no q ↦ e b (omega arith) ∙ ap₂ (λ (x y : ℕ). x ⊕ ρ c ⊗ y) (z b (omega arith)) (before b (omega arith))
      ∙ simp (⊗-zero, ⊕-zero)
]

-- a row that is scaled by f
scaled : (s : ℕ → ℕ) (i f : ℕ) (ρ σ : ℕ → ℕ) → ((n : ℕ) → n < 17 → σ n ≡ f ⊗ ρ n) → Row s i ρ → Row s i σ
scaled s i f ρ σ e r = row_ext s i (λ n. f ⊗ ρ n) σ e (record {
  image = λ j b. ap (λ (x : ℕ). f ⊗ x) (r.image j b) ∙ sym (total-⊗ 9 f (λ k. ρ (8 + k) ⊗ s (k + j)))
      ∙ total_ext 9 (λ k. f ⊗ (ρ (8 + k) ⊗ s (k + j))) (λ k. (f ⊗ ρ (8 + k)) ⊗ s (k + j))
      (λ k h. sym (⊗-assoc f (ρ (8 + k)) (s (k + j))));
  high = λ k p q. ap (λ (x : ℕ). f ⊗ x) (r.high k p q) ∙ ⊗-zero f;
})

pub scaled_pivot : (s : ℕ → ℕ) (i c f : ℕ) (ρ σ : ℕ → ℕ) → c < 8 → ((n : ℕ) → n < 17 → σ n ≡ f ⊗ ρ n) → ρ c ⊗ f ≡ 1
    → ((b : ℕ) → b < c → ρ b ≡ 0) → Monic s i ρ → Pivot s (suc i) c σ
scaled_pivot s i c f ρ σ h e one z r = record {
  row = scaled s (suc i) f ρ σ e r.row;
  one = e c (omega arith) ∙ ⊗-comm f (ρ c) ∙ one;
  before = λ b k. e b (omega arith) ∙ ap (λ (x : ℕ). f ⊗ x) (z b k) ∙ ⊗-zero f;
}

pub kept_pivot : (s : ℕ → ℕ) (i c : ℕ) (ρ σ : ℕ → ℕ) → c < 8 → ((n : ℕ) → n < 17 → σ n ≡ ρ n) → Pivot s i c ρ
    → Pivot s (suc i) c σ
kept_pivot s i c ρ σ h e p = record {
  row = row_ext s (suc i) ρ σ e (weaken s i ρ p.row);
  one = e c (omega arith) ∙ p.one;
  before = λ b k. e b (omega arith) ∙ p.before b k;
}
