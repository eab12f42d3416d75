-- The rows of the elimination that finds a locator polynomial. A row has 17 entries: the 8 images and then the 9
-- coefficients of a polynomial, where the image j is the polynomial applied to the syndromes s from place j on.
use Rattle.std.specs.Prelude.{◌≡◌, List, [], ◌∷◌, Option, Some, None, ℕ, zero, suc, ◌+◌, ◌≤◌, ◌<◌, get_or}
use Rattle.field.specs.Field.{◌⊕◌, ◌⊗◌}
use Rattle.reed_solomon.specs.Poly.{applied}

-- f 0 ⊕ .. ⊕ f (n - 1)
unfoldable pub total : ℕ → (ℕ → ℕ) → ℕ
total zero f = 0
total (suc n) f = f n ⊕ total n f

-- the entries ρ are a row whose polynomial has a degree below i
pub record Row (s : ℕ → ℕ) (i : ℕ) (ρ : ℕ → ℕ) : Type 0 where
  pub image : (j : ℕ) → j < 8 → ρ j ≡ total 9 (λ k. ρ (8 + k) ⊗ s (k + j))
  pub high : (k : ℕ) → i ≤ k → k < 9 → ρ (8 + k) ≡ 0

-- a row whose polynomial has the degree i, and the highest coefficient 1
pub record Monic (s : ℕ → ℕ) (i : ℕ) (ρ : ℕ → ℕ) : Type 0 where
  pub row : Row s (suc i) ρ
  pub top : ρ (8 + i) ≡ 1

-- a row whose first image that is not 0 is a 1, at c
pub record Pivot (s : ℕ → ℕ) (i c : ℕ) (ρ : ℕ → ℕ) : Type 0 where
  pub row : Row s i ρ
  pub one : ρ c ≡ 1
  pub before : (b : ℕ) → b < c → ρ b ≡ 0

-- the rows of a basis are pivots
abbrev pub Basis : (ℕ → ℕ) → ℕ → List (Option (List ℕ)) → Type 0
Basis s i basis = (c : ℕ) → c < 8 → (μ : List ℕ) → get_or basis c None ≡ Some μ → Pivot s i c (λ n. get_or μ n 0)

-- how many rows a basis has
unfoldable pub held : List (Option (List ℕ)) → ℕ
held [] = 0
held (None ∷ basis) = held basis
held (Some μ ∷ basis) = suc (held basis)

-- a row has joined the basis, which has become basis'
pub record Joined (row : List ℕ) (basis basis' : List (Option (List ℕ))) : Type 0 where
  pub grown : held basis' ≡ suc (held basis)
  pub pivots : (s : ℕ → ℕ) (i : ℕ) → i < 9 → Basis s i basis → Monic s i (λ n. get_or row n 0) → Basis s (suc i) basis'

-- a row has been reduced to one whose images are 0
pub record Vanished (row : List ℕ) (basis : List (Option (List ℕ))) (left : List ℕ) : Type 0 where
  pub to : (s : ℕ → ℕ) (i : ℕ) → i < 9 → Basis s i basis → Monic s i (λ n. get_or row n 0)
      → Monic s i (λ n. get_or left n 0) × ((b : ℕ) → b < 8 → get_or left b 0 ≡ 0)

-- a polynomial that takes the syndromes s to 0 at eight places, and is not 0
pub record Locator (s l : List ℕ) : Type 0 where
  pub zeros : (j : ℕ) → j < 8 → applied l (λ n. get_or s n 0) j ≡ 0
  pub bytes : (n : ℕ) → get_or l n 0 < 256
  pub degree : ℕ
  pub small : degree < 9
  pub one : get_or l degree 0 ≡ 1
