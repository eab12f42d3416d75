-- How many ones the code of a difference has at least, for each register that it may begin with: rows of 64 numbers,
-- computed from the end to the start. The last row says what each register at the end counts.
--     by_way                   by way of a bit
--     two_by_two, step_back    one bit more in front
--     rows, rows_long          so many bits
--     step_least, step_some    an entry is the lesser of the two ways
use mathlib.Core.Path.{◌≡◌, refl, ap, ap₂, ◌∙◌}
use mathlib.Core.Bool.{Bool, true, false}
use mathlib.Core.Logic.{⊎_elim}
use mathlib.Core.List.{List, [], ◌∷◌}
use Prim.Native.Nat.{ℕ, zero, suc, ◌+◌, ◌*◌, ◌/◌, ◌<◌, ◌≤◌, min}
use native.Mathlib.Omega.{arith}
use lib.ListN.{length, get_or, drop, length-drop}
use lib.Seq.{get_or-drop}
use Rattle.settings.specs.Patterns.{Kept}
use Rattle.fewest.specs.Best.{seven, next}
use Rattle.fewest.proofs.Best.{le_or_lt}
use Rattle.fewest.proofs.Differences.{weight}

abbrev pub by_way : Kept → List ℕ → ℕ → Bool → ℕ
by_way kept row register b = weight kept register b + get_or row (next register b) 0

abbrev lesser : Kept → ℕ → ℕ → ℕ → ℕ
lesser kept register by_zero by_one = min (weight kept register false + by_zero) (weight kept register true + by_one)

-- registers 2 i and 2 i + 1 go on to register i by a 0 and to 32 + i by a 1: from some register on
unfoldable pub two_by_two : Kept → ℕ → List ℕ → List ℕ → List ℕ
two_by_two kept register [] ones = []
two_by_two kept register (z ∷ zeros) [] = []
two_by_two kept register (z ∷ zeros) (o ∷ ones) =
    lesser kept register z o ∷ lesser kept (suc register) z o ∷ two_by_two kept (suc (suc register)) zeros ones

unfoldable pub step_back : Kept → List ℕ → List ℕ
step_back kept row = two_by_two kept 0 row (drop 32 row)

unfoldable pub rows : (ℕ → Kept) → ℕ → List ℕ → List ℕ
rows kept zero last = last
rows kept (suc n) last = step_back (kept 0) (rows (λ i. kept (suc i)) n last)

-- ---- lengths

length_two : (kept : Kept) (zeros ones : List ℕ) (register : ℕ) → length ones ≤ length zeros
    → length (two_by_two kept register zeros ones) ≡ 2 * length ones
unfolding two_by_two
length_two kept [] [] register le = refl
length_two kept [] (o ∷ ones) register le = absurd (omega arith)
length_two kept (z ∷ zeros) [] register le = refl
length_two kept (z ∷ zeros) (o ∷ ones) register le =
    omega (arith, length_two kept zeros ones (suc (suc register)) (omega arith))

pub rows_long : (kept : ℕ → Kept) (n : ℕ) (last : List ℕ) → length last ≡ 64 → length (rows kept n last) ≡ 64
unfolding rows step_back
rows_long kept zero last long = long
rows_long kept (suc n) last long =
    let row = rows (λ i. kept (suc i)) n last in
    let size = rows_long (λ i. kept (suc i)) n last long in
    let rest = length-drop 32 row in
    omega (arith, length_two (kept 0) row (drop 32 row) 0 (omega arith))

-- ---- entries

two_at : (kept : Kept) (zeros ones : List ℕ) (register k : ℕ) → k / 2 < length zeros → k / 2 < length ones
    → get_or (two_by_two kept register zeros ones) k 0
    ≡ lesser kept (register + k) (get_or zeros (k / 2) 0) (get_or ones (k / 2) 0)
unfolding two_by_two
two_at kept [] ones register k h g = absurd (omega arith)
two_at kept (z ∷ zeros) [] register k h g = absurd (omega arith)
two_at kept (z ∷ zeros) (o ∷ ones) register zero h g =
    ap (λ (e : ℕ). lesser kept e z o) {x = register} {y = register + 0} (omega arith)
two_at kept (z ∷ zeros) (o ∷ ones) register (suc zero) h g =
    ap (λ (e : ℕ). lesser kept e z o) {x = suc register} {y = register + 1} (omega arith)
two_at kept (z ∷ zeros) (o ∷ ones) register (suc (suc k)) h g =
    let half : suc (k / 2) ≡ suc (suc k) / 2 = omega arith in
    let place : suc (suc register) + k ≡ register + suc (suc k) = omega arith in
    two_at kept zeros ones (suc (suc register)) k (omega arith) (omega arith)
    ∙ ap₂ (λ (e i : ℕ). lesser kept e (get_or (z ∷ zeros) i 0) (get_or (o ∷ ones) i 0)) place half

module _ (kept : Kept) (row : List ℕ) (long : length row ≡ 64) (register : ℕ) (h : register < 64) where
  step_is : get_or (step_back kept row) register 0
      ≡ min (by_way kept row register false) (by_way kept row register true)
  unfolding step_back next seven
  step_is =
      let rest = length-drop 32 row in
      let zero-way : register / 2 ≡ (64 * 0 + register) / 2 = omega arith in
      let one_way : 32 + register / 2 ≡ (64 * 1 + register) / 2 = omega arith in
      two_at kept row (drop 32 row) 0 register (omega arith) (omega arith)
      ∙ ap (λ (e : ℕ). lesser kept e (get_or row (register / 2) 0) (get_or (drop 32 row) (register / 2) 0))
      {x = 0 + register} {y = register} (omega arith)
      ∙ ap₂ (lesser kept register) (ap (λ (i : ℕ). get_or row i 0) zero-way)
      (get_or-drop 32 row (register / 2) 0 ∙ ap (λ (i : ℕ). get_or row i 0) one_way)

  pub step_least : (b : Bool) → get_or (step_back kept row) register 0 ≤ by_way kept row register b
  step_least false = omega (arith, step_is)
  step_least true = omega (arith, step_is)

  pub step_some : (b : Bool) × (by_way kept row register b ≤ get_or (step_back kept row) register 0)
  step_some =
      ⊎_elim (λ (p : by_way kept row register false ≤ by_way kept row register true). (false, omega (arith, step_is)))
      (λ (p : by_way kept row register true < by_way kept row register false). (true, omega (arith, step_is)))
      (le_or_lt (by_way kept row register false) (by_way kept row register true))
