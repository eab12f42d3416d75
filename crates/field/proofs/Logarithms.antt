-- Logarithms to the base 2: that of a power, and the entries of both tables; inverses, and no zero divisors.
use mathlib.Core.Path.{◌≡◌, refl, sym, ap, ◌∙◌}
use mathlib.Core.Logic.{◌≢◌}
use Prim.Native.Nat.{ℕ, zero, suc, ◌+◌, ◌-◌, ◌≤◌, ◌<◌}
use native.Mathlib.Decide.{ℕ_discrete, dec_lt}
use native.Mathlib.Omega.{arith}
use mathlib.Core.Bool.{cond}
use lib.Dec.{eqb, ltb}
use lib.ListN.{get_or}
use mathlib.Core.List.{[], ◌∷◌, ◌++◌}
use Rattle.std.proofs.lemmas.List.{append-nil, get_or_append_left}
use Rattle.lists.proofs.Tabs.{tab_ext}
use borrow.Author.Tests.{eq-eqb, ne_eqb, lt-ltb}
use Rattle.field.specs.Field.{◌⊗◌, power}
use Rattle.field.specs.Tables.{logarithm_below, logarithm_of, power_table, logarithm_table}
use Rattle.field.proofs.Product.{⊗-zero, one-⊗, ⊗-comm, ⊗-assoc, power_add, power_255}
use Rattle.field.proofs.Tables.{powers_of_two, logarithms_of, power_of_two_rule, logarithm_rule, power_distinct}

below_power : (n i : ℕ) → i < n → n ≤ 255 → logarithm_below n (power 2 i) ≡ i
unfolding logarithm_below
below_power zero i h l = absurd (omega arith)
below_power (suc n) i h l = elim (ℕ_discrete n i) [
  | yes e ↦ rw (eq-eqb (power 2 n) (power 2 i) (ap (power 2) e)) e
  | no e ↦
      rw (ne_eqb (power 2 n) (power 2 i) (λ q. e (power_distinct n i (omega arith) (omega arith) q)))
      (below_power n i (omega arith) (omega arith))
]

logarithm_power : (i : ℕ) → i < 255 → logarithm_of (power 2 i) ≡ i
logarithm_power i h = unfold logarithm_of in below_power 255 i h (omega arith)

-- what the table holds
logarithm_at : (a : ℕ) → 0 < a → a < 256 → get_or logarithms_of (a - 1) 0 ≡ logarithm_of a
logarithm_at a p h =
    let r = logarithm_rule a p h in
    sym (logarithm_power (get_or logarithms_of (a - 1) 0) r.0) ∙ ap logarithm_of r.1

pub power_log : (a : ℕ) → 0 < a → a < 256 → power 2 (logarithm_of a) ≡ a
power_log a p h = ap (power 2) (sym (logarithm_at a p h)) ∙ (logarithm_rule a p h).1

below_lt : (n a : ℕ) → n ≤ 255 → logarithm_below n a < 255
unfolding logarithm_below
below_lt zero a l = omega arith
below_lt (suc n) a l = elim (ℕ_discrete (power 2 n) a) [
  | yes e ↦ rw (eq-eqb (power 2 n) a e) l
  | no e ↦ rw (ne_eqb (power 2 n) a e) (below_lt n a (omega arith))
]

pub logarithm_lt : (a : ℕ) → logarithm_of a < 255
logarithm_lt a = unfold logarithm_of in below_lt 255 a (omega arith)

-- a byte that is not 0 has an inverse, by its logarithm
⊗-inverse : (a : ℕ) → 0 < a → a < 256 → a ⊗ power 2 (255 - logarithm_of a) ≡ 1
⊗-inverse a p h =
    let i = logarithm_of a in
    let b = logarithm_lt a in
    ap (λ (x : ℕ). x ⊗ power 2 (255 - i)) (sym (power_log a p h)) ∙ sym (power_add 2 i (255 - i))
    ∙ ap (power 2) {x = i + (255 - i)} {y = 255} (omega arith) ∙ power_255

-- a factor that is not 0 cancels
pub ⊗-cancel : (a b : ℕ) → a < 256 → b < 256 → a ≢ 0 → a ⊗ b ≡ 0 → b ≡ 0
⊗-cancel a b ha hb ne e =
    let c = power 2 (255 - logarithm_of a) in
    sym (one-⊗ b hb) ∙ ap (λ (x : ℕ). x ⊗ b) (sym (⊗-inverse a (omega (arith, ne)) ha) ∙ ⊗-comm a c) ∙ ⊗-assoc c a b
    ∙ ap (λ (x : ℕ). c ⊗ x) e ∙ ⊗-zero c

-- the table of powers
pub powers_then_zero : powers_of_two ++ 0 ∷ [] ≡ power_table
unfolding powers_of_two power_table
powers_then_zero =
    tab_ext 256 (λ i. cond (ltb i 255) (power 2 i) 0) (powers_of_two ++ 0 ∷ []) refl (λ i lt. go i lt (dec_lt i 255))
  where
    go : (i : ℕ) → i < 256 → Dec (i < 255) → get_or (powers_of_two ++ 0 ∷ []) i 0 ≡ cond (ltb i 255) (power 2 i) 0
    go i lt (yes h) =
        rw (lt-ltb i 255 h) (get_or_append_left powers_of_two (0 ∷ []) 0 i h ∙ power_of_two_rule i h)
    go i lt (no h) =
        let last : i ≡ 255 = omega arith in
        rw last refl

-- the table of logarithms
pub logarithms_behind : 255 ∷ (logarithms_of ++ []) ≡ logarithm_table
unfolding logarithms_of logarithm_table
logarithms_behind =
    rw append-nil
    (tab_ext 256 (λ a. cond (eqb a 0) 255 (logarithm_of a)) (255 ∷ logarithms_of) refl (λ a lt. go a lt))
  where
    go : (a : ℕ) → a < 256 → get_or (255 ∷ logarithms_of) a 0 ≡ cond (eqb a 0) 255 (logarithm_of a)
    go zero lt = refl
    go (suc a) lt =
        let one : suc a - 1 ≡ a = omega arith in
        rw (ne_eqb (suc a) 0 (omega arith)) (rw one at (logarithm_at (suc a) (omega arith) lt))
