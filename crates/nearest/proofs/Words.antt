-- Words: their weights, sums and values at the roots of the code, which are sums over the locators 2 ^ 203, .., 2 ^ 0.
use mathlib.Core.Bool.{cond}
use mathlib.Core.Path.{◌≡◌, refl, sym, ap, ap₂, ◌∙◌}
use mathlib.Core.Logic.{◌≢◌}
use mathlib.Core.List.{List, [], ◌∷◌}
use Prim.Native.Nat.{ℕ, zero, suc, ◌+◌, ◌≤◌, ◌<◌}
use native.Mathlib.Nat.{mul_comm, zero-add}
use native.Mathlib.Decide.{ℕ_discrete}
use native.Mathlib.Omega.{arith}
use lib.Dec.{eqb}
use lib.ListN.{length, get_or, set}
use borrow.Author.Tests.{eq-eqb, ne_eqb}
use Rattle.field.specs.Field.{◌⊕◌, ◌⊗◌, power, value, Bytes}
use Rattle.field.proofs.Sum.{⊕-assoc, ⊕-left-comm, ⊕-zero, ⊕-self, ⊕-cancel, ⊕-lt, eq-of-⊕}
use Rattle.field.proofs.Product.{⊕-⊗, power_mul, ⊗-one}
use Rattle.nearest.specs.Codeword.{distance}
use Rattle.nearest.proofs.Weights.{weight, sums}
use Rattle.field.specs.Roots.{locators}
use Rattle.nearest.proofs.Sums.{sum_of, Zeros}

-- ---- distances

-- 1 where two bytes differ
differ : ℕ → ℕ → ℕ
differ a b = cond (eqb a b) 0 1

differ_same : (a b : ℕ) → a ≡ b → differ a b ≡ 0
differ_same a b e = unfold differ in rw (eq-eqb a b e)

differ_other : (a b : ℕ) → a ≢ b → differ a b ≡ 1
differ_other a b ne = unfold differ in rw (ne_eqb a b ne)

distance_cons : (a b : ℕ) (c d : List ℕ) → distance (a ∷ c) (b ∷ d) ≡ differ a b + distance c d
distance_cons a b c d = unfold distance differ in refl

weight_suc : (a : ℕ) (c : List ℕ) → a ≢ 0 → weight (a ∷ c) ≡ suc (weight c)
unfolding weight
weight_suc zero c ne = absurd (ne refl)
weight_suc (suc a) c ne = refl

-- the distance is the weight of the sum
pub distance_weight : (c d : List ℕ) → distance c d ≡ weight (sums c d)
unfolding distance sums weight
distance_weight [] d = refl
distance_weight (a ∷ c) [] = refl
distance_weight (a ∷ c) (b ∷ d) = distance_cons a b c d ∙ elim (ℕ_discrete a b) [
  | yes e ↦ ap₂ (λ (x y : ℕ). x + y) (differ_same a b e) (distance_weight c d) ∙ zero-add (weight (sums c d))
      ∙ ap (λ (x : ℕ). weight (x ∷ sums c d)) (sym (ap (λ (x : ℕ). x ⊕ b) e ∙ ⊕-self b))
  | no e ↦ ap₂ (λ (x y : ℕ). x + y) (differ_other a b e) (distance_weight c d) ∙ one_add (weight (sums c d))
      ∙ sym (weight_suc (a ⊕ b) (sums c d) (λ z. e (eq-of-⊕ a b z)))
]
  where
    one_add : (n : ℕ) → 1 + n ≡ suc n
    one_add n = omega arith

-- where a and b differ, one of them differs from u
either : (a b u : ℕ) → differ a b ≤ differ a u + differ b u
either a b u = elim (ℕ_discrete a b) [
  | yes e ↦ omega (arith, differ_same a b e)
  | no e ↦ elim (ℕ_discrete a u) [
    | yes f ↦ omega (arith, differ_other a b e, differ_other b u (λ g. e (f ∙ sym g)))
    | no f ↦ omega (arith, differ_other a b e, differ_other a u f)
  ]
]

pub triangle : (c d w : List ℕ) → length c ≡ length w → length d ≡ length w → distance c d ≤ distance c w + distance d w
unfolding distance
triangle [] d w p q = omega arith
triangle (a ∷ c) [] w p q = omega arith
triangle (a ∷ c) (b ∷ d) [] p q = absurd (omega arith)
triangle (a ∷ c) (b ∷ d) (u ∷ w) p q =
    omega (
      arith,
      distance_cons a b c d,
      distance_cons a u c w,
      distance_cons b u d w,
      either a b u,
      triangle c d w (omega arith) (omega arith),
    )

-- a word from itself
pub distance_self : (c : List ℕ) → distance c c ≡ 0
unfolding distance
distance_self [] = refl
distance_self (a ∷ c) = omega (arith, distance_cons a a c c, differ_same a a refl, distance_self c)

-- one place at which two words agree is changed by v
distance_set : (c w : List ℕ) (i v : ℕ) → i < length c → length c ≡ length w → get_or c i 0 ≡ get_or w i 0
    → distance (set c i (get_or c i 0 ⊕ v)) w ≡ differ v 0 + distance c w
unfolding distance
distance_set [] w i v h l e = absurd (omega arith)
distance_set (a ∷ c) [] i v h l e = absurd (omega arith)
distance_set (a ∷ c) (b ∷ w) zero v h l e =
    omega (arith, distance_cons (a ⊕ v) b c w, distance_cons a b c w, differ_same a b e, changed a b v e)
  where
    changed : (a b v : ℕ) → a ≡ b → differ (a ⊕ v) b ≡ differ v 0
    changed a b v e = elim (ℕ_discrete v 0) [
      | yes z ↦ differ_same (a ⊕ v) b (ap (λ (x : ℕ). a ⊕ x) z ∙ ⊕-zero a ∙ e) ∙ sym (differ_same v 0 z)
      | no z ↦
          differ_other (a ⊕ v) b (λ f. z (sym (⊕-cancel a v) ∙ ap (λ (x : ℕ). a ⊕ x) (f ∙ sym e) ∙ ⊕-self a))
          ∙ sym (differ_other v 0 z)
    ]
distance_set (a ∷ c) (b ∷ w) (suc i) v h l e =
    omega (
      arith,
      distance_cons a b (set c i (get_or c i 0 ⊕ v)) w,
      distance_cons a b c w,
      distance_set c w i v (omega arith) (omega arith) e,
    )

pub distance_more : (c w : List ℕ) (i v : ℕ) → i < length c → length c ≡ length w → get_or c i 0 ≡ get_or w i 0 → v ≢ 0
    → distance (set c i (get_or c i 0 ⊕ v)) w ≡ distance c w + 1
distance_more c w i v h l e ne = omega (arith, distance_set c w i v h l e, differ_other v 0 ne)

pub distance_same : (c w : List ℕ) (i v : ℕ) → i < length c → length c ≡ length w → get_or c i 0 ≡ get_or w i 0 → v ≡ 0
    → distance (set c i (get_or c i 0 ⊕ v)) w ≡ distance c w
distance_same c w i v h l e z = omega (arith, distance_set c w i v h l e, differ_same v 0 z)

-- ---- values

pub length_sums : (c d : List ℕ) → length c ≡ length d → length (sums c d) ≡ length c
unfolding sums
length_sums [] d p = refl
length_sums (a ∷ c) [] p = absurd (omega arith)
length_sums (a ∷ c) (b ∷ d) p = ap suc (length_sums c d (omega arith))

pub value_sums : (c d : List ℕ) (x : ℕ) → length c ≡ length d → value (sums c d) x ≡ value c x ⊕ value d x
unfolding sums value
value_sums [] [] x p = sym (⊕-zero 0)
value_sums [] (b ∷ d) x p = absurd (omega arith)
value_sums (a ∷ c) [] x p = absurd (omega arith)
value_sums (a ∷ c) (b ∷ d) x p =
    let q : length c ≡ length d = omega arith in
    ap₂ (λ (n : ℕ) (s : ℕ). (a ⊕ b) ⊗ power x n ⊕ s) (length_sums c d q) (value_sums c d x q)
    ∙ step (length c) (length d) q
  where
    step : (n m : ℕ) → n ≡ m → (a ⊕ b) ⊗ power x n ⊕ (value c x ⊕ value d x) ≡ (a ⊗ power x n ⊕ value c x) ⊕
        (b ⊗ power x m ⊕ value d x)
    step n m e = simp (← e, ⊕-⊗, ⊕-assoc, ⊕-left-comm)

swap_powers : (j n : ℕ) → power (power 2 j) n ≡ power (power 2 n) j
swap_powers j n = power_mul 2 j n ∙ ap (power 2) (mul_comm j n) ∙ sym (power_mul 2 n j)

pub value_sum_of : (c : List ℕ) (j : ℕ) → value c (power 2 j) ≡ sum_of (λ x. power x j) (locators (length c)) c
unfolding value sum_of locators
value_sum_of [] j = refl
value_sum_of (a ∷ c) j = ap₂ (λ (s t : ℕ). a ⊗ s ⊕ t) (swap_powers j (length c)) (value_sum_of c j)

-- words whose differences vanish at each place are equal
pub same : (c d : List ℕ) → length c ≡ length d → Bytes c → Bytes d → Zeros (λ x. 1) (locators (length c)) (sums c d)
    → c ≡ d
unfolding sums locators
same [] [] p bc bd z = refl
same [] (b ∷ d) p bc bd z = absurd (omega arith)
same (a ∷ c) [] p bc bd z = absurd (omega arith)
same (a ∷ c) (b ∷ d) p bc bd z =
    ap₂ (λ (h : ℕ) (t : List ℕ). h ∷ t) (eq-of-⊕ a b (sym (⊗-one (a ⊕ b) (⊕-lt a b bc.0 bd.0)) ∙ z.0))
    (same c d (omega arith) bc.1 bd.1 z.1)
