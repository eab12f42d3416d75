-- The parity as the division's rest: it has the values at the roots that a parity has, and so it is the only one.
--     with_roots_zero              the generator is 0 at each root
--     generator_coefficients       its coefficients
--     generator_tail               without the highest of them it is x ^ 16 at each root
--     value_step                   a step of the division, at each root
--     parity_right, parity_is      what the division leaves is a parity, and a parity is that
--     length_parity                it has sixteen bytes
--     parity_zeros                 the parity of zeros
use mathlib.Core.Path.{◌≡◌, refl, sym, ap, ap₂, ◌∙◌}
use mathlib.Core.List.{List, [], ◌∷◌, ◌++◌}
use Prim.Native.Nat.{ℕ, zero, suc, ◌+◌, ◌<◌}
use native.Mathlib.Numerals.{add-one}
use native.Mathlib.Decide.{ℕ_discrete}
use native.Mathlib.Omega.{arith}
use lib.ListN.{length, get_or, replicate, length-replicate, length-append}
use Rattle.field.specs.Field.{◌⊕◌, double, times_bits, ◌⊗◌, power, value}
use Rattle.field.proofs.Sum.{⊕-assoc, ⊕-comm, ⊕-cancel, ⊕-self, ⊕-zero, zero-⊕, ⊕-lt}
use Rattle.field.proofs.Product.{⊕-⊗, ⊗-assoc, ⊗-comm, ⊗-zero, zero-⊗, one-⊗, ⊗-one, ⊗-lt, power_lt}
use Rattle.lists.specs.Tab.{tab}
use Rattle.lists.proofs.Tabs.{length_tab, tab_ext, tab_lt}
use Rattle.remainder.specs.Remainder.{AtRoots, Parity}
use Rattle.rules.specs.Word.{times_root, with_roots, generator, division_step, division_rest, parity_of}
use Rattle.field.proofs.Values.{value_snoc, value_zeros, value_elements, value-tab-⊕, value-tab-⊗}
use Rattle.remainder.proofs.Zeros.{zeros_at}
use Rattle.remainder.proofs.Unique.{at_roots_unique}

-- ---- the generator

-- a value is a byte
value_lt : (c : List ℕ) (x : ℕ) → value c x < 256
unfolding value
value_lt [] x = omega arith
value_lt (a ∷ c) x = ⊕-lt (a ⊗ power x (length c)) (value c x) (⊗-lt a (power x (length c))) (value_lt c x)

-- a zero in front, and one behind
value_front : (c : List ℕ) (x : ℕ) → value (0 ∷ c) x ≡ value c x
unfolding value
value_front c x = ap (λ (v : ℕ). v ⊕ value c x) (zero-⊗ (power x (length c))) ∙ zero-⊕ (value c x)

behind_at : (c : List ℕ) (k : ℕ) → get_or (c ++ (0 ∷ [])) k 0 ≡ get_or c k 0
behind_at [] zero = refl
behind_at [] (suc k) = refl
behind_at (a ∷ c) zero = refl
behind_at (a ∷ c) (suc k) = behind_at c k

value_behind : (n : ℕ) (c : List ℕ) (x : ℕ) → length c ≡ n → value (tab (suc n) (λ k. get_or c k 0)) x ≡ value c x ⊗ x
value_behind n c x e =
    ap (λ (l : List ℕ). value l x) (sym (tab_ext (suc n) (λ k. get_or c k 0) (c ++ (0 ∷ []))
    (length-append c (0 ∷ []) ∙ ap (λ (m : ℕ). m + 1) e ∙ add-one n) (λ k h. behind_at c k)))
    ∙ value_snoc c 0 x (omega arith) ∙ ⊕-zero (value c x ⊗ x)

-- a product with x + root
value_times_root : (root : ℕ) (c : List ℕ) (x : ℕ) → value (times_root root c) x ≡ (x ⊕ root) ⊗ value c x
value_times_root root c x =
    unfold times_root in let n = length c in
    value-tab-⊕ (suc n) (λ k. get_or c k 0) (λ k. root ⊗ get_or (0 ∷ c) k 0) x
    ∙ ap₂ (λ (u v : ℕ). u ⊕ v) (value_behind n c x refl ∙ ⊗-comm (value c x) x)
    (value-tab-⊗ (suc n) root (λ k. get_or (0 ∷ c) k 0) x
    ∙ ap (λ (v : ℕ). root ⊗ v) (value_elements (suc n) (0 ∷ c) x refl ∙ value_front c x))
    ∙ sym (⊕-⊗ x root (value c x))

length_with_roots : (n : ℕ) → length (with_roots n) ≡ suc n
unfolding with_roots times_root
length_with_roots zero = refl
length_with_roots (suc n) = length_tab (suc (length (with_roots n))) _ ∙ ap suc (length_with_roots n)

-- the highest coefficient is 1
highest : (n : ℕ) → get_or (with_roots n) 0 0 ≡ 1
unfolding with_roots times_root tab
highest zero = refl
highest (suc n) = ap₂ (λ (u v : ℕ). u ⊕ v) (highest n) (⊗-zero _) ∙ ⊕-zero 1

-- The polynomial with the roots 2 ^ 0, .., 2 ^ (n - 1) is 0 at each of them.
pub with_roots_zero : (n m : ℕ) → m < n → value (with_roots n) (power 2 m) ≡ 0
unfolding with_roots
with_roots_zero zero m h = absurd (omega arith)
with_roots_zero (suc n) m h =
    value_times_root (power 2 n) (with_roots n) (power 2 m)
    ∙ elim (ℕ_discrete m n) [
      | yes e ↦
          ap (λ (k : ℕ). (power 2 m ⊕ power 2 k) ⊗ value (with_roots n) (power 2 m)) (sym e)
          ∙ ap (λ (v : ℕ). v ⊗ value (with_roots n) (power 2 m)) (⊕-self (power 2 m))
          ∙ zero-⊗ (value (with_roots n) (power 2 m))
      | no ne ↦
          ap (λ (v : ℕ). (power 2 m ⊕ power 2 n) ⊗ v) (with_roots_zero n m (omega arith))
          ∙ ⊗-zero (power 2 m ⊕ power 2 n)
    ]

-- The generator's coefficients.
pub generator_coefficients : generator
    ≡ 1 ∷ 59 ∷ 13 ∷ 104 ∷ 189 ∷ 68 ∷ 209 ∷ 30 ∷ 8 ∷ 163 ∷ 65 ∷ 41 ∷ 229 ∷ 98 ∷ 50 ∷ 36 ∷ 59 ∷ []
generator_coefficients = unfold with_roots times_root tab power ◌⊗◌ times_bits double ◌⊕◌ in refl

-- the coefficients behind the highest
value_tail : (n : ℕ) (c : List ℕ) (x : ℕ) → length c ≡ suc n
    → value (tab n (λ k. get_or c (suc k) 0)) x ≡ get_or c 0 0 ⊗ power x n ⊕ value c x
unfolding value
value_tail n [] x e = absurd (omega arith)
value_tail n (a ∷ c) x e =
    let long : length c ≡ n = omega arith in
    value_elements n c x long ∙ sym (⊕-cancel (a ⊗ power x n) (value c x))
    ∙ ap (λ (m : ℕ). a ⊗ power x n ⊕ (a ⊗ power x m ⊕ value c x)) (sym long)

-- so at each root the generator without its highest coefficient is x ^ 16
pub generator_tail : (m : ℕ) → m < 16
    → value (tab 16 (λ k. get_or generator (suc k) 0)) (power 2 m) ≡ power (power 2 m) 16
generator_tail m h =
    let x = power 2 m in
    value_tail 16 generator x (length_with_roots 16)
    ∙ ap₂ (λ (a v : ℕ). a ⊗ power x 16 ⊕ v) (highest 16) (with_roots_zero 16 m h)
    ∙ ⊕-zero (1 ⊗ power x 16) ∙ one-⊗ (power x 16) (power_lt x 16)

-- ---- the division

-- the rest moved up by a place
value_moved : (rest : List ℕ) (x : ℕ) → length rest ≡ 16
    → value (tab 16 (λ k. get_or rest (suc k) 0)) x ≡ value rest x ⊗ x ⊕ get_or rest 0 0 ⊗ power x 16
unfolding value power
value_moved [] x e = absurd (omega arith)
value_moved (a ∷ c) x e =
    let long : length c ≡ 15 = omega arith in
    value_behind 15 c x long ∙ step (power x 15) (value c x)
    ∙ ap (λ (n : ℕ). (a ⊗ power x n ⊕ value c x) ⊗ x ⊕ a ⊗ power x 16) (sym long)
  where
    step : (p v : ℕ) → v ⊗ x ≡ (a ⊗ p ⊕ v) ⊗ x ⊕ a ⊗ (x ⊗ p)
    step p v = simp (⊕-⊗, ⊗-assoc, ⊗-comm, ⊕-assoc, ⊕-comm, ⊕-self, zero-⊕)

pub value_step : (rest : List ℕ) (byte m : ℕ) → length rest ≡ 16 → m < 16
    → value (division_step rest byte) (power 2 m) ≡ value rest (power 2 m) ⊗ power 2 m ⊕ byte ⊗ power (power 2 m) 16
unfolding division_step
value_step rest byte m long h =
    let x = power 2 m in
    let front = get_or rest 0 0 in
    value-tab-⊕ 16 (λ k. get_or rest (suc k) 0) (λ k. (front ⊕ byte) ⊗ get_or generator (suc k) 0) x
    ∙ ap₂ (λ (u v : ℕ). u ⊕ v) (value_moved rest x long)
    (value-tab-⊗ 16 (front ⊕ byte) (λ k. get_or generator (suc k) 0) x
    ∙ ap (λ (v : ℕ). (front ⊕ byte) ⊗ v) (generator_tail m h)) ∙ step (value rest x ⊗ x) front (power x 16)
  where
    step : (v a p : ℕ) → (v ⊕ a ⊗ p) ⊕ (a ⊕ byte) ⊗ p ≡ v ⊕ byte ⊗ p
    step v a p = simp (⊕-⊗, ⊕-assoc, ⊕-cancel)

step_at_roots : (wanted : ℕ → ℕ) (rest : List ℕ) (byte : ℕ) → AtRoots wanted rest
    → AtRoots (λ x. wanted x ⊗ x ⊕ byte ⊗ power x 16) (division_step rest byte)
step_at_roots wanted rest byte a = unfold division_step in record {
  long = length_tab 16 (λ k. get_or rest (suc k) 0 ⊕ (get_or rest 0 0 ⊕ byte) ⊗ get_or generator (suc k) 0);
  bytes =
      tab_lt 16 (λ k. get_or rest (suc k) 0 ⊕ (get_or rest 0 0 ⊕ byte) ⊗ get_or generator (suc k) 0) 256 (omega arith)
      (λ k. ⊕-lt (get_or rest (suc k) 0) ((get_or rest 0 0 ⊕ byte) ⊗ get_or generator (suc k) 0) (a.bytes (suc k))
      (⊗-lt (get_or rest 0 0 ⊕ byte) (get_or generator (suc k) 0)));
  agree = λ m h. value_step rest byte m a.long h
      ∙ ap (λ (v : ℕ). v ⊗ power 2 m ⊕ byte ⊗ power (power 2 m) 16) (a.agree m h);
}

-- the same values, said otherwise
at_roots_cong : (f g : ℕ → ℕ) (rest : List ℕ) → ((x : ℕ) → f x ≡ g x) → AtRoots f rest → AtRoots g rest
at_roots_cong f g rest e a =
    record { long = a.long; bytes = a.bytes; agree = λ m h. a.agree m h ∙ e (power 2 m) }

rest_at_roots : (wanted : ℕ → ℕ) (rest message : List ℕ) → AtRoots wanted rest
    → AtRoots (λ x. wanted x ⊗ power x (length message) ⊕ value message x ⊗ power x 16) (division_rest rest message)
unfolding division_rest value power
rest_at_roots wanted rest [] a = record {
  long = a.long;
  bytes = a.bytes;
  agree = λ m h.
      let x = power 2 m in
      sym (⊕-zero (value rest x ⊗ 1) ∙ ⊗-one (value rest x) (value_lt rest x))
      ∙ ap₂ (λ (u v : ℕ). u ⊗ 1 ⊕ v) (a.agree m h) (sym (zero-⊗ (power x 16)));
}
rest_at_roots wanted rest (byte ∷ message) a =
    at_roots_cong _ _ (division_rest (division_step rest byte) message)
    (λ x. step (wanted x) x (power x (length message)) (power x 16) (value message x))
    (rest_at_roots (λ x. wanted x ⊗ x ⊕ byte ⊗ power x 16) (division_step rest byte) message
    (step_at_roots wanted rest byte a))
  where
    step : (w x p q v : ℕ) → (w ⊗ x ⊕ byte ⊗ q) ⊗ p ⊕ v ⊗ q ≡ w ⊗ (x ⊗ p) ⊕ (byte ⊗ p ⊕ v) ⊗ q
    step w x p q v = simp (⊕-⊗, ⊗-assoc, ⊗-comm, ⊕-assoc)

-- ---- the theorems

zeros_at_roots : AtRoots (λ x. 0) (replicate 16 0)
zeros_at_roots = record {
  long = length-replicate {A = ℕ} 16 0;
  bytes = λ k. omega (arith, zeros_at 16 k);
  agree = λ m h. value_zeros 16 (power 2 m);
}

-- What the division leaves is a parity of the message: sixteen bytes that have the values of the message times x ^ 16
-- at the roots.
pub parity_right : (message : List ℕ) → Parity message (parity_of message)
parity_right message =
    unfold parity_of in at_roots_cong _ _ (division_rest (replicate 16 0) message) (λ x.
    ap (λ (v : ℕ). v ⊕ value message x ⊗ power x 16) (zero-⊗ (power x (length message)))
    ∙ zero-⊕ (value message x ⊗ power x 16)) (rest_at_roots (λ x. 0) (replicate 16 0) message zeros_at_roots)

-- Any parity of a message is what the division leaves.
pub parity_is : (message bytes : List ℕ) → Parity message bytes → bytes ≡ parity_of message
parity_is message bytes p =
    at_roots_unique (λ x. value message x ⊗ power x 16) bytes (parity_of message) p (parity_right message)

pub length_parity : (message : List ℕ) → length (parity_of message) ≡ 16
length_parity message = (parity_right message).long

-- The parity of zeros is sixteen zeros.
pub parity_zeros : (n : ℕ) → parity_of (replicate n 0) ≡ replicate 16 0
parity_zeros n = sym (parity_is (replicate n 0) (replicate 16 0) (at_roots_cong _ _ (replicate 16 0)
    (λ x. sym (ap (λ (v : ℕ). v ⊗ power x 16) (value_zeros n x) ∙ zero-⊗ (power x 16))) zeros_at_roots))
