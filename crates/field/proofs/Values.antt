-- Laws of the value of a polynomial whose highest coefficient stands first.
--     bytes_of, byte_at                         every coefficient is a byte
--     value_append, value_snoc, value_more      coefficients put behind others
--     value_zeros                               all coefficients 0
--     value-tab-⊕, value-tab-⊗                  a sum, and a multiple, place by place
use mathlib.Core.Path.{◌≡◌, refl, sym, ap, ap₂, ◌∙◌}
use mathlib.Core.List.{List, [], ◌∷◌, ◌++◌}
use Prim.Native.Nat.{ℕ, zero, suc, ◌+◌, ◌<◌}
use native.Mathlib.Numerals.{add-one}
use native.Mathlib.Omega.{arith}
use lib.ListN.{length, get_or, take, replicate, length-append}
use lib.Seq.{take-suc}
use Rattle.field.specs.Field.{◌⊕◌, ◌⊗◌, power, value, Bytes}
use Rattle.field.proofs.Sum.{⊕-assoc, ⊕-left-comm, ⊕-zero, zero-⊕}
use Rattle.field.proofs.Product.{⊕-⊗, ⊗-⊕, ⊗-assoc, ⊗-comm, ⊗-one, ⊗-zero, zero-⊗, power_add}
use Rattle.lists.specs.Tab.{tab}
use Rattle.lists.proofs.Tabs.{length_tab, tab_ext}

-- a list of bytes, by its elements
pub bytes_of : (l : List ℕ) → ((n : ℕ) → get_or l n 0 < 256) → Bytes l
bytes_of [] h = tt
bytes_of (a ∷ l) h = (h 0, bytes_of l (λ n. h (suc n)))

pub byte_at : (l : List ℕ) (n : ℕ) → Bytes l → get_or l n 0 < 256
byte_at [] n b = omega arith
byte_at (a ∷ l) zero b = b.0
byte_at (a ∷ l) (suc n) b = byte_at l n b.1

pub value_append : (a b : List ℕ) (x : ℕ) → value (a ++ b) x ≡ value a x ⊗ power x (length b) ⊕ value b x
unfolding value
value_append [] b x = sym (ap (λ (v : ℕ). v ⊕ value b x) (zero-⊗ (power x (length b))) ∙ zero-⊕ (value b x))
value_append (c ∷ a) b x =
    ap₂ (λ (p v : ℕ). c ⊗ p ⊕ v) (ap (power x) (length-append a b) ∙ power_add x (length a) (length b))
    (value_append a b x) ∙ step (power x (length a)) (power x (length b)) (value a x) (value b x)
  where
    step : (p q u v : ℕ) → c ⊗ (p ⊗ q) ⊕ (u ⊗ q ⊕ v) ≡ (c ⊗ p ⊕ u) ⊗ q ⊕ v
    step p q u v = simp (⊕-⊗, ⊗-assoc, ⊕-assoc)

-- one more coefficient at the end
pub value_snoc : (c : List ℕ) (a x : ℕ) → a < 256 → value (c ++ (a ∷ [])) x ≡ value c x ⊗ x ⊕ a
unfolding value power
value_snoc [] a x h =
    ap (λ (s : ℕ). s ⊕ 0) (⊗-one a h) ∙ ⊕-zero a ∙ sym (zero-⊕ a) ∙ ap (λ (s : ℕ). s ⊕ a) (sym (zero-⊗ x))
value_snoc (b ∷ c) a x h =
    ap₂ (λ (n s : ℕ). b ⊗ power x n ⊕ s) (length-append c (a ∷ []) ∙ add-one (length c)) (value_snoc c a x h)
    ∙ step (power x (length c)) (value c x)
  where
    step : (p v : ℕ) → b ⊗ (x ⊗ p) ⊕ (v ⊗ x ⊕ a) ≡ (b ⊗ p ⊕ v) ⊗ x ⊕ a
    step p v = simp (⊕-⊗, ⊗-assoc, ⊕-assoc, ⊗-comm)

pub value_more : (w : List ℕ) (i x : ℕ) → i < length w → get_or w i 0 < 256
    → value (take (i + 1) w) x ≡ value (take i w) x ⊗ x ⊕ get_or w i 0
value_more w i x h b =
    ap (λ (n : ℕ). value (take n w) x) (add-one i) ∙ ap (λ (l : List ℕ). value l x) (take-suc w i 0 h)
    ∙ value_snoc (take i w) (get_or w i 0) x b

pub value_zeros : (n x : ℕ) → value (replicate n 0) x ≡ 0
unfolding value
value_zeros zero x = refl
value_zeros (suc n) x =
    ap₂ (λ (u v : ℕ). u ⊕ v) (zero-⊗ (power x (length (replicate n 0)))) (value_zeros n x) ∙ ⊕-zero 0

-- ---- place by place

-- a list by its elements
pub value_elements : (n : ℕ) (c : List ℕ) (x : ℕ) → length c ≡ n → value (tab n (λ k. get_or c k 0)) x ≡ value c x
value_elements n c x e = ap (λ (l : List ℕ). value l x) (sym (tab_ext n (λ k. get_or c k 0) c e (λ k lt. refl)))

value_tab_suc : (n : ℕ) (f : ℕ → ℕ) (x : ℕ) → value (tab (suc n) f) x ≡ f 0 ⊗ power x n ⊕ value (tab n (λ k. f
    (suc k))) x
unfolding value tab
value_tab_suc n f x =
    ap (λ (m : ℕ). f 0 ⊗ power x m ⊕ value (tab n (λ k. f (suc k))) x) (length_tab n (λ k. f (suc k)))

value_tab_zero : (f : ℕ → ℕ) (x : ℕ) → value (tab 0 f) x ≡ 0
value_tab_zero f x = unfold value tab in refl

pub value-tab-⊕ : (n : ℕ) (f g : ℕ → ℕ) (x : ℕ)
    → value (tab n (λ k. f k ⊕ g k)) x ≡ value (tab n f) x ⊕ value (tab n g) x
value-tab-⊕ zero f g x = simp (value_tab_zero, ⊕-zero)
value-tab-⊕ (suc n) f g x =
    simp (value_tab_suc, value-tab-⊕ n (λ k. f (suc k)) (λ k. g (suc k)) x, ⊕-⊗, ⊕-assoc, ⊕-left-comm)

pub value-tab-⊗ : (n a : ℕ) (f : ℕ → ℕ) (x : ℕ) → value (tab n (λ k. a ⊗ f k)) x ≡ a ⊗ value (tab n f) x
value-tab-⊗ zero a f x = simp (value_tab_zero, ⊗-zero)
value-tab-⊗ (suc n) a f x = simp (value_tab_suc, value-tab-⊗ n a (λ k. f (suc k)) x, ⊗-⊕, ⊗-assoc)
