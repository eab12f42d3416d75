-- What a list given by a rule holds.
--     length_tab, get_d_tab    its length, and its element at a place
--     tab_ext                  a list that holds f k at each k below its length n is `tab n f`
--     tab_cong                 rules that agree give one list
--     tab_join                 two lists one behind the other
--     tab_lt                   a bound on its elements
use mathlib.Core.Path.{◌≡◌, refl, sym, ap, ◌∙◌}
use mathlib.Core.List.{List, ◌∷◌, ◌++◌}
use Prim.Native.Nat.{ℕ, zero, suc, ◌+◌, ◌<◌}
use native.Mathlib.Nat.{not-suc-le-zero, le_of_suc-le-suc, zero-add, suc-add}
use native.Mathlib.Omega.{arith}
use lib.ListN.{length, get_or}
use lib.Seq.{ext_get_or}
use Rattle.lists.specs.Tab.{tab}

pub length_tab : (n : ℕ) (f : ℕ → ℕ) → length (tab n f) ≡ n
unfolding tab
length_tab zero f = refl
length_tab (suc n) f = ap suc (length_tab n (λ k. f (suc k)))

pub get_d_tab : (n : ℕ) (f : ℕ → ℕ) (k : ℕ) → k < n → get_or (tab n f) k 0 ≡ f k
unfolding tab
get_d_tab zero f k h = absurd (not-suc-le-zero h)
get_d_tab (suc n) f zero h = refl
get_d_tab (suc n) f (suc k) h = get_d_tab n (λ k. f (suc k)) k (le_of_suc-le-suc h)

pub tab_ext : (n : ℕ) (f : ℕ → ℕ) (l : List ℕ) → length l ≡ n → ((k : ℕ) → k < n → get_or l k 0 ≡ f k) → l ≡ tab n f
tab_ext n f l e h =
    ext_get_or 0 l (tab n f) (e ∙ sym (length_tab n f))
    (λ i lt. let inside : i < n = omega arith in h i inside ∙ sym (get_d_tab n f i inside))

pub tab_cong : (n : ℕ) (f g : ℕ → ℕ) → ((k : ℕ) → k < n → f k ≡ g k) → tab n f ≡ tab n g
tab_cong n f g h = tab_ext n g (tab n f) (length_tab n f) (λ k lt. get_d_tab n f k lt ∙ h k lt)

pub tab_join : (a b : ℕ) (f : ℕ → ℕ) → tab (a + b) f ≡ tab a f ++ tab b (λ k. f (a + k))
unfolding tab
tab_join zero b f = simp zero-add
tab_join (suc a) b f = simp suc-add (ap (λ (l : List ℕ). f zero ∷ l) (tab_join a b (λ k. f (suc k))))

pub tab_lt : (n : ℕ) (f : ℕ → ℕ) (m : ℕ) → 0 < m → ((k : ℕ) → f k < m) → (i : ℕ) → get_or (tab n f) i 0 < m
unfolding tab
tab_lt zero f m some few i = some
tab_lt (suc n) f m some few zero = few 0
tab_lt (suc n) f m some few (suc i) = tab_lt n (λ k. f (suc k)) m some (λ k. few (suc k)) i
