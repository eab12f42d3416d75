-- What the parts of the decoder say of each other. A place n of a word has the locator 2 ^ (203 - n).
--     sum_of                        the syndromes of errors are sums over the locators
--     ListedZeros, Places, Roots    the places at which a list and a polynomial are 0
--     Explains, ErrorAt             errors that have given syndromes, and the error at a place
--     Mended, Syndromes             the errors are taken away; the values of a word at the roots
--     picked_rows                   half of a product by a table of powers
use Rattle.std.specs.Prelude.{◌≡◌, ◌≢◌, List, ℕ, ◌+◌, ◌-◌, ◌*◌, ◌/◌, ◌%◌, ◌≤◌, ◌<◌, length, get_or}
use Rattle.field.specs.Field.{◌⊕◌, power, value}
use Rattle.field.specs.Roots.{poly, locators}
use Rattle.nearest.specs.Codeword.{distance}
use Rattle.nearest.proofs.Sums.{sum_of}

-- no nine entries of v, at rising places below 204, are 0
abbrev pub FewZeros : List ℕ → Type 0
FewZeros v =
    (at : ℕ → ℕ) → ((a : ℕ) → a < 9 → at a < 204) → ((a b : ℕ) → a < b → b < 9 → at a < at b)
    → ((a : ℕ) → a < 9 → get_or v (at a) 0 ≡ 0) → ⊥

-- the first n entries of `at` are the places below q at which v is 0, rising
pub record ListedZeros (v at : List ℕ) (n q : ℕ) : Type 0 where
  pub small : (a : ℕ) → a < n → get_or at a 0 < q
  pub rising : (a b : ℕ) → a < b → b < n → get_or at a 0 < get_or at b 0
  pub zeros : (a : ℕ) → a < n → get_or v (get_or at a 0) 0 ≡ 0
  pub all : (p : ℕ) → p < q → get_or v p 0 ≡ 0 → (a : ℕ) × (a < n) × (get_or at a 0 ≡ p)

-- a polynomial of bytes that has a coefficient 1
pub record NotZero (l : List ℕ) : Type 0 where
  pub bytes : (n : ℕ) → get_or l n 0 < 256
  pub degree : ℕ
  pub one : get_or l degree 0 ≡ 1

-- the first n entries of `at` are at most eight exponents below 204, rising
pub record Places (at : List ℕ) (n : ℕ) : Type 0 where
  pub few : n ≤ 8
  pub small : (a : ℕ) → a < n → get_or at a 0 < 204
  pub rising : (a b : ℕ) → a < b → b < n → get_or at a 0 < get_or at b 0

-- they are those q at which l is 0 at 2 ^ q
pub record Roots (l at : List ℕ) (n : ℕ) : Type 0 where
  pub places : Places at n
  pub all : (q : ℕ) → q < 204 → poly l (power 2 q) ≡ 0 → (a : ℕ) × (a < n) × (get_or at a 0 ≡ q)

-- the errors e have the syndromes s and stand at places whose locators' exponents are among the first n of `at`
pub record Explains (s at : List ℕ) (n : ℕ) (e : List ℕ) : Type 0 where
  pub long : length e ≡ 204
  pub bytes : (p : ℕ) → get_or e p 0 < 256
  pub syndromes : (j : ℕ) → j < 16 → get_or s j 0 ≡ sum_of (λ x. power x j) (locators 204) e
  pub listed : (p : ℕ) → p < 204 → get_or e p 0 ≢ 0 → (a : ℕ) × (a < n) × (get_or at a 0 ≡ 203 - p)

-- v is the error at p, if any errors explain s
pub record ErrorAt (s at : List ℕ) (n p v : ℕ) : Type 0 where
  pub is : (e : List ℕ) → Explains s at n e → v ≡ get_or e p 0

-- the errors at the first n places of `at` are taken away from w, which has become c; count of them are not 0
pub record Mended (s at : List ℕ) (n : ℕ) (w c : List ℕ) (count : ℕ) : Type 0 where
  pub errors : (p : ℕ) → p < 204 → ErrorAt s at n p (get_or w p 0 ⊕ get_or c p 0)
  pub far : distance c w ≡ count
  pub few : count ≤ n

-- the first sixteen of s are the word's values at the roots of the code
abbrev pub Syndromes : List ℕ → List ℕ → Type 0
Syndromes w s = (j : ℕ) → j < 16 → get_or s j 0 ≡ value w (power 2 j)

-- the sum of the rows of a table from k on that the bits 0 to 3 of c pick
unfoldable pub picked_rows : ℕ → ℕ → List ℕ → ℕ
picked_rows c k rows =
    ((c / 1 % 2 * get_or rows k 0 ⊕ c / 2 % 2 * get_or rows (k + 1) 0) ⊕ c / 4 % 2 * get_or rows (k + 2) 0)
    ⊕ c / 8 % 2 * get_or rows (k + 3) 0
