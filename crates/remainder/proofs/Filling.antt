-- The table that `fill` makes: its blocks, and their values at the roots.
use mathlib.Core.Path.{◌≡◌, refl, sym, ap, ap₂, ◌∙◌, subst}
use mathlib.Core.List.{List}
use Prim.Native.Nat.{ℕ, ◌+◌, ◌*◌, ◌-◌, ◌<◌, ◌≤◌}
use native.Mathlib.Decide.{ℕ_discrete, dec_lt}
use native.Mathlib.Omega.{arith}
use lib.Dec.{eqb, eqb→eq}
use lib.ListN.{length, get_or}
use Rattle.field.specs.Field.{◌⊕◌, double, times_bits, ◌⊗◌, power, value}
use Rattle.field.proofs.Product.{⊕-⊗, ⊗-assoc, zero-⊗, one-⊗, ⊗-lt, two-⊗}
use Rattle.lists.proofs.Tabs.{tab_cong}
use Rattle.lists.proofs.Every.{at as each}
use Rattle.remainder.specs.Steps.{row, Table, Put, Multiples}
use Rattle.field.proofs.Values.{value-tab-⊗}
use Rattle.remainder.proofs.Powers.{powers, powers_lt, powers_rule}

-- ---- one pair of blocks

two_times : (n : ℕ) → n ≤ 8 → 2 ⊗ n ≡ 2 * n
unfolding ◌⊗◌ times_bits double ◌⊕◌
two_times n h = eqb→eq (2 ⊗ n) (2 * n) (each (λ (k : ℕ). eqb (2 ⊗ k) (2 * k)) 9 tt n (omega arith))

-- the multiple by an even number, and by the odd one behind it
even_multiple : (n p : ℕ) → n ≤ 8 → double (n ⊗ p) ≡ (2 * n) ⊗ p
even_multiple n p h =
    sym (two-⊗ (n ⊗ p) (⊗-lt n p)) ∙ sym (⊗-assoc 2 n p) ∙ ap (λ (a : ℕ). a ⊗ p) (two_times n h)

plus_one : (n : ℕ) → n < 8 → 1 ⊕ 2 * n ≡ 2 * n + 1
unfolding ◌⊕◌
plus_one n h = eqb→eq (1 ⊕ 2 * n) (2 * n + 1) (each (λ (k : ℕ). eqb (1 ⊕ 2 * k) (2 * k + 1)) 8 tt n h)

odd_multiple : (n p : ℕ) → n < 8 → 1 ⊗ p ⊕ (2 * n) ⊗ p ≡ (2 * n + 1) ⊗ p
odd_multiple n p h = sym (⊕-⊗ 1 (2 * n) p) ∙ ap (λ (a : ℕ). a ⊗ p) (plus_one n h)

module _ (at : ℕ) (old : List ℕ) where
  -- the first two blocks are there
  pub multiples_start : length old ≡ 8192 → ((k : ℕ) → k < 256 → get_or old (at + k) 0 ≡ 0)
      → ((k : ℕ) → k < 256 → get_or old (at + 256 + k) 0 < 256) → Multiples at 2 old old
  multiples_start l z small = record {
    len = l;
    block = λ n k h lt. elim (ℕ_discrete n 0) [
      | yes e ↦
          ap (λ (i : ℕ). get_or old i 0) {x = at + 256 * n + k} {y = at + k} (omega arith) ∙ z k lt
          ∙ sym (zero-⊗ (get_or old (at + 256 + k) 0)) ∙ ap (λ (a : ℕ). a ⊗ get_or old (at + 256 + k) 0) (sym e)
      | no e ↦
          let one : n ≡ 1 = omega arith in
          ap (λ (i : ℕ). get_or old i 0) {x = at + 256 * n + k} {y = at + 256 + k} (omega arith)
          ∙ sym (one-⊗ (get_or old (at + 256 + k) 0) (small k lt))
          ∙ ap (λ (a : ℕ). a ⊗ get_or old (at + 256 + k) 0) (sym one)
    ];
    before = λ i lt. refl;
    behind = λ i le. refl;
  }

  -- two blocks more
  module _ (n : ℕ) (low : 1 ≤ n) (high : n < 8) (t u v : List ℕ) (m : Multiples at (2 * n) old t)
      (p : Put (at + 512 * n) 256 (λ k. double (get_or t (at + 256 * n + k) 0)) t u)
      (q : Put (at + 512 * n + 256) 256 (λ k. get_or u (at + 256 + k) 0 ⊕ get_or u (at + 512 * n + k) 0) u v) where
    -- block 1 as it was
    abbrev one : ℕ → ℕ
    one k = get_or old (at + 256 + k) 0

    even : (k : ℕ) → k < 256 → get_or u (at + 512 * n + k) 0 ≡ (2 * n) ⊗ one k
    even k lt = p.done k lt ∙ ap double (m.block n k (omega arith) lt) ∙ even_multiple n (one k) (omega arith)

    first : (k : ℕ) → k < 256 → get_or u (at + 256 + k) 0 ≡ 1 ⊗ one k
    first k lt = p.before (at + 256 + k) (omega arith) ∙ m.block 1 k (omega arith) lt

    odd : (k : ℕ) → k < 256 → get_or v (at + 512 * n + 256 + k) 0 ≡ (2 * n + 1) ⊗ one k
    odd k lt = q.done k lt ∙ ap₂ (λ (a b : ℕ). a ⊕ b) (first k lt) (even k lt) ∙ odd_multiple n (one k) high

    blocks : (b k : ℕ) → b < 2 * (n + 1) → k < 256 → get_or v (at + 256 * b + k) 0 ≡ b ⊗ one k
    blocks b k h lt = elim (dec_lt b (2 * n)) [
      | yes l ↦
          q.before (at + 256 * b + k) (omega arith) ∙ p.before (at + 256 * b + k) (omega arith) ∙ m.block b k l lt
      | no l ↦ elim (ℕ_discrete b (2 * n)) [
        | yes e ↦
            ap (λ (i : ℕ). get_or v i 0) {x = at + 256 * b + k} {y = at + 512 * n + k} (omega arith)
            ∙ q.before (at + 512 * n + k) (omega arith) ∙ even k lt ∙ ap (λ (a : ℕ). a ⊗ one k) (sym e)
        | no e ↦
            let o : b ≡ 2 * n + 1 = omega arith in
            ap (λ (i : ℕ). get_or v i 0) {x = at + 256 * b + k} {y = at + 512 * n + 256 + k} (omega arith)
            ∙ odd k lt ∙ ap (λ (a : ℕ). a ⊗ one k) (sym o)
      ]
    ]

    pub multiples_more : Multiples at (2 * (n + 1)) old v
    multiples_more = record {
      len = q.len ∙ p.len ∙ m.len;
      block = blocks;
      before = λ i lt. q.before i (omega arith) ∙ p.before i (omega arith) ∙ m.before i lt;
      behind = λ i le. q.behind i (omega arith) ∙ p.behind i (omega arith) ∙ m.behind i (omega arith);
    }

pub multiples_all : (at : ℕ) (old new : List ℕ) (n : ℕ) → n ≡ 8 → Multiples at (2 * n) old new → Multiples at 16 old new
multiples_all at old new n e m = subst (λ (b : ℕ). Multiples at b old new) {x = 2 * n} {y = 16} (omega arith) m

-- ---- the whole table

by_sixteen : (n : ℕ) → n < 16 → n ⊗ 16 ≡ 16 * n
unfolding ◌⊗◌ times_bits double ◌⊕◌
by_sixteen n h = eqb→eq (n ⊗ 16) (16 * n) (each (λ (k : ℕ). eqb (k ⊗ 16) (16 * k)) 16 tt n h)

high_multiple : (n p : ℕ) → n < 16 → n ⊗ (16 ⊗ p) ≡ (16 * n) ⊗ p
high_multiple n p h = sym (⊗-assoc n 16 p) ∙ ap (λ (a : ℕ). a ⊗ p) (by_sixteen n h)

-- a row whose bytes are a multiple of those of row j of the powers
multiple_row : (table : List ℕ) (place a j m : ℕ) → j < 16 → m < 16
    → ((k : ℕ) → k < 16 → get_or table (place + k) 0 ≡ a ⊗ get_or powers (16 * j + k) 0)
    → value (row table place) (power 2 m) ≡ a ⊗ power (power 2 m) (31 - j)
multiple_row table place a j m h lt e =
    unfold row in let x = power 2 m in
    ap (λ (c : List ℕ). value c x)
    (tab_cong 16 (λ k. get_or table (place + k) 0) (λ k. a ⊗ get_or powers (16 * j + k) 0) e)
    ∙ value-tab-⊗ 16 a (λ k. get_or powers (16 * j + k) 0) x ∙ ap (λ (v : ℕ). a ⊗ v) (powers_rule j m h lt)

-- the table as `fill` makes it: the powers are put into a table of zeros, multiplied, doubled again, and multiplied
module _ (s t : List ℕ) (zeros : (i : ℕ) → get_or s i 0 ≡ 0) (p : Put 256 256 (λ k. get_or powers k 0) s t) where
  pub low_zero : (k : ℕ) → k < 256 → get_or t (0 + k) 0 ≡ 0
  low_zero k lt = p.before (0 + k) (omega arith) ∙ zeros (0 + k)

  low_one : (k : ℕ) → k < 256 → get_or t (0 + 256 + k) 0 ≡ get_or powers k 0
  low_one k lt = p.done k lt

  pub low_byte : (k : ℕ) → k < 256 → get_or t (0 + 256 + k) 0 < 256
  low_byte k lt = rw (low_one k lt) (powers_lt k)

  module _ (u v : List ℕ) (q : Multiples 0 16 t u) (d : Put 4352 256 (λ k. double (get_or u (2048 + k) 0)) u v) where
    pub high_zero : (k : ℕ) → k < 256 → get_or v (4096 + k) 0 ≡ 0
    high_zero k lt =
        d.before (4096 + k) (omega arith) ∙ q.behind (4096 + k) (omega arith) ∙ p.behind (4096 + k) (omega arith)
        ∙ zeros (4096 + k)

    high_one : (k : ℕ) → k < 256 → get_or v (4096 + 256 + k) 0 ≡ 16 ⊗ get_or powers k 0
    high_one k lt =
        d.done k lt ∙ ap double (q.block 8 k (omega arith) lt ∙ ap (λ (a : ℕ). 8 ⊗ a) (low_one k lt))
        ∙ even_multiple 8 (get_or powers k 0) (omega arith)

    pub high_byte : (k : ℕ) → k < 256 → get_or v (4096 + 256 + k) 0 < 256
    high_byte k lt = rw (high_one k lt) (⊗-lt 16 (get_or powers k 0))

    pub table_filled : (w : List ℕ) → Multiples 4096 16 v w → Table w
    table_filled w r = record {
      low = λ n j m hn hj hm. multiple_row w (256 * n + 16 * j) n j m hj hm (λ k lt.
          r.before (256 * n + 16 * j + k) (omega arith) ∙ d.before (256 * n + 16 * j + k) (omega arith)
          ∙ ap (λ (i : ℕ). get_or u i 0) {x = 256 * n + 16 * j + k} {y = 0 + 256 * n + (16 * j + k)} (omega arith)
          ∙ q.block n (16 * j + k) hn (omega arith) ∙ ap (λ (a : ℕ). n ⊗ a) (low_one (16 * j + k) (omega arith)));
      high = λ n j m hn hj hm. multiple_row w (4096 + 256 * n + 16 * j) (16 * n) j m hj hm (λ k lt.
          ap (λ (i : ℕ). get_or w i 0) {x = 4096 + 256 * n + 16 * j + k} {y = 4096 + 256 * n + (16 * j + k)}
          (omega arith)
          ∙ r.block n (16 * j + k) hn (omega arith) ∙ ap (λ (a : ℕ). n ⊗ a) (high_one (16 * j + k) (omega arith))
          ∙ high_multiple n (get_or powers (16 * j + k) 0) hn);
    }
