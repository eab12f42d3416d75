-- The search for roots: the table of terms, the indices from place to place, and the list of the places found.
use mathlib.Core.Bool.{cond}
use mathlib.Core.Path.{◌≡◌, refl, sym, ap, ap₂, ◌∙◌, subst}
use mathlib.Core.Logic.{◌≢◌, inl, inr, ⊎_elim}
use mathlib.Core.List.{List, [], ◌∷◌, ◌++◌}
use Prim.Native.Nat.{ℕ, suc, ◌+◌, ◌*◌, ◌-◌, ◌≤◌, ◌<◌}
use native.Mathlib.Nat.{mul_comm, mul-add, mul-le-mul_left}
use native.Mathlib.Decide.{ℕ_discrete, dec_lt}
use native.Mathlib.Numerals.{add-one}
use native.Mathlib.Omega.{arith}
use lib.Bits.{bit_xor}
use lib.Dec.{eqb}
use lib.ListN.{length, get_or, set, take, replicate, length-take, get_or-replicate, get_or-append, length-append}
use lib.Seq.{get_or-append_right, get_or-append_seam, get_or-take, length-take-le}
use Rattle.std.proofs.lemmas.List.{get_or-append-add}
use Rattle.field.specs.Tables.{Powers}
use borrow.Author.Tests.{eq-eqb, ne_eqb}
use Rattle.field.specs.Field.{◌⊕◌, ◌⊗◌, power}
use Rattle.field.proofs.Product.{zero-⊗, ⊗-one, ⊗-assoc, ⊗-left-comm, power_add, power_mul}
use Rattle.lists.proofs.Fill.{Fill, fill_step, fill_at}
use Rattle.field.specs.Roots.{poly}
use Rattle.reed_solomon.specs.Rows.{total}
use Rattle.reed_solomon.specs.Decode.{FewZeros, ListedZeros}
use Rattle.reed_solomon.specs.Search.{TermTable, Term, Terms, Below}
use Rattle.reed_solomon.proofs.Totals.{total_ext, total-⊗, total_first}
use Rattle.reed_solomon.proofs.Exponents.{power_less}

-- ---- the table

-- 32 zeros, 255 powers and 33 powers
pub table_is : (powers a b rest : List ℕ) → Powers powers → length a ≡ 255 → a ≡ take 255 powers
    → b ≡ take 33 powers
    → TermTable (replicate 32 0 ++ (take 255 (a ++ replicate 33 0) ++ (b ++ rest)))
table_is powers a b rest p la ea eb = record {
  zeros = λ i h. get_or-append (replicate 32 0) tail 0 i (omega arith) ∙ get_or-replicate 32 i 0 0 h;
  powers = λ i h. get_or-append-add (replicate 32 0) tail i 0 ∙ elim (dec_lt i 255) [
    | yes low ↦ get_or-append first (b ++ rest) 0 i (omega (arith, long))
        ∙ get_or-take 255 (a ++ replicate 33 0) i 0 low
        ∙ get_or-append a (replicate 33 0) 0 i (omega arith) ∙ ap (λ (l : List ℕ). get_or l i 0) ea
        ∙ get_or-take 255 powers i 0 low ∙ p.at i low
    | no high ↦ get_or-append_right first (b ++ rest) i 0 (omega (arith, long))
        ∙ ap (λ (n : ℕ). get_or (b ++ rest) (i - n) 0) long
        ∙ get_or-append b rest 0 (i - 255) (omega (arith, lb)) ∙ ap (λ (l : List ℕ). get_or l (i - 255) 0) eb
        ∙ get_or-take 33 powers (i - 255) 0 (omega arith) ∙ p.at (i - 255) (omega arith) ∙ power_less i (omega arith)
  ];
}
  where
    first : List ℕ
    first = take 255 (a ++ replicate 33 0)

    tail : List ℕ
    tail = first ++ (b ++ rest)

    lb : length b ≡ 33
    lb = ap length eb
        ∙ length-take-le 33 powers (omega (arith, la, ap length ea, length-take 255 powers))

    long : length first ≡ 255
    long = length-take-le 255 (a ++ replicate 33 0) (omega (arith, length-append a (replicate 33 0)))

-- ---- one index

pub step_zero : (e k t : ℕ) → e < 32 → Term e t → Term e (t ⊗ power 2 k)
step_zero e k t h =
    ⊎_elim (λ w. inl (w.0, ap (λ (x : ℕ). x ⊗ power 2 k) w.1 ∙ zero-⊗ (power 2 k))) (λ w. absurd (omega arith))

pub step_up : (e k t : ℕ) → 32 ≤ e → e + k < 287 → Term e t → Term (e + k) (t ⊗ power 2 k)
step_up e k t h b =
    ⊎_elim (λ w. absurd (omega arith)) (λ w.
    let s : e - 32 + k ≡ e + k - 32 = omega arith in
    inr (omega arith, b, ap (λ (x : ℕ). x ⊗ power 2 k) w.2 ∙ sym (power_add 2 (e - 32) k) ∙ ap (power 2) s))

pub step_round : (e k t : ℕ) → 32 ≤ e → e < 287 → k ≤ 32 → 287 ≤ e + k → Term e t → Term (e + k - 255) (t ⊗ power 2 k)
step_round e k t h u b r =
    ⊎_elim (λ w. absurd (omega arith)) (λ w.
    let s : e - 32 + k - 255 ≡ e + k - 255 - 32 = omega arith in
    inr (
      omega arith,
      omega arith,
      ap (λ (x : ℕ). x ⊗ power 2 k) w.2 ∙ sym (power_add 2 (e - 32) k)
          ∙ sym (power_less (e - 32 + k) (omega arith)) ∙ ap (power 2) s,
    ))

-- what the table holds for a term d steps on
term_at : (table : List ℕ) (e t d : ℕ) → TermTable table → d < 32 → Term e t → get_or table (e + d) 0 ≡ t ⊗ power 2 d
term_at table e t d z h =
    ⊎_elim (λ w.
    let s : e + d ≡ d = omega arith in
    ap (λ (n : ℕ). get_or table n 0) s ∙ z.zeros d h ∙ sym (ap (λ (x : ℕ). x ⊗ power 2 d) w.1 ∙ zero-⊗ (power 2 d)))
    (λ w.
    let s : e + d ≡ 32 + (e - 32 + d) = omega arith in
    ap (λ (n : ℕ). get_or table n 0) s ∙ z.powers (e - 32 + d) (omega arith) ∙ power_add 2 (e - 32) d
    ∙ ap (λ (x : ℕ). x ⊗ power 2 d) (sym w.2))

-- ---- all nine

-- d places on, the exponent of the term k is k * d more
term_moved : (a k q d : ℕ) → (a ⊗ power 2 (k * q)) ⊗ power 2 (k * d) ≡ a ⊗ power 2 (k * (q + d))
term_moved a k q d =
    ⊗-assoc a (power 2 (k * q)) (power 2 (k * d))
    ∙ ap (λ (x : ℕ). a ⊗ x) (sym (power_add 2 (k * q) (k * d)) ∙ ap (power 2) (sym (mul-add k q d)))

pub terms_first : (l : List ℕ) (e : List ℕ) → ((n : ℕ) → get_or l n 0 < 256)
    → ((k : ℕ) → k < 9 → Term (get_or e k 0) (get_or l k 0)) → Terms l 0 e
terms_first l e b h k lt =
    unfold power in let z : k * 0 ≡ 0 = omega arith in
    subst (Term (get_or e k 0)) (sym (ap (λ (n : ℕ). get_or l k 0 ⊗ power 2 n) z ∙ ⊗-one (get_or l k 0) (b k))) (h k lt)

pub terms_step : (l e n : List ℕ) (q : ℕ)
    → ((k : ℕ) → k < 9 → (t : ℕ) → Term (get_or e k 0) t → Term (get_or n k 0) (t ⊗ power 2 (4 * k)))
    → Terms l q e → Terms l (q + 4) n
terms_step l e n q h t k lt =
    subst (Term (get_or n k 0))
    (ap (λ (x : ℕ). (get_or l k 0 ⊗ power 2 (k * q)) ⊗ power 2 x) (mul_comm 4 k) ∙ term_moved (get_or l k 0) k q 4)
    (h k lt (get_or l k 0 ⊗ power 2 (k * q)) (t k lt))

pub terms_below : (l e : List ℕ) (q : ℕ) → Terms l q e → Below e
terms_below l e q t k h = ⊎_elim (λ w. omega arith) (λ w. omega arith) (t k h)

pub product_lt : (k j : ℕ) → k < 9 → j < 4 → k * j < 25
product_lt k j hk hj =
    let a : k * j ≤ k * 3 = mul-le-mul_left k (omega arith) in
    omega arith

-- one more term, as the loop adds it
pub total_more : (f : ℕ → ℕ) (k v x : ℕ) → v ≡ total k f → x ≡ f k → bit_xor x v ≡ total (k + 1) f
total_more f k v x e h = unfold total ◌⊕◌ in ap₂ bit_xor h e ∙ ap (λ (n : ℕ). total n f) (sym (add-one k))

-- a polynomial's value as the total of its terms
total_poly : (l : List ℕ) (x : ℕ) → ((n : ℕ) → get_or l n 0 < 256)
    → total (length l) (λ k. get_or l k 0 ⊗ power x k) ≡ poly l x
unfolding poly total power
total_poly [] x b = refl
total_poly (a ∷ l) x b =
    total_first (length l) (λ k. get_or (a ∷ l) k 0 ⊗ power x k) ∙ ap₂ (λ (u v : ℕ). u ⊕ v) (⊗-one a (b 0))
    (total_ext (length l) (λ k. get_or l k 0 ⊗ (x ⊗ power x k)) (λ k. x ⊗ (get_or l k 0 ⊗ power x k))
    (λ k h. ⊗-left-comm (get_or l k 0) x (power x k))
    ∙ total-⊗ (length l) x (λ k. get_or l k 0 ⊗ power x k) ∙ ap (λ (v : ℕ). x ⊗ v) (total_poly l x (λ n. b (suc n))))

pub terms_value : (l e table : List ℕ) (q j : ℕ) → length l ≡ 9 → ((n : ℕ) → get_or l n 0 < 256) → TermTable table
    → j < 4 → Terms l q e → total 9 (λ k. get_or table (get_or e k 0 + k * j) 0) ≡ poly l (power 2 (q + j))
terms_value l e table q j ll b z hj t =
    total_ext 9 (λ k. get_or table (get_or e k 0 + k * j) 0) (λ k. get_or l k 0 ⊗ power (power 2 (q + j)) k) (λ k h.
    let s : k * j < 32 = omega (arith, product_lt k j h hj) in
    term_at table (get_or e k 0) (get_or l k 0 ⊗ power 2 (k * q)) (k * j) z s (t k h)
    ∙ term_moved (get_or l k 0) k q j
    ∙ ap (λ (x : ℕ). get_or l k 0 ⊗ x) (ap (power 2) (mul_comm k (q + j)) ∙ sym (power_mul 2 (q + j) k)))
    ∙ ap (λ (n : ℕ). total n (λ k. get_or l k 0 ⊗ power (power 2 (q + j)) k)) (sym ll) ∙ total_poly l
    (power 2 (q + j)) b

-- four values stored in one turn
pub fill_four : (f : ℕ → ℕ) (v : List ℕ) (q a b c d : ℕ) → q + 3 < 204 → Fill 204 f q v → a ≡ f (q + 0)
    → b ≡ f (q + 1) → c ≡ f (q + 2) → d ≡ f (q + 3)
    → Fill 204 f (q + 4) (set (set (set (set v q a) (q + 1) b) (q + 2) c) (q + 3) d)
fill_four f v q a b c d h one ea eb ec ed =
    let none : q + 0 ≡ q = omega arith in
    let two = fill_step 204 f one q a refl (omega arith) (ea ∙ ap f none) in
    let three = fill_step 204 f two (q + 1) b refl (omega arith) eb in
    let four = fill_step 204 f three (q + 2) c (omega arith) (omega arith) ec in
    fill_at 204 f (fill_step 204 f four (q + 3) d (omega arith) (omega arith) ed) (q + 4) (omega arith)

-- ---- the places found

pub listed_none : (v at : List ℕ) → ListedZeros v at 0 0
listed_none v at = record {
  small = λ a h. absurd (omega arith);
  rising = λ a b p h. absurd (omega arith);
  zeros = λ a h. absurd (omega arith);
  all = λ p h. absurd (omega arith);
}

module _ (v at : List ℕ) (n q : ℕ) (f : ListedZeros v at n q) where
  pub listed_skip : get_or v q 0 ≢ 0 → ListedZeros v at n (q + 1)
  listed_skip ne = record {
    small = λ a h. omega (arith, f.small a h);
    rising = f.rising;
    zeros = f.zeros;
    all = λ p h z. elim (ℕ_discrete p q) [
      | yes e ↦ absurd (ne (ap (λ (x : ℕ). get_or v x 0) (sym e) ∙ z))
      | no e ↦ f.all p (omega arith) z
    ];
  }

  -- another place at the end
  module _ (h : n ≡ length at) (z : get_or v q 0 ≡ 0) where
    new : get_or (at ++ q ∷ []) n 0 ≡ q
    new = ap (λ (x : ℕ). get_or (at ++ q ∷ []) x 0) h ∙ get_or-append_seam at q [] 0

    old : (a : ℕ) → a < n → get_or (at ++ q ∷ []) a 0 ≡ get_or at a 0
    old a lt = get_or-append at (q ∷ []) 0 a (omega arith)

    pub listed_one : ListedZeros v (at ++ q ∷ []) (n + 1) (q + 1)
    listed_one = record {
      small = λ a lt. elim (dec_lt a n) [
        | yes p ↦ omega (arith, old a p, f.small a p)
        | no p ↦ let e : a ≡ n = omega arith in omega (arith, ap (λ (x : ℕ). get_or (at ++ q ∷ []) x 0) e, new)
      ];
      rising = λ a b p lt. elim (dec_lt b n) [
        | yes r ↦ omega (arith, old a (omega arith), old b r, f.rising a b p r)
        | no r ↦ let e : b ≡ n = omega arith in
            omega (
              arith,
              ap (λ (x : ℕ). get_or (at ++ q ∷ []) x 0) e,
              new,
              old a (omega arith),
              f.small a (omega arith),
            )
      ];
      zeros = λ a lt. elim (dec_lt a n) [
        | yes p ↦ ap (λ (x : ℕ). get_or v x 0) (old a p) ∙ f.zeros a p
        | no p ↦ let e : a ≡ n = omega arith in ap (λ (x : ℕ). get_or v x 0)
            (ap (λ (x : ℕ). get_or (at ++ q ∷ []) x 0) e ∙ new) ∙ z
      ];
      all = λ p lt w. elim (ℕ_discrete p q) [
        | yes e ↦ (n, omega arith, new ∙ sym e)
        | no e ↦ let m = f.all p (omega arith) w in (m.0, omega (arith, m.1), old m.0 m.1 ∙ m.2)
      ];
    }

  -- there is room for one more
  pub listed_few : n ≤ 8 → FewZeros v → q < 204 → get_or v q 0 ≡ 0 → n < 8
  listed_few few none hq z = elim (dec_lt n 8) [
    | yes p ↦ p
    | no p ↦ absurd (none place
        (λ a h. elim (ℕ_discrete a 8) [
          | yes e ↦ rw (here a e) hq
          | no e ↦ rw (there a e)
              (omega (arith, f.small a (omega arith)))
        ])
        (λ a b r h. elim (ℕ_discrete b 8) [
          | yes e ↦ rw (here b e, there a (omega arith)) (f.small a (omega arith))
          | no e ↦ rw (there b e, there a (omega arith)) (f.rising a b r (omega arith))
        ])
        (λ a h. elim (ℕ_discrete a 8) [
          | yes e ↦ rw (here a e) z
          | no e ↦ rw (there a e) (f.zeros a (omega arith))
        ]))
  ]
    where
      place : ℕ → ℕ
      place a = cond (eqb a 8) q (get_or at a 0)

      here : (a : ℕ) → a ≡ 8 → place a ≡ q
      here a e = rw (eq-eqb a 8 e)

      there : (a : ℕ) → a ≢ 8 → place a ≡ get_or at a 0
      there a e = rw (ne_eqb a 8 e)

-- the same of lists alone
pub listed_pushed : (v at at' : List ℕ) (q : ℕ) → ListedZeros v at (length at) q → get_or v q 0 ≡ 0
    → at' ≡ at ++ q ∷ [] → ListedZeros v at' (length at') (q + 1)
listed_pushed v at at' q f z e =
    let long : length at + 1 ≡ length (at ++ q ∷ []) = omega (arith, length-append at (q ∷ [])) in
    subst (λ (l : List ℕ). ListedZeros v l (length l) (q + 1)) (sym e)
    (subst (λ (n : ℕ). ListedZeros v (at ++ q ∷ []) n (q + 1)) long (listed_one v at (length at) q f refl z))
