-- A row that is left as it is, and a row less what its entries can spare; the rows of a table, one more at a time.
--     left, low_already, less_all     the three ways of `lower`
--     base_more                       the base of a row, by what is taken off it
--     rows_last, rows_more            the row behind the last pair; a row more, made by `step` and lowered
use mathlib.Core.Path.{◌≡◌, refl, ap, ◌∙◌}
use mathlib.Core.Logic.{⊎_elim}
use mathlib.Core.List.{List}
use Prim.Native.Nat.{ℕ, suc, ◌+◌, ◌*◌, ◌-◌, ◌/◌, ◌%◌, ◌≤◌, ◌<◌}
use native.Mathlib.Omega.{arith}
use lib.ListN.{length, get_or, drop, length-drop}
use lib.Seq.{drop-length}
use borrow.Author.Tests.{eq-eqb, ne_eqb}
use Rattle.fewest.specs.Best.{least}
use Rattle.best_message.specs.Table.{packed, base}
use Rattle.best_message.specs.Steps.{CostRow, CostsStepped, spare, Lowering, Lowered, Cleared}
use Rattle.fewest.proofs.Best.{le_or_lt}
use Rattle.best_message.proofs.Packed.{packed_half, pairs_from}

spare_none : (table : List ℕ) (at since : ℕ) → since < 32 → spare table at since ≡ 0
spare_none table at since h = unfold spare in rw (ne_eqb since 32 (omega arith)) refl

spare_some : (table : List ℕ) (at since : ℕ) → since ≡ 32 → spare table at since ≡ get_or table at 0 / 2 - 12
spare_some table at since e = unfold spare in rw (eq-eqb since 32 e) refl

pub left : (table : List ℕ) (at since : ℕ) → Lowering table at since → since < 32 → Lowered table at since since table
left table at since r h =
    record {
      count = omega arith;
      long = refl;
      less = λ s g. omega (arith, spare_none table at since h);
      under = r.under;
      kept = λ i g. refl;
    }

pub low_already : (table : List ℕ) (at since : ℕ) → Lowering table at since → 32 ≤ since
    → get_or table at 0 / 2 * 2 ≤ 24
    → Lowered table at since 0 table
low_already table at since r h low =
    let e : since ≡ 32 = let soon = r.soon in omega arith in
    record {
      count = omega arith;
      long = refl;
      less = λ s g. omega (arith, spare_some table at since e);
      under = λ s g. omega (arith, r.below s g);
      kept = λ i g. refl;
    }

pub less_all : (before : List ℕ) (at since : ℕ) (table : List ℕ) → Lowering before at since → 32 ≤ since
    → 24 < get_or before at 0 / 2 * 2 → length table ≡ length before
    → ((s : ℕ) → s < 64 → get_or table (at + s) 0 ≡ get_or before (at + s) 0 - (get_or before at 0 / 2 * 2 - 24))
    → ((i : ℕ) → at + 64 ≤ i → get_or table i 0 ≡ get_or before i 0) → Lowered before at since 0 table
less_all before at since table r h high long f kept =
    let e : since ≡ 32 = let soon = r.soon in omega arith in
    record {
      count = omega arith;
      long = long;
      less = λ s g. omega (arith, f s g, r.above s g, spare_some before at since e);
      under = λ s g. omega (arith, f s g, r.below s g);
      kept = kept;
    }

-- ---- the base

module _ (pairs table : List ℕ) (t since : ℕ) (inside : t < length pairs)
    (row : CostRow pairs t (base (drop (t + 1) pairs)) table) where
  first : get_or table (64 * t) 0 / 2 ≡ least (drop t pairs) 0 - base (drop (t + 1) pairs)
  first =
      let e : get_or table (64 * t) 0 + 2 * base (drop (t + 1) pairs) ≡ packed (drop t pairs) 0 =
      ap (λ (i : ℕ). get_or table i 0 + 2 * base (drop (t + 1) pairs)) (omega arith) ∙ row 0 (omega arith)
      in
      omega (arith, packed_half (drop t pairs) 0)

  long : suc (length (drop (t + 1) pairs)) ≡ length pairs - t
  long = rw length-drop (omega arith)

  pub base_more : since ≡ (length pairs - (t + 1)) % 32
      → base (drop t pairs) ≡ base (drop (t + 1) pairs) + spare table (64 * t) (since + 1)
  base_more e =
      unfold base in ⊎_elim (λ (h : 31 ≤ since).
      rw (
        spare_some table (64 * t) (since + 1) (omega arith),
        first,
        pairs_from pairs t inside,
        eq-eqb (suc (length (drop (t + 1) pairs)) % 32) 0 (omega (arith, long)),
      ) refl) (λ (h : since < 31).
      rw (
        spare_none table (64 * t) (since + 1) (omega arith),
        pairs_from pairs t inside,
        ne_eqb (suc (length (drop (t + 1) pairs)) % 32) 0 (omega (arith, long)),
      ) refl) (le_or_lt 31 since)

-- ---- the rows of a table

pub rows_last : (pairs before table : List ℕ) → Cleared before (64 * length pairs) table → (u : ℕ) → length pairs ≤ u
    → u ≤ length pairs → CostRow pairs u (base (drop u pairs)) table
unfolding packed base
rows_last pairs before table c u h g s hs =
    rw (let e : u ≡ length pairs = omega arith in e, drop-length pairs) (omega (arith, c.zero s hs))

-- from the row t on, after `step` and `lower` made it of the table whose rows from t + 1 on are right
module _ (pairs before mid table : List ℕ) (t since since_then : ℕ) (inside : t < length pairs)
    (r : CostsStepped pairs t before mid)
    (l : Lowered mid (64 * t) (since + 1) since_then table) (count : since ≡ (length pairs - (t + 1)) % 32) where
  same : (i : ℕ) → 64 * t + 64 ≤ i → get_or table i 0 ≡ get_or before i 0
  same i h = l.kept i h ∙ r.kept i h

  new_row : CostRow pairs t (base (drop t pairs)) table
  new_row s hs = omega (arith, l.less s hs, r.row s hs, base_more pairs mid t since inside r.row count)

  pub rows_more : ((u : ℕ) → t + 1 ≤ u → u ≤ length pairs → CostRow pairs u (base (drop u pairs)) before)
      → (u : ℕ) → t ≤ u → u ≤ length pairs → CostRow pairs u (base (drop u pairs)) table
  rows_more f u h g =
      ⊎_elim
      (λ (q : t + 1 ≤ u). λ s hs. ap (λ (x : ℕ). x + 2 * base (drop u pairs)) (same (64 * u + s) (omega arith))
      ∙ f u q g s hs) (λ (q : u < t + 1). rw (let e : u ≡ t = omega arith in e) new_row) (le_or_lt (t + 1) u)

  pub count_more : since_then ≡ (length pairs - t) % 32
  count_more = omega (arith, l.count)
