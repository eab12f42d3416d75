-- A row of the table from the row behind it.
--     Turn, turn               what a turn of `step` reads
--     turn_even, turn_odd      and what it computes of that, at the registers 2 k and 2 k + 1
--     row_grown                a row grows by 4 at most
--     near_above, near_below   the entries of a row are near its first
use mathlib.Core.Path.{◌≡◌, ap, ◌∙◌}
use mathlib.Core.Bool.{true, false}
use mathlib.Core.List.{List}
use Prim.Native.Nat.{ℕ, ◌+◌, ◌*◌, ◌-◌, ◌/◌, ◌%◌, ◌≤◌, ◌<◌, min}
use native.Mathlib.Omega.{arith}
use lib.ListN.{length, get_or, drop}
use Rattle.fewest.specs.Best.{seven, next, differ}
use Rattle.fewest.proofs.Flips.{there}
use Rattle.best_message.specs.Table.{packed, base}
use Rattle.best_message.specs.Steps.{CostRow, Under, Ready}
use Rattle.best_message.proofs.Spread.{differ_bound, near}
use Rattle.best_message.proofs.Packed.{packed_half, pairs_from}
use Rattle.best_message.proofs.Costs.{zero_cost, one_cost, differ_odd_zero, differ_odd_one}

-- the registers that follow 2 k and 2 k + 1
even_zero : (k : ℕ) → next (2 * k) false ≡ k
even_zero k = unfold next seven in omega arith

even_one : (k : ℕ) → next (2 * k) true ≡ 32 + k
even_one k = unfold next seven in omega arith

odd_zero : (k : ℕ) → next (2 * k + 1) false ≡ k
odd_zero k = unfold next seven in omega arith

odd_one : (k : ℕ) → next (2 * k + 1) true ≡ 32 + k
odd_one k = unfold next seven in omega arith

-- zero and one are of the row behind, cost is of the tables of digits
pub record Turn (pairs : List ℕ) (pair k lowered zero one cost : ℕ) : Type 0 where
  pub right : pair < 9
  pub low : zero + 2 * lowered ≡ packed pairs k
  pub high : one + 2 * lowered ≡ packed pairs (32 + k)
  pub low_fits : zero ≤ 250
  pub high_fits : one ≤ 250
  pub zero_costs : cost ≡ 2 * differ pair (2 * k) false
  pub both_cost : there (pair / 3) + there (pair % 3) ≡ differ pair (2 * k) false + differ pair (2 * k) true
  pub zero_fits : differ pair (2 * k) false ≤ 2
  pub one_fits : differ pair (2 * k) true ≤ 2

module _ (pairs xcosts ycosts : List ℕ) (t : ℕ) (table : List ℕ) (r : Ready pairs xcosts ycosts t table)
    (k : ℕ) (h : k < 32) where
  pub turn : Turn (drop (t + 1) pairs) (get_or pairs t 0) k (base (drop (t + 1) pairs)) (get_or table (64 * t + 64 + k)
      0)
      (get_or table (64 * t + 96 + k) 0)
      (get_or xcosts (32 * (get_or pairs t 0 / 3) + k) 0 + get_or ycosts (32 * (get_or pairs t 0 % 3) + k) 0)
  turn =
      let right : get_or pairs t 0 < 9 = r.right.each t r.inside in
      let low : 64 * t + 64 + k ≡ 64 * (t + 1) + k = omega arith in
      let up : 64 * t + 96 + k ≡ 64 * (t + 1) + (32 + k) = omega arith in
      let on : 64 * t + 96 + k ≡ 64 * t + 64 + (32 + k) = omega arith in
      record {
        right = right;
        low = rw low (r.behind k (omega arith));
        high = rw up (r.behind (32 + k) (omega arith));
        low_fits = r.under k (omega arith);
        high_fits = rw on (r.under (32 + k) (omega arith));
        zero_costs = zero_cost (get_or pairs t 0) k right h xcosts ycosts r.x_costs r.y_costs;
        both_cost = one_cost (get_or pairs t 0) k right h;
        zero_fits = differ_bound (get_or pairs t 0) (2 * k) false;
        one_fits = differ_bound (get_or pairs t 0) (2 * k) true;
      }

  abbrev zero_of : ℕ
  zero_of = get_or table (64 * t + 64 + k) 0 / 2 * 2

  abbrev one_of : ℕ
  one_of = get_or table (64 * t + 96 + k) 0 / 2 * 2 + 1

  abbrev cost_of : ℕ
  cost_of = get_or xcosts (32 * (get_or pairs t 0 / 3) + k) 0 + get_or ycosts (32 * (get_or pairs t 0 % 3) + k) 0

  pub turn_even : (both v : ℕ) → both ≡ 2 * (there (get_or pairs t 0 / 3) + there (get_or pairs t 0 % 3))
      → v ≡ min (cost_of + zero_of) (both - cost_of + one_of)
      → v + 2 * base (drop (t + 1) pairs) ≡ packed (drop t pairs) (2 * k)
  turn_even both v e f =
      unfold packed in let q = turn in
      rw (pairs_from pairs t r.inside, even_zero k, even_one k)
      (omega (
        arith,
        packed_half (drop (t + 1) pairs) k,
        packed_half (drop (t + 1) pairs) (32 + k),
        ap (λ (x : ℕ). x / 2) q.low,
        ap (λ (x : ℕ). x / 2) q.high,
      ))

  pub turn_odd : (both v : ℕ) → both ≡ 2 * (there (get_or pairs t 0 / 3) + there (get_or pairs t 0 % 3))
      → v ≡ min (both - cost_of + zero_of) (cost_of + one_of)
      → v + 2 * base (drop (t + 1) pairs) ≡ packed (drop t pairs) (2 * k + 1)
  turn_odd both v e f =
      unfold packed in let q = turn in
      rw (
        pairs_from pairs t r.inside,
        odd_zero k,
        odd_one k,
        differ_odd_zero k h (get_or pairs t 0),
        differ_odd_one k h (get_or pairs t 0),
      )
      (omega (
        arith,
        packed_half (drop (t + 1) pairs) k,
        packed_half (drop (t + 1) pairs) (32 + k),
        ap (λ (x : ℕ). x / 2) q.low,
        ap (λ (x : ℕ). x / 2) q.high,
      ))

next_lt : (s : ℕ) → s < 64 → next s false < 64
next_lt s h = unfold next seven in omega arith

packed_grown : (pairs : List ℕ) (t s : ℕ) → t < length pairs
    → packed (drop t pairs) s ≤ packed (drop (t + 1) pairs) (next s false) + 4
packed_grown pairs t s h =
    unfold packed in rw (pairs_from pairs t h)
    (omega (arith, differ_bound (get_or pairs t 0) s false, packed_half (drop (t + 1) pairs) (next s false)))

pub row_grown : (pairs before table : List ℕ) (t lowered limit : ℕ) → t < length pairs
    → CostRow pairs (t + 1) lowered before
    → CostRow pairs t lowered table → Under before (64 * t + 64) limit → Under table (64 * t) (limit + 4)
row_grown pairs before table t lowered limit h behind row under s hs =
    let lt = next_lt s hs in
    let e : 64 * (t + 1) + next s false ≡ 64 * t + 64 + next s false = omega arith in
    omega (arith, row s hs, rw e at (behind (next s false) lt), under (next s false) lt, packed_grown pairs t s h)

module _ (pairs : List ℕ) (t : ℕ) (table : List ℕ) (lowered : ℕ) (row : CostRow pairs t lowered table)
    (s : ℕ) (h : s < 64) where
  first : get_or table (64 * t) 0 + 2 * lowered ≡ packed (drop t pairs) 0
  first = ap (λ (i : ℕ). get_or table i 0 + 2 * lowered) (omega arith) ∙ row 0 (omega arith)

  pub near_above : get_or table (64 * t) 0 / 2 * 2 ≤ get_or table (64 * t + s) 0 + 24
  near_above =
      omega (
        arith,
        first,
        row s h,
        packed_half (drop t pairs) 0,
        packed_half (drop t pairs) s,
        near (drop t pairs) 0 s (omega arith) h,
      )

  pub near_below : get_or table (64 * t + s) 0 ≤ get_or table (64 * t) 0 / 2 * 2 + 25
  near_below =
      omega (
        arith,
        first,
        row s h,
        packed_half (drop t pairs) 0,
        packed_half (drop t pairs) s,
        near (drop t pairs) s 0 h (omega arith),
      )
