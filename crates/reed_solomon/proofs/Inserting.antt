-- The turns of `insert`'s loop, as laws of lists.
use mathlib.Core.Path.{◌≡◌, refl, sym, ap, ◌∙◌, subst}
use Rattle.std.specs.Prelude.{Option, Some, None}
use mathlib.Core.List.{List, [], ◌∷◌}
use Prim.Native.Nat.{ℕ, zero, suc, ◌+◌, ◌≤◌, ◌<◌}
use native.Mathlib.Decide.{ℕ_discrete}
use native.Mathlib.Omega.{arith}
use lib.ListN.{length, get_or, set, replicate, get_or-replicate}
use lib.Seq.{get_or-set_same, get_or-set_other}
use Rattle.field.specs.Field.{◌⊕◌, ◌⊗◌}
use Rattle.reed_solomon.specs.Rows.{Monic, Pivot, Basis, held, Joined, Vanished}
use Rattle.reed_solomon.proofs.RowLaws.{reduced_monic, reduced_zeros, scaled_pivot, kept_pivot}

-- row is what row₀ was reduced to: still monic, and with no image before c
pub record Reduced (row₀ : List ℕ) (basis : List (Option (List ℕ))) (c : ℕ) (row : List ℕ) : Type 0 where
  pub to : (s : ℕ → ℕ) (i : ℕ) → i < 9 → Basis s i basis → Monic s i (λ n. get_or row₀ n 0)
      → Monic s i (λ n. get_or row n 0) × ((b : ℕ) → b < c → get_or row b 0 ≡ 0)

pub reduced_none : (row : List ℕ) (basis : List (Option (List ℕ))) → Reduced row basis 0 row
reduced_none row basis = record { to = λ s i b bs mo. (mo, λ k h. absurd (omega arith)) }

pub reduced_all : (row₀ : List ℕ) (basis : List (Option (List ℕ))) (c : ℕ) (row : List ℕ) → c ≡ 8
    → Reduced row₀ basis c row → Vanished row₀ basis row
reduced_all row₀ basis c row e r = record { to = λ s i b bs mo. rw e at (r.to s i b bs mo) }

-- an empty basis
pub basis_none : (s : ℕ → ℕ) (i : ℕ) → Basis s i (replicate 8 None)
basis_none s i c h μ e =
    let row : Option (List ℕ) = get_or (replicate 8 None) c None in
    let none : row ≡ None = get_or-replicate 8 c None None h in
    absurd (differ row μ none e)
  where
    differ : (row : Option (List ℕ)) (μ : List ℕ) → row ≡ None → row ≡ Some μ → ⊥
    differ row μ e f = cc

pub held_set : (basis : List (Option (List ℕ))) (c : ℕ) (μ : List ℕ) → c < length basis → get_or basis c None ≡ None
    → held (set basis c (Some μ)) ≡ suc (held basis)
unfolding held
held_set [] c μ h e = absurd (omega arith)
held_set (None ∷ basis) zero μ h e = refl
held_set (Some ν ∷ basis) zero μ h e = cc
held_set (None ∷ basis) (suc c) μ h e = held_set basis c μ (omega arith) e
held_set (Some ν ∷ basis) (suc c) μ h e = ap suc (held_set basis c μ (omega arith) e)

pub held_le : (basis : List (Option (List ℕ))) → held basis ≤ length basis
unfolding held
held_le [] = omega arith
held_le (None ∷ basis) = omega (arith, held_le basis)
held_le (Some μ ∷ basis) = omega (arith, held_le basis)

module _ (row₀ : List ℕ) (basis : List (Option (List ℕ))) (c : ℕ) (row : List ℕ) (hc : c < 8)
    (r : Reduced row₀ basis c row) where
  -- an image that is 0 is passed over
  pub reduced_skip : get_or row c 0 ≡ 0 → Reduced row₀ basis (c + 1) row
  reduced_skip e = record {
    to = λ s i b bs mo. (
      (r.to s i b bs mo).0,
      λ k h. elim
          (ℕ_discrete k c) [
            | yes p ↦ ap (λ (n : ℕ). get_or row n 0) p
                ∙ e
            | no p ↦ (r.to s i b bs mo).1 k (omega arith)
          ],
    );
  }

  -- one that a row of the basis can take away
  pub reduced_more : (row' pivot : List ℕ) → get_or row c 0 < 256 → get_or basis c None ≡ Some pivot
      → ((n : ℕ) → n < 17 → get_or row' n 0 ≡ get_or row n 0 ⊕ get_or row c 0 ⊗ get_or pivot n 0)
      → Reduced row₀ basis (c + 1) row'
  reduced_more row' pivot h u e = record {
    to = λ s i b bs mo.
        let p : Pivot s i c (λ n. get_or pivot n 0) = bs c hc pivot u in (
          reduced_monic s i c (λ n. get_or row n 0) (λ n. get_or pivot n 0) (λ n. get_or row' n 0) b e
              (r.to s i b bs mo).0 p,
          reduced_zeros c (λ n. get_or row n 0) (λ n. get_or pivot n 0) (λ n. get_or row' n 0) h e p.one p.before
              (r.to s i b bs mo).1 hc,
        );
  }

  -- one at which there is no row yet
  pub joined : (scaled : List ℕ) (f : ℕ) → length basis ≡ 8 → get_or basis c None ≡ None → get_or row c 0 ⊗ f ≡ 1
      → ((n : ℕ) → n < 17 → get_or scaled n 0 ≡ f ⊗ get_or row n 0) → Joined row₀ basis (set basis c (Some scaled))
  joined scaled f lb u one st = record {
    grown = held_set basis c scaled (omega arith) u;
    pivots = λ s i b bs mo d hd μ v. elim (ℕ_discrete d c) [
      | yes p ↦ subst (λ (x : ℕ). Pivot s (suc i) x (λ n. get_or μ n 0)) (sym p)
          (scaled_pivot s i c f (λ n. get_or row n 0) (λ n. get_or μ n 0) hc
          (λ n k. ap (λ (l : List ℕ). get_or l n 0) (same d μ p v) ∙ st n k) one (r.to s i b bs mo).1
          (r.to s i b bs mo).0)
      | no p ↦ kept_pivot s i d (λ n. get_or μ n 0) (λ n. get_or μ n 0) hd (λ n k. refl)
          (bs d hd μ (sym (get_or-set_other basis c d (Some scaled) None p) ∙ v))
    ];
  }
    where
      same : (d : ℕ) (μ : List ℕ) → d ≡ c → get_or (set basis c (Some scaled)) d None ≡ Some μ → μ ≡ scaled
      same d μ p v =
          let e : get_or (set basis c (Some scaled)) c None ≡ Some scaled =
          get_or-set_same basis c (Some scaled) None (omega arith) in
          let v' : get_or (set basis c (Some scaled)) c None ≡ Some μ = rw p at v in
          cc
