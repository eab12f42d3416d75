-- The bits of all carriers together, and the test of these.
--     Gathered, gathered_none, gathered_more,
--     gathered_all                               the bits of the carriers so far, together
--     range_tested                               they are below 2^v where each carrier is
--     limit_is                                   2^v as a byte
--     none_large                                 where v is 8 or more
use mathlib.Core.Path.{◌≡◌, refl, sym, ap, ◌∙◌, subst}
use mathlib.Core.Bool.{Bool, true, false, not}
use mathlib.Core.List.{List}
use Prim.Native.Nat.{ℕ, ◌+◌, ◌*◌, ◌%◌, ◌^◌, ◌<◌, ◌≤◌}
use native.Mathlib.Decide.{ℕ_discrete, dec_lt}
use native.Mathlib.Omega.{arith}
use lib.Bits.{bit_or, or_lt, or_add_and, and_le_l, and_le_r}
use lib.Dec.{ltb, leb, eqb, eqb→eq}
use lib.Pow.{pow_mono}
use lib.ListN.{length, get_or}
use borrow.Author.Tests.{lt-ltb, ltb-true, lt-leb, le-leb}
use Rattle.lists.proofs.AllBelows.{all_yes, all_at}
use Rattle.lists.proofs.Every.{at}
use Rattle.rules.specs.Bits.{carriers_in_range}

-- both numbers are at most their bits together
or_left : (a b : ℕ) → a ≤ bit_or a b
or_left a b = omega (arith, or_add_and a b, and_le_r a b)

or_right : (a b : ℕ) → b ≤ bit_or a b
or_right a b = omega (arith, or_add_and a b, and_le_l a b)

-- the bits of the first n carriers together
pub record Gathered (v : ℕ) (carriers : List ℕ) (n all : ℕ) : Type 0 where
  pub small : ((k : ℕ) → k < n → get_or carriers k 0 < 2 ^ v) → all < 2 ^ v
  pub each : all < 2 ^ v → (k : ℕ) → k < n → get_or carriers k 0 < 2 ^ v

pub gathered_none : (v : ℕ) (carriers : List ℕ) → Gathered v carriers 0 0
gathered_none v carriers =
    record {
      small = λ all. let one : 2 ^ 0 ≤ 2 ^ v = pow_mono {i = 0} (omega arith) in omega arith;
      each = λ less k lt. absurd (omega arith);
    }

pub gathered_more : (v : ℕ) (carriers : List ℕ) (n all : ℕ) → Gathered v carriers n all
    → Gathered v carriers (n + 1) (bit_or all (get_or carriers n 0))
gathered_more v carriers n all at =
    record {
      small = λ few. or_lt v all (get_or carriers n 0) (at.small (λ k lt. few k (omega arith))) (few n (omega arith));
      each = λ less k lt. elim (ℕ_discrete k n) [
        | yes e ↦ rw e (let right = or_right all (get_or carriers n 0) in omega arith)
        | no ne ↦ (let left = or_left all (get_or carriers n 0) in at.each (omega arith) k (omega arith))
      ];
    }

-- the same count, said otherwise
pub gathered_all : (v : ℕ) (carriers : List ℕ) {n : ℕ} (all : ℕ) → Gathered v carriers n all → (m : ℕ) → n ≡ m
    → Gathered v carriers m all
gathered_all v carriers {n} all at m e = subst (λ (k : ℕ). Gathered v carriers k all) e at

-- what is not true is false
not_so : (b : Bool) → (b ≡ true → ⊥) → b ≡ false
not_so true wrong = absurd (wrong refl)
not_so false wrong = refl

pub range_tested : (v : ℕ) (carriers : List ℕ) (all : ℕ) → Gathered v carriers (length carriers) all
    → leb (2 ^ v) all ≡ not (carriers_in_range v carriers)
unfolding carriers_in_range
range_tested v carriers all at = elim (dec_lt all (2 ^ v)) [
  | yes h ↦
      lt-leb (2 ^ v) all h
      ∙ sym (ap not (all_yes (length carriers) below (λ k lt. lt-ltb _ (2 ^ v) (at.each h k lt))))
  | no h ↦
      le-leb (2 ^ v) all (omega arith) ∙ sym (ap not
      (not_so _ (λ e. h (at.small (λ k lt. ltb-true _ (2 ^ v) (all_at (length carriers) below e k lt))))))
]
  where
    below : ℕ → Bool
    below k = ltb (get_or carriers k 0) (2 ^ v)

-- 2^v fits into a byte
pub limit_is : (v : ℕ) → v ≤ 7 → 1 * 2 ^ v % 256 ≡ 2 ^ v
limit_is v few = eqb→eq _ _ (at (λ (n : ℕ). eqb (1 * 2 ^ n % 256) (2 ^ n)) 8 tt v (omega arith))

-- where v is 8 or more no byte is too large
pub none_large : (v : ℕ) (carriers : List ℕ) (all : ℕ) → 7 < v → all < 256 → Gathered v carriers (length carriers) all
    → false ≡ not (carriers_in_range v carriers)
none_large v carriers all many byte gathered =
    let most : 2 ^ 8 ≤ 2 ^ v = pow_mono {i = 8} (omega arith) in
    sym (lt-leb (2 ^ v) all (omega arith)) ∙ range_tested v carriers all gathered
