-- A part of a list is written.
--     put_none, put_more, put_all     by a loop, from its front: before the first store, after one, and at the end
--     put_part                        by a copy of a whole list
use mathlib.Core.Path.{◌≡◌, refl, ◌∙◌, subst}
use mathlib.Core.List.{List, ◌++◌}
use Prim.Native.Nat.{ℕ, ◌+◌, ◌<◌, ◌≤◌}
use native.Mathlib.Omega.{arith}
use native.Mathlib.Decide.{ℕ_discrete}
use lib.ListN.{length, get_or, take, drop, set, length-set}
use Rattle.std.proofs.lemmas.List.{places, get_or_past}
use lib.Seq.{get_or-set_same, get_or-set_other}
use Rattle.remainder.specs.Steps.{Put}

module _ (at : ℕ) (rule : ℕ → ℕ) (old : List ℕ) where
  pub put_none : Put at 0 rule old old
  put_none = record { len = refl; done = λ k lt. absurd (omega arith); before = λ i lt. refl; behind = λ i le. refl }

  pub put_more : {k : ℕ} {new : List ℕ} → Put at k rule old new → at + k < length old → (v : ℕ) → v ≡ rule k
      → Put at (k + 1) rule old (set new (at + k) v)
  put_more {k} {new} p h v e = record {
    len = length-set new (at + k) v ∙ p.len;
    done = λ n lt. elim (ℕ_discrete n k) [
      | yes q ↦ rw q (get_or-set_same new (at + k) v 0 (omega (arith, p.len)) ∙ e)
      | no q ↦ get_or-set_other new (at + k) (at + n) v 0 (omega arith) ∙ p.done n (omega arith)
    ];
    before = λ i lt. get_or-set_other new (at + k) i v 0 (omega arith) ∙ p.before i lt;
    behind = λ i le. get_or-set_other new (at + k) i v 0 (omega arith) ∙ p.behind i (omega arith);
  }

  pub put_all : {k : ℕ} {new : List ℕ} → Put at k rule old new → (n : ℕ) → k ≡ n → Put at n rule old new
  put_all {k} {new} p n e = subst (λ (m : ℕ). Put at m rule old new) e p

module _ (at count : ℕ) (old bytes : List ℕ) (room : at + count ≤ length old) (long : length bytes ≡ count) where
  abbrev new : List ℕ
  new = take at old ++ (bytes ++ drop count (drop at old))

  length_new : length new ≡ length old
  length_new = grind (arith, places)

  done_new : (k : ℕ) → k < count → get_or new (at + k) 0 ≡ get_or bytes k 0
  done_new k lt = grind (arith, places)

  before_new : (i : ℕ) → i < at → get_or new i 0 ≡ get_or old i 0
  before_new i lt = grind (arith, places)

  behind_new : (i : ℕ) → at + count ≤ i → get_or new i 0 ≡ get_or old i 0
  behind_new i le = grind (arith, places, get_or_past)

  pub put_part : Put at count (λ k. get_or bytes k 0) old new
  put_part = record { len = length_new; done = done_new; before = before_new; behind = behind_new }
