-- A message as a front and what comes behind it.
--     after_lt               the register after a front
--     cost_front             the disagreements of a front, and of what comes behind it
--     cost_take              a front has no more of them than the whole
--     BestFront, best_front  behind its front, the best message is the best from the register there
--     whole_behind           a word as it was sent, from a bit on
use mathlib.Core.Path.{◌≡◌, refl, sym, ap, ◌∙◌}
use mathlib.Core.Bool.{Bool, true, false}
use mathlib.Core.Logic.{⊎_elim}
use mathlib.Core.List.{List, [], ◌∷◌, ◌++◌}
use Prim.Native.Nat.{ℕ, zero, suc, ◌+◌, ◌<◌, ◌≤◌, zero-le}
use native.Mathlib.Omega.{arith}
use lib.ListN.{length, take, drop, length-drop}
use lib.Seq.{get_or-drop}
use Rattle.settings.specs.Patterns.{Kept}
use Rattle.rules.specs.Code.{coded_x, coded_y, parity, register_after}
use Rattle.rules.proofs.CodeWindows.{window_from}
use Rattle.fewest.specs.Best.{next, cost, best}
use Rattle.fewest.proofs.Best.{best_zero, best_one, which}
use Rattle.fewest.proofs.Join.{after, next_lt}
use Rattle.fewest.proofs.Exact.{pair_sent, Whole}

pub after_lt : (front : List Bool) (register : ℕ) → register < 64 → after register front < 64
unfolding after
after_lt [] register h = h
after_lt (b ∷ front) register h = after_lt front (next register b) (next_lt register b h)

pub cost_front : (front rest : List Bool) (pairs : List ℕ) (register : ℕ) → length front ≤ length pairs
    → cost pairs register (front ++ rest)
    ≡ cost pairs register front + cost (drop (length front) pairs) (after register front) rest
unfolding cost after
cost_front [] rest [] register le = refl
cost_front [] rest (pair ∷ pairs) register le = omega arith
cost_front (b ∷ front) rest [] register le = absurd (omega arith)
cost_front (b ∷ front) rest (pair ∷ pairs) register le =
    omega (arith, cost_front front rest pairs (next register b) (omega arith))

pub cost_take : (n : ℕ) (message : List Bool) (pairs : List ℕ) (register : ℕ)
    → cost pairs register (take n message) ≤ cost pairs register message
unfolding cost
cost_take n message [] register = zero-le
cost_take zero message (pair ∷ pairs) register = zero-le
cost_take (suc n) [] (pair ∷ pairs) register = zero-le
cost_take (suc n) (b ∷ message) (pair ∷ pairs) register =
    omega (arith, cost_take n message pairs (next register b))

pub record BestFront (n : ℕ) (pairs : List ℕ) (register : ℕ) : Type 0 where
  pub front : List Bool
  pub long : length front ≡ n
  pub is : best pairs register ≡ front ++ best (drop n pairs) (after register front)

pub best_front : (n : ℕ) (pairs : List ℕ) (register : ℕ) → n ≤ length pairs → BestFront n pairs register
unfolding after
best_front zero pairs register le = record { front = []; long = refl; is = refl }
best_front (suc n) [] register le = absurd (omega arith)
best_front (suc n) (pair ∷ pairs) register le =
    ⊎_elim (λ h. more false (best_zero pair pairs register h) (best_front n pairs (next register false) (omega arith)))
    (λ h. more true (best_one pair pairs register h) (best_front n pairs (next register true) (omega arith)))
    (which pair pairs register)
  where
    more : (b : Bool) → best (pair ∷ pairs) register ≡ b ∷ best pairs (next register b)
        → BestFront n pairs (next register b) → BestFront (suc n) (pair ∷ pairs) register
    more b e rest =
        record { front = b ∷ rest.front; long = ap suc rest.long; is = e ∙ ap (◌∷◌ b) rest.is }

pub whole_behind : (n : ℕ) (kept : ℕ → Kept) (pairs : List ℕ) (register : ℕ) (message : ℕ → ℕ)
    → Whole kept pairs register message → n ≤ length pairs
    → Whole (λ i. kept (n + i)) (drop n pairs) (register_after register message n) (λ i. message (n + i))
whole_behind n kept pairs register message whole le i lt =
    unfold coded_x coded_y in get_or-drop n pairs i 0 ∙ whole (n + i) (omega (arith, length-drop n pairs))
    ∙ ap (λ (w : ℕ). pair_sent (kept (n + i)) (parity 0o171 w) (parity 0o133 w))
    (sym (window_from register message n i))
