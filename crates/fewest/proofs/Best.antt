-- The recursion `best` satisfies the relation `Best`, and no other message does.
--     le_or_lt                 of two numbers
--     via                      the fewest disagreements by way of a bit
--     best_zero, best_one      the better bit is put in front
--     which                    which bit is better
--     best_cost                the best message has the fewest disagreements
--     best_is_best             the recursion finds a best message
--     best_unique              any two best messages are equal
use mathlib.Core.Path.{◌≡◌, refl, sym, ap, ◌∙◌}
use mathlib.Core.Bool.{Bool, true, false}
use mathlib.Core.Logic.{◌⊎◌, inl, inr, ⊎_elim}
use mathlib.Core.List.{List, [], ◌∷◌}
use Prim.Native.Nat.{ℕ, zero, suc, ◌+◌, ◌≤◌, ◌<◌, zero-le, suc-le-suc}
use native.Mathlib.Omega.{arith}
use lib.ListN.{length}
use borrow.Author.Tests.{le-leb, lt-leb}
use Rattle.fewest.specs.Best.{next, differ, cost, ZeroFirst, Best, least, best}

pub le_or_lt : (a b : ℕ) → (a ≤ b) ⊎ (b < a)
le_or_lt zero b = inl zero-le
le_or_lt (suc a) zero = inr (suc-le-suc zero-le)
le_or_lt (suc a) (suc b) = ⊎_elim (λ p. inl (suc-le-suc p)) (λ q. inr (suc-le-suc q)) (le_or_lt a b)

abbrev pub via : ℕ → List ℕ → ℕ → Bool → ℕ
via pair pairs register b = differ pair register b + least pairs (next register b)

module _ (pair : ℕ) (pairs : List ℕ) (register : ℕ) where
  pub best_zero : via pair pairs register false ≤ via pair pairs register true
      → best (pair ∷ pairs) register ≡ false ∷ best pairs (next register false)
  best_zero h = unfold best in rw (le-leb (via pair pairs register false) (via pair pairs register true) h)

  pub best_one : via pair pairs register true < via pair pairs register false
      → best (pair ∷ pairs) register ≡ true ∷ best pairs (next register true)
  best_one h = unfold best in rw (lt-leb (via pair pairs register false) (via pair pairs register true) h)

  pub which : (via pair pairs register false ≤ via pair pairs register true)
      ⊎ (via pair pairs register true < via pair pairs register false)
  which = le_or_lt (via pair pairs register false) (via pair pairs register true)

best_long : (pairs : List ℕ) (register : ℕ) → length (best pairs register) ≡ length pairs
unfolding best
best_long [] register = refl
best_long (pair ∷ pairs) register =
    ⊎_elim (λ h. rw (best_zero pair pairs register h) (ap suc (best_long pairs (next register false))))
    (λ h. rw (best_one pair pairs register h) (ap suc (best_long pairs (next register true))))
    (which pair pairs register)

pub best_cost : (pairs : List ℕ) (register : ℕ) → cost pairs register (best pairs register) ≡ least pairs register
unfolding cost least
best_cost [] register = refl
best_cost (pair ∷ pairs) register =
    ⊎_elim (λ h. rw (best_zero pair pairs register h) (omega (arith, best_cost pairs (next register false))))
    (λ h. rw (best_one pair pairs register h) (omega (arith, best_cost pairs (next register true))))
    (which pair pairs register)

least_lower : (pairs : List ℕ) (register : ℕ) (message : List Bool) → length message ≡ length pairs
    → least pairs register ≤ cost pairs register message
unfolding cost least
least_lower [] register message e = zero-le
least_lower (pair ∷ pairs) register [] e = absurd (omega arith)
least_lower (pair ∷ pairs) register (false ∷ message) e =
    omega (arith, least_lower pairs (next register false) message (omega arith))
least_lower (pair ∷ pairs) register (true ∷ message) e =
    omega (arith, least_lower pairs (next register true) message (omega arith))

best_first : (pairs : List ℕ) (register : ℕ) (message : List Bool) → length message ≡ length pairs
    → cost pairs register message ≡ least pairs register → ZeroFirst (best pairs register) message
unfolding cost least best
best_first [] register message e f = tt
best_first (pair ∷ pairs) register [] e f = absurd (omega arith)
best_first (pair ∷ pairs) register (false ∷ message) e f =
    ⊎_elim (λ h. rw (best_zero pair pairs register h)
    (best_first pairs (next register false) message (omega arith) (omega arith)))
    (λ h. absurd (omega (arith, least_lower pairs (next register false) message (omega arith))))
    (which pair pairs register)
best_first (pair ∷ pairs) register (true ∷ message) e f =
    ⊎_elim (λ h. rw (best_zero pair pairs register h) tt) (λ h. rw (best_one pair pairs register h)
    (best_first pairs (next register true) message (omega arith) (omega arith))) (which pair pairs register)

pub best_is_best : (pairs : List ℕ) (register : ℕ) → Best pairs register (best pairs register)
best_is_best pairs register =
    record {
      long = best_long pairs register;
      fewest = λ other e. rw (best_cost pairs register) (least_lower pairs register other e);
      first = λ other e f. best_first pairs register other e (f ∙ best_cost pairs register);
    }

-- two messages of one length, each before the other, are one
before_both : (message other : List Bool) → length message ≡ length other → ZeroFirst message other
    → ZeroFirst other message → message ≡ other
before_both [] [] e p q = refl
before_both [] (b ∷ other) e p q = absurd q
before_both (a ∷ message) [] e p q = absurd p
before_both (false ∷ message) (false ∷ other) e p q = ap (◌∷◌ false) (before_both message other (omega arith) p q)
before_both (false ∷ message) (true ∷ other) e p q = absurd q
before_both (true ∷ message) (false ∷ other) e p q = absurd p
before_both (true ∷ message) (true ∷ other) e p q = ap (◌∷◌ true) (before_both message other (omega arith) p q)

pub best_unique : (pairs : List ℕ) (register : ℕ) (message other : List Bool) → Best pairs register message
    → Best pairs register other → message ≡ other
best_unique pairs register message other p q =
    before_both message other (p.long ∙ sym q.long) (p.first other q.long same)
    (q.first message p.long (sym same))
  where
    same : cost pairs register other ≡ cost pairs register message
    same = omega (arith, p.fewest other q.long, q.fewest message p.long)
