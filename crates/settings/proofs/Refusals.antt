-- The refusals of a call, and what it leaves by its number.
--     passed                 a call that is not refused has passed its first test, and then the others: `first_of` of
--                            a list is `cond` of its tests, one in the other
--     reached, applied       a call that is refused with a number has passed the tests before it, and failed that one
--     number_zero            the number of a call that goes on to its work
--     is_refused, is_done    what a call leaves goes by a test of its number: its outcome, by the number that the
--                            code has
use mathlib.Core.Path.{◌≡◌, refl, sym, ◌∙◌}
use mathlib.Core.Bool.{Bool, true, false, not, cond}
use Prim.Native.Nat.{ℕ, suc}
use native.Mathlib.Omega.{arith}
use lib.Dec.{eqb}
use borrow.Author.Tests.{eq-eqb, ne_eqb}

pub passed : (n : ℕ) (fine : Bool) (rest : ℕ) → cond (not fine) (suc n) rest ≡ 0 → (fine ≡ true) × (rest ≡ 0)
passed n true rest e = (refl, e)
passed n false rest e = absurd (omega arith)

pub reached : (number : ℕ) {n : ℕ} (fine : Bool) (rest : ℕ) → (n ≡ number → ⊥) → cond (not fine) n rest ≡ number
    → (fine ≡ true) × (rest ≡ number)
reached number true rest other e = (refl, e)
reached number false rest other e = absurd (other e)

pub applied : (n : ℕ) (fine : Bool) → cond (not fine) (suc n) 0 ≡ suc n → fine ≡ false
applied n true e = absurd (omega arith)
applied n false e = refl

-- the answer's number is the one that the contract asks for, and the code has it as a byte
module _ {number answer shown : ℕ} (answers : answer ≡ number) (shows : shown ≡ answer) where
  pub number_zero : shown ≡ 0 → number ≡ 0
  number_zero none = sym answers ∙ sym shows ∙ none

  pub is_done : shown ≡ 0 → eqb number 0 ≡ true
  is_done none = eq-eqb number 0 (number_zero none)

  pub is_refused : (shown ≡ 0 → ⊥) → eqb number 0 ≡ false
  is_refused some = ne_eqb number 0 (λ none. some (shows ∙ answers ∙ none))
