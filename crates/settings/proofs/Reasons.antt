-- A number is given for the first reason that applies.
--     Tests, tested          a test that passes exactly where what is asked for holds; one of a list of them
--     equal, below, both     tests that two numbers are equal, that one is below another; two tests in one
--     every                  a test at every number below one
--     start_answers          of a start
use mathlib.Core.Path.{◌≡◌, refl, ap₂}
use mathlib.Core.Bool.{Bool, true, false, not, cond, ◌&&◌, ◌||◌, false≢true}
use mathlib.Core.Logic.{◌⊎◌, inl, inr, ⊎_elim}
use mathlib.Core.List.{List, ◌∷◌}
use Prim.Native.Nat.{ℕ, ◌≤◌, ◌<◌}
use lib.Dec.{eqb, ltb}
use borrow.Author.Tests.{eq-eqb, eqb-true, le-leb, leb-true, lt-ltb, ltb-true}
use Rattle.lists.specs.Tests.{between, all_below}
use Rattle.lists.proofs.Bools.{and_both}
use Rattle.lists.proofs.AllBelows.{all_yes, all_at}
use Rattle.settings.specs.declared.Settings.{Settings}
use Rattle.settings.specs.Legal.{starting}
use Rattle.settings.specs.Reasons.{Reason, ◌unless◌, GivenFirst, none_applies, applies, passes, start_reasons}

-- a test that passes exactly where what is asked for holds
pub record Tests (fine : Bool) (asked : Type 0) : Type 0 where
  pub holds : fine ≡ true → asked
  pub passing : asked → fine ≡ true

first_or_rest : (fine : Bool) (asked : Type 0) (n : ℕ) (rest : List {1} Reason) (m : ℕ) → Tests fine asked
    → GivenFirst rest m → GivenFirst ((n unless asked) ∷ rest) (cond (not fine) n m)
first_or_rest true asked n rest m test more = passes n asked rest m (test.holds refl) more
first_or_rest false asked n rest m test more = applies n asked rest (λ holds. false≢true (test.passing holds))

pub tested : {fine : Bool} {asked : Type 0} (n : ℕ) {rest : List {1} Reason} {m : ℕ} → Tests fine asked
    → GivenFirst rest m → GivenFirst ((n unless asked) ∷ rest) (cond (not fine) n m)
tested {fine} {asked} n {rest} {m} test more = first_or_rest fine asked n rest m test more

pub equal : (a b : ℕ) → Tests (eqb a b) (a ≡ b)
equal a b = record { holds = eqb-true a b; passing = eq-eqb a b }

pub below : (a b : ℕ) → Tests (ltb a b) (a < b)
below a b = record { holds = ltb-true a b; passing = lt-ltb a b }

pub both : {one two : Bool} {first second : Type 0} → Tests one first → Tests two second
    → Tests (one && two) (first × second)
both {one} {two} f g = record {
  holds = λ e. let parts = and_both one two e in (f.holds parts.0, g.holds parts.1);
  passing = λ h. ap₂ (λ (x y : Bool). x && y) (f.passing h.0) (g.passing h.1);
}

one_of : (one two : Bool) (first second : Type 0) → Tests one first → Tests two second
    → Tests (one || two) (first ⊎ second)
one_of true two first second f g = record { holds = λ e. inl (f.holds refl); passing = λ h. refl }
one_of false two first second f g = record {
  holds = λ e. inr (g.holds e);
  passing = λ h. ⊎_elim (λ p. absurd (false≢true (f.passing p))) g.passing h;
}

either : {one two : Bool} {first second : Type 0} → Tests one first → Tests two second
    → Tests (one || two) (first ⊎ second)
either {one} {two} {first} {second} f g = one_of one two first second f g

pub every : (n : ℕ) {test : ℕ → Bool} {asked : ℕ → Type 0} → ((k : ℕ) → Tests (test k) (asked k))
    → Tests (all_below n test) ((k : ℕ) → k < n → asked k)
every n {test} each = record {
  holds = λ e k less. (each k).holds (all_at n test e k less);
  passing = λ h. all_yes n test (λ k less. (each k).passing (h k less));
}

within : (first last n : ℕ) → Tests (between first last n) ((first ≤ n) × (n ≤ last))
unfolding between
within first last n =
    both (record { holds = leb-true first n; passing = le-leb first n })
    (record { holds = leb-true n last; passing = le-leb n last })

-- "A layer is started with four numbers"
pub start_answers : (settings : Settings) → GivenFirst (start_reasons settings) (starting settings)
unfolding starting
start_answers settings =
    tested 1 (within 1 3 settings.mode)
    (tested 2 (either (either (equal settings.v 2) (equal settings.v 4)) (equal settings.v 6))
    (tested 3 (within 1 5 settings.rate)
    (tested 4 (within 1 13 settings.segments) none_applies)))
