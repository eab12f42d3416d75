-- `settings::kept_below` meets its contract, by the closed form.
use mathlib.Core.Path.{◌≡◌, sym, ap, ◌∙◌}
use Prim.Native.Nat.{ℕ, ◌+◌, ◌-◌, ◌/◌, ◌≤◌}
use native.Mathlib.Nat.{div-le_self}
use native.Mathlib.Omega.{arith}
use borrow.Author.Rules.{rules}
use Rattle.settings.specs.Patterns.{pattern_length, kept_below}
use Rattle.settings.proofs.Patterns.{begun, pattern_legal, pattern_length_bounds, kept_below_closed}
use Rattle.settings.proofs.Patterns.{kept_below_none}
use Rattle.settings.proofs.kept_below.Statement.{statement}
use Rattle.settings.proofs.kept_below.Tie as tie

-- over plain numbers: the length is the pattern's and not 0
few : (rate length : ℕ) → length ≡ pattern_length rate → (length ≡ 0 → ⊥) → length ≤ 7
few rate length e some = let most = (pattern_length_bounds (pattern_legal rate (λ z. some (e ∙ z)))).1 in omega arith

closed : (rate length n : ℕ) → length ≡ pattern_length rate → (length ≡ 0 → ⊥)
    → n + (n + (length - 1)) / length ≡ kept_below rate n
unfolding begun
closed rate length n e some =
    ap (λ (l : ℕ). n + (n + (l - 1)) / l) e ∙ sym (kept_below_closed (pattern_legal rate (λ z. some (e ∙ z))) n)

kept_fits : tie.Need-overflow_add-result-2
kept_fits c =
    let l = few _ _ c.pattern_length-length.ensures c.if-length-eq0.false in
    omega (
      arith,
      div-le_self (c.args.bit + (c.pattern_length-length.result - 1))
          c.pattern_length-length.result,
    )

pub kept_below_spec : {M : Type 1} → statement M
kept_below_spec =
    tie.close (tie.spec (λ c κs. search rules)
    (λ c. sym (kept_below_none _ _ (sym c.pattern_length-length.ensures ∙ c.if-length-eq0.true)))
    (λ c. search rules)
    (λ c. let l = few _ _ c.pattern_length-length.ensures c.if-length-eq0.false in omega arith)
    (λ c. search rules) kept_fits (λ c. closed _ _ _ c.pattern_length-length.ensures c.if-length-eq0.false))
