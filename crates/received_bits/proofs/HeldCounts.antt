-- How many bits are held, and which, by the tests of the settings and of the carriers' length.
--     count_none, count_is, count_legal                 how many
--     after_none, after_other, after_is, after_legal    which
use mathlib.Core.Path.{◌≡◌, refl, sym, ◌∙◌}
use mathlib.Core.List.{List}
use Prim.Native.Nat.{ℕ, ◌≤◌}
use native.Mathlib.Omega.{arith}
use lib.ListN.{length, replicate}
use borrow.Author.Tests.{eq-eqb, ne_eqb}
use Rattle.settings.specs.declared.Settings.{Settings}
use Rattle.settings.specs.Legal.{starting}
use Rattle.settings.specs.Sizes.{C, carriers_of}
use Rattle.rules.specs.Back.{held_count, held_after}
use Rattle.received_bits.specs.Held.{held_of, held_from}
use Rattle.received_bits.proofs.LastWord.{carriers_are, last_here}

module _ (settings : Settings) where
  pub count_none : (starting settings ≡ 0 → ⊥) → 0 ≡ held_of settings
  count_none ne = unfold held_of in rw (ne_eqb (starting settings) 0 ne) refl

  pub after_none : (carriers : List ℕ) → (starting settings ≡ 0 → ⊥) → replicate 3072 0 ≡ held_from settings carriers
  after_none carriers ne = unfold held_from in rw (ne_eqb (starting settings) 0 ne) refl

  module _ (legal : starting settings ≡ 0) where
    pub count_is : (count : ℕ) → count ≡ held_count settings → count ≡ held_of settings
    count_is count e = unfold held_of in rw (eq-eqb (starting settings) 0 legal) e

    pub count_legal : (count : ℕ) → count ≡ held_of settings → (count ≡ held_count settings) × (count ≤ 3072)
    count_legal count e =
        unfold held_of in let is : count ≡ held_count settings = rw (eq-eqb (starting settings) 0 legal) at e in
        (is, omega (arith, (last_here settings legal).few))

    pub after_other : (carriers : List ℕ) → (length carriers ≡ carriers_of settings → ⊥)
        → replicate 3072 0 ≡ held_from settings carriers
    after_other carriers other =
        unfold held_from in rw (
          eq-eqb (starting settings) 0 legal,
          ne_eqb (length carriers) (C settings) (λ e. other (e ∙ sym (carriers_are settings legal))),
        ) refl

    pub after_is : (carriers : List ℕ) → length carriers ≡ carriers_of settings → (held : List ℕ)
        → held ≡ held_after settings carriers → held ≡ held_from settings carriers
    after_is carriers long held e =
        unfold held_from in rw (
          eq-eqb (starting settings) 0 legal,
          eq-eqb (length carriers) (C settings) (long ∙ carriers_are settings legal),
        ) e

    pub after_legal : (carriers : List ℕ) → length carriers ≡ C settings → (held : List ℕ)
        → held ≡ held_from settings carriers → held ≡ held_after settings carriers
    unfolding held_from
    after_legal carriers long held e =
        rw (eq-eqb (starting settings) 0 legal, eq-eqb (length carriers) (C settings) long) at e
