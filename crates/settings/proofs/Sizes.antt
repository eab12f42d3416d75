-- The sizes by the outcome of the test of the settings, which the code has as a bool.
--     mode_few                             accepted settings have a mode of at most 3
--     packets_accepted, packets_refused    P, or 0
--     carriers_accepted, carriers_refused  C, or 0
use mathlib.Core.Path.{◌≡◌, refl, sym, ◌∙◌}
use mathlib.Core.Bool.{Bool, true, false}
use Prim.Native.Nat.{ℕ, ◌≤◌}
use native.Mathlib.Omega.{arith}
use lib.Dec.{eqb}
use borrow.Author.Tests.{eqb-true}
use Rattle.settings.specs.declared.Settings.{Settings}
use Rattle.settings.specs.Legal.{starting}
use Rattle.settings.specs.Sizes.{P, C, packets_of, carriers_of}
use Rattle.settings.proofs.LegalSettings.{LegalMode, one, two, three, legal_settings}

few : {mode : ℕ} → LegalMode mode → mode ≤ 3
few one = omega arith
few two = omega arith
few three = omega arith

module _ (settings : Settings) (tested : Bool) (test : tested ≡ eqb (starting settings) 0) where
  pub mode_few : tested ≡ true → settings.mode ≤ 3
  mode_few e = few (legal_settings settings (eqb-true (starting settings) 0 (sym test ∙ e))).mode

  pub packets_accepted : tested ≡ true → packets_of settings ≡ P settings
  packets_accepted e = unfold packets_of in rw (sym test ∙ e) refl

  pub packets_refused : tested ≡ false → packets_of settings ≡ 0
  packets_refused e = unfold packets_of in rw (sym test ∙ e) refl

  pub carriers_accepted : tested ≡ true → carriers_of settings ≡ C settings
  carriers_accepted e = unfold carriers_of in rw (sym test ∙ e) refl

  pub carriers_refused : tested ≡ false → carriers_of settings ≡ 0
  carriers_refused e = unfold carriers_of in rw (sym test ∙ e) refl
