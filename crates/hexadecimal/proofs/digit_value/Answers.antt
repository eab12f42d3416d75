-- A byte that is a digit, by its bits: the lowest four are its value, and nine more where it is a letter.
use Rattle.std.proofs.Common.{◌+◌, ◌-◌, ◌*◌, ◌/◌, ◌%◌, ◌<◌, ◌≡◌, refl, ℕ, Bool, true, false, cond, arith}
use Rattle.lists.specs.Tests.{between}
use Rattle.lists.proofs.Betweens.{between_true}
use Rattle.hexadecimal.specs.Digits.{value_of}
use Rattle.hexadecimal.proofs.digit_value.Goals as goal

module _ (byte : ℕ) where
  by_range : (digit capital small : Bool) → between 48 57 byte ≡ digit → between 65 70 byte ≡ capital
      → between 97 102 byte ≡ small
      → cond digit (byte - 48) (cond capital (byte - 55) (cond small (byte - 87) 16)) < 16
      → byte % 16 + byte / 64 * 9 ≡ cond digit (byte - 48) (cond capital (byte - 55) (cond small (byte - 87) 16))
  by_range true _ _ e _ _ few = let within = between_true 48 57 byte e in omega (arith, within.0, within.1)
  by_range false true _ _ e _ few = let within = between_true 65 70 byte e in omega (arith, within.0, within.1)
  by_range false false true _ _ e few = let within = between_true 97 102 byte e in omega (arith, within.0, within.1)
  by_range false false false _ _ _ few = absurd (omega (arith, few))

  digit_is : value_of byte < 16 → byte % 16 + byte / 64 * 9 ≡ value_of byte
  unfolding value_of
  digit_is few =
      by_range (between 48 57 byte) (between 65 70 byte) (between 97 102 byte) refl refl refl few

pub returns : goal.returns
returns c = let is = digit_is c.args.byte c.requires in (is, omega (arith, is, c.requires))
