-- What the settings are where a start is not refused: numbers from small sets, so that matching puts numerals in
-- their place.
--     LegalMode, LegalBits, LegalRate     1, 2, 3; 2, 4, 6; 1 to 5
--     Legal                               of all four
--     legal_settings                      a start that answers 0 has legal settings
use mathlib.Core.Path.{◌≡◌, sym, subst}
use mathlib.Core.Bool.{true, false≢true}
use Prim.Native.Nat.{ℕ, zero, suc, ◌≤◌}
use native.Mathlib.Omega.{arith}
use native.Mathlib.Decide.{ℕ_discrete}
use borrow.Author.Tests.{ne_eqb}
use Rattle.lists.proofs.Betweens.{between_true}
use Rattle.settings.specs.declared.Settings.{Settings}
use Rattle.settings.specs.Legal.{legal_bits, legal_mode, legal_rate, legal_segments, starting}
use Rattle.settings.proofs.Refusals.{passed}

pub data LegalMode : ℕ → Type 0 where
  one : LegalMode 1
  two : LegalMode 2
  three : LegalMode 3

pub data LegalBits : ℕ → Type 0 where
  qpsk : LegalBits 2
  qam16 : LegalBits 4
  qam64 : LegalBits 6

pub data LegalRate : ℕ → Type 0 where
  half : LegalRate 1
  two_thirds : LegalRate 2
  three_quarters : LegalRate 3
  five_sixths : LegalRate 4
  seven_eighths : LegalRate 5

pub record Legal (settings : Settings) : Type 0 where
  pub mode : LegalMode settings.mode
  pub bits : LegalBits settings.v
  pub rate : LegalRate settings.rate
  pub some : 1 ≤ settings.segments
  pub few : settings.segments ≤ 13

legal_mode_is : (n : ℕ) → (1 ≤ n) × (n ≤ 3) → LegalMode n
legal_mode_is zero h = absurd (omega arith)
legal_mode_is (suc zero) h = one
legal_mode_is (suc (suc zero)) h = two
legal_mode_is (suc (suc (suc zero))) h = three
legal_mode_is (suc (suc (suc (suc n)))) h = absurd (omega arith)

legal_rate_is : (n : ℕ) → (1 ≤ n) × (n ≤ 5) → LegalRate n
legal_rate_is zero h = absurd (omega arith)
legal_rate_is (suc zero) h = half
legal_rate_is (suc (suc zero)) h = two_thirds
legal_rate_is (suc (suc (suc zero))) h = three_quarters
legal_rate_is (suc (suc (suc (suc zero)))) h = five_sixths
legal_rate_is (suc (suc (suc (suc (suc zero))))) h = seven_eighths
legal_rate_is (suc (suc (suc (suc (suc (suc n)))))) h = absurd (omega arith)

legal_bits_is : (v : ℕ) → legal_bits v ≡ true → LegalBits v
legal_bits_is v e = go (ℕ_discrete v 2) (ℕ_discrete v 4) (ℕ_discrete v 6)
  where
    go : Dec (v ≡ 2) → Dec (v ≡ 4) → Dec (v ≡ 6) → LegalBits v
    go (yes a) b c = subst LegalBits (sym a) qpsk
    go (no a) (yes b) c = subst LegalBits (sym b) qam16
    go (no a) (no b) (yes c) = subst LegalBits (sym c) qam64
    go (no a) (no b) (no c) = absurd (false≢true (simp (ne_eqb v 2 a, ne_eqb v 4 b, ne_eqb v 6 c) at e))

pub bits_most : {v : ℕ} → LegalBits v → v ≤ 6
bits_most qpsk = omega arith
bits_most qam16 = omega arith
bits_most qam64 = omega arith

pub legal_settings : (settings : Settings) → starting settings ≡ 0 → Legal settings
legal_settings settings e =
    unfold starting in let mode = passed 0 (legal_mode settings.mode) _ e in
    let bits = passed 1 (legal_bits settings.v) _ mode.1 in
    let rate = passed 2 (legal_rate settings.rate) _ bits.1 in
    let segments = passed 3 (legal_segments settings.segments) _ rate.1 in
    record {
      mode = legal_mode_is settings.mode (between_true 1 3 settings.mode mode.0);
      bits = legal_bits_is settings.v bits.0;
      rate = legal_rate_is settings.rate (between_true 1 5 settings.rate rate.0);
      some = (between_true 1 13 settings.segments segments.0).0;
      few = (between_true 1 13 settings.segments segments.0).1;
    }
