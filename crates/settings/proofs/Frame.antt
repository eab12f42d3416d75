-- The sizes of a frame of legal settings, stated once for all later proofs.
--     Frame, frame_of_is    what holds of P, C, and the kept bits of a frame
--     place_in_frame        the message bits that byte 202 of a word, or one before it, reaches lie in the frame
use mathlib.Core.Path.{◌≡◌, sym, ◌∙◌}
use Prim.Native.Nat.{ℕ, zero, suc, ◌+◌, ◌-◌, ◌*◌, ◌/◌, ◌%◌, ◌^◌, ◌≤◌, ◌<◌}
use native.Mathlib.Nat.{mul-le-mul, mul_assoc}
use native.Mathlib.Decide.{ℕ_discrete}
use native.Mathlib.Omega.{arith}
use borrow.Author.Tests.{eq-eqb, ne_eqb}
use Rattle.settings.specs.declared.Settings.{Settings}
use Rattle.settings.specs.Legal.{starting}
use Rattle.settings.specs.Sizes.{packets_by_rate, P, C, packets_of}
use Rattle.settings.specs.Patterns.{pattern_length, kept_below}
use Rattle.settings.proofs.LegalSettings.{LegalMode, one, two, three, LegalBits, qpsk, qam16, qam64, LegalRate}
use Rattle.settings.proofs.LegalSettings.{half, two_thirds, three_quarters, five_sixths, seven_eighths, Legal}
use Rattle.settings.proofs.LegalSettings.{legal_settings}
use Rattle.settings.proofs.Patterns.{begun, kept_below_closed}

-- the packets of one rate, for settings that have `units` times those of mode 1, one segment and v = 2
units : ℕ → ℕ → ℕ → ℕ
units mode v segments = v / 2 * 2 ^ (mode - 1) * segments

rate_bounds : {rate : ℕ} → LegalRate rate → (12 ≤ packets_by_rate rate) × (packets_by_rate rate ≤ 21)
unfolding packets_by_rate
rate_bounds half = (omega arith, omega arith)
rate_bounds two_thirds = (omega arith, omega arith)
rate_bounds three_quarters = (omega arith, omega arith)
rate_bounds five_sixths = (omega arith, omega arith)
rate_bounds seven_eighths = (omega arith, omega arith)

pub rate_most : (rate : ℕ) → packets_by_rate rate ≤ 21
unfolding packets_by_rate
rate_most zero = omega arith
rate_most (suc zero) = omega arith
rate_most (suc (suc zero)) = omega arith
rate_most (suc (suc (suc zero))) = omega arith
rate_most (suc (suc (suc (suc zero)))) = omega arith
rate_most (suc (suc (suc (suc (suc zero))))) = omega arith
rate_most (suc (suc (suc (suc (suc (suc rate)))))) = omega arith

-- nine cases of mode and v, each linear in the segments
record Counted (mode v n : ℕ) : Type 0 where
  pub some : n ≤ units mode v n
  pub few : units mode v n ≤ 12 * n
  pub least : 19584 * n ≤ 96 * 2 ^ (mode - 1) * n * 204
  pub most : 96 * 2 ^ (mode - 1) * n * 204 ≤ 78336 * n
  pub bits : 96 * 2 ^ (mode - 1) * n * 204 * v ≡ 39168 * units mode v n

counted : {mode v : ℕ} → LegalMode mode → LegalBits v → (n : ℕ) → Counted mode v n
unfolding units
counted one qpsk n =
    record { some = omega arith; few = omega arith; least = omega arith; most = omega arith; bits = omega arith }
counted one qam16 n =
    record { some = omega arith; few = omega arith; least = omega arith; most = omega arith; bits = omega arith }
counted one qam64 n =
    record { some = omega arith; few = omega arith; least = omega arith; most = omega arith; bits = omega arith }
counted two qpsk n =
    record { some = omega arith; few = omega arith; least = omega arith; most = omega arith; bits = omega arith }
counted two qam16 n =
    record { some = omega arith; few = omega arith; least = omega arith; most = omega arith; bits = omega arith }
counted two qam64 n =
    record { some = omega arith; few = omega arith; least = omega arith; most = omega arith; bits = omega arith }
counted three qpsk n =
    record { some = omega arith; few = omega arith; least = omega arith; most = omega arith; bits = omega arith }
counted three qam16 n =
    record { some = omega arith; few = omega arith; least = omega arith; most = omega arith; bits = omega arith }
counted three qam64 n =
    record { some = omega arith; few = omega arith; least = omega arith; most = omega arith; bits = omega arith }

-- 1,632 message bits a word: a whole number of patterns, which keep 39,168 bits a unit
record Kept (rate u : ℕ) : Type 0 where
  pub whole : 1632 * (packets_by_rate rate * u) % pattern_length rate ≡ 0
  pub kept : 1632 * (packets_by_rate rate * u) + begun (pattern_length rate) (1632 * (packets_by_rate rate * u))
      ≡ 39168 * u

kept_units : {rate : ℕ} → LegalRate rate → (u : ℕ) → Kept rate u
unfolding packets_by_rate pattern_length begun
kept_units half u = record { whole = omega arith; kept = omega arith }
kept_units two_thirds u = record { whole = omega arith; kept = omega arith }
kept_units three_quarters u = record { whole = omega arith; kept = omega arith }
kept_units five_sixths u = record { whole = omega arith; kept = omega arith }
kept_units seven_eighths u = record { whole = omega arith; kept = omega arith }

-- the packets, as units of the rate's
packets_units : (settings : Settings)
    → P settings ≡ packets_by_rate settings.rate * units settings.mode settings.v settings.segments
packets_units settings = unfold P units in simp mul_assoc

pub record Frame (settings : Settings) : Type 0 where
  pub packets_least : 12 ≤ P settings
  pub packets_most : P settings ≤ 3276
  pub carriers_least : 19584 ≤ C settings
  pub carriers_most : C settings ≤ 1018368
  -- a frame is a whole number of patterns
  pub whole : 1632 * P settings % pattern_length settings.rate ≡ 0
  -- its kept bits fill its carriers
  pub kept : kept_below settings.rate (1632 * P settings) ≡ C settings * settings.v

frame_legal : (settings : Settings) → Legal settings → Frame settings
frame_legal settings legal =
    unfold C in let n = settings.segments in
    let count = counted legal.mode legal.bits n in
    let u = units settings.mode settings.v n in
    let pack = packets_units settings in
    let bits = kept_units legal.rate u in
    let rates = rate_bounds legal.rate in
    let some : 1 ≤ u = omega arith in
    let few : u ≤ 156 = omega arith in
    let least : 12 * 1 ≤ packets_by_rate settings.rate * u = mul-le-mul rates.0 some in
    let most : packets_by_rate settings.rate * u ≤ 21 * 156 = mul-le-mul rates.1 few in
    record {
      packets_least = omega arith;
      packets_most = omega arith;
      carriers_least = omega arith;
      carriers_most = omega arith;
      whole = rw pack bits.whole;
      kept = kept_below_closed legal.rate (1632 * P settings) ∙ rw pack bits.kept ∙ sym count.bits;
    }

-- The sizes of a frame of settings with which a layer starts.
pub frame_of_is : (settings : Settings) → starting settings ≡ 0 → Frame settings
frame_of_is settings e = frame_legal settings (legal_settings settings e)

-- A byte of a word, but for the last, reaches 14 message bits, and they lie in the frame.
pub place_in_frame : (packets word byte : ℕ) → word < packets → byte ≤ 202
    → 8 * (204 * word + byte) + 13 < 1632 * packets
place_in_frame packets word byte h k = omega arith

-- of any settings, since P is 0 where they are not legal
pub packets_few : (settings : Settings) → packets_of settings ≤ 3276
packets_few settings = unfold packets_of in elim (ℕ_discrete (starting settings) 0) [
  | yes e ↦ rw (eq-eqb (starting settings) 0 e) (frame_of_is settings e).packets_most
  | no ne ↦ rw (ne_eqb (starting settings) 0 ne) (omega arith)
]
