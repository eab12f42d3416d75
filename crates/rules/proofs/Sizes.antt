-- The symbols of a frame's words are its carriers.
--     blocks_mono      more words, no fewer blocks
--     frame_symbols    those of all P words are C
--     word_inside      those of each word lie among them
use mathlib.Core.Path.{◌≡◌, sym, ap, ◌∙◌}
use Prim.Native.Nat.{ℕ, ◌+◌, ◌-◌, ◌*◌, ◌/◌, ◌^◌, ◌<◌, ◌≤◌}
use native.Mathlib.Nat.{mul_assoc, mul-le-mul_left}
use native.Mathlib.Omega.{arith}
use Rattle.settings.specs.declared.Settings.{Settings}
use Rattle.settings.specs.Sizes.{packets_by_rate, P, C}
use Rattle.settings.proofs.LegalSettings.{LegalMode, one, two, three, LegalRate, half, two_thirds, three_quarters}
use Rattle.settings.proofs.LegalSettings.{five_sixths, seven_eighths, LegalBits, qpsk, qam16, qam64, Legal}
use Rattle.rules.proofs.Counts.{per_block, whole_blocks}

-- P is so many times the packets of its rate, and each of these has 1,632 blocks
blocks_of : {rate : ℕ} → LegalRate rate → (times : ℕ)
    → whole_blocks (packets_by_rate rate) (packets_by_rate rate * times) ≡ 1632 * times
unfolding packets_by_rate
blocks_of half times = omega arith
blocks_of two_thirds times = omega arith
blocks_of three_quarters times = omega arith
blocks_of five_sixths times = omega arith
blocks_of seven_eighths times = omega arith

carriers_of : {mode v : ℕ} → LegalMode mode → LegalBits v → (n : ℕ)
    → per_block v * (1632 * (v / 2 * (2 ^ (mode - 1) * n))) ≡ 96 * 2 ^ (mode - 1) * n * 204
unfolding per_block
carriers_of one qpsk n = omega arith
carriers_of one qam16 n = omega arith
carriers_of one qam64 n = omega arith
carriers_of two qpsk n = omega arith
carriers_of two qam16 n = omega arith
carriers_of two qam64 n = omega arith
carriers_of three qpsk n = omega arith
carriers_of three qam16 n = omega arith
carriers_of three qam64 n = omega arith

pub blocks_mono : {rate : ℕ} → LegalRate rate → (p q : ℕ) → p ≤ q
    → whole_blocks (packets_by_rate rate) p ≤ whole_blocks (packets_by_rate rate) q
unfolding packets_by_rate
blocks_mono half p q h = omega arith
blocks_mono two_thirds p q h = omega arith
blocks_mono three_quarters p q h = omega arith
blocks_mono five_sixths p q h = omega arith
blocks_mono seven_eighths p q h = omega arith

module _ (settings : Settings) (legal : Legal settings) where
  abbrev pub times : ℕ
  times = settings.v / 2 * (2 ^ (settings.mode - 1) * settings.segments)

  pub packets_times : P settings ≡ packets_by_rate settings.rate * times
  unfolding P
  packets_times =
      mul_assoc (packets_by_rate settings.rate * (settings.v / 2)) (2 ^ (settings.mode - 1)) settings.segments
      ∙ mul_assoc (packets_by_rate settings.rate) (settings.v / 2) (2 ^ (settings.mode - 1) * settings.segments)

  pub frame_symbols : per_block settings.v * whole_blocks (packets_by_rate settings.rate) (P settings) ≡ C settings
  unfolding C
  frame_symbols =
      ap (λ (n : ℕ). per_block settings.v * whole_blocks (packets_by_rate settings.rate) n) packets_times
      ∙ ap (λ (n : ℕ). per_block settings.v * n) (blocks_of legal.rate times)
      ∙ carriers_of legal.mode legal.bits settings.segments

  pub word_inside : (p : ℕ) → p < P settings
      → per_block settings.v * whole_blocks (packets_by_rate settings.rate) (p + 1) ≤ C settings
  word_inside p lt =
      rw (sym frame_symbols)
      (mul-le-mul_left (per_block settings.v) (blocks_mono legal.rate (p + 1) (P settings) (omega arith)))
