-- Digits that are received undisturbed are the kept bits.
--     Carried         some carriers are the stream's
--     shown           what a line shows on a carrier is a kept bit
--     digit_shown     and so is the digit that is received there
--     received        the digits of a frame, but for its last 120 rows
use mathlib.Core.Path.{◌≡◌, ap, ◌∙◌}
use mathlib.Core.List.{List}
use Prim.Native.Nat.{ℕ, ◌+◌, ◌-◌, ◌*◌, ◌/◌, ◌%◌, ◌<◌, ◌≤◌}
use native.Mathlib.Nat.{add-mul, div-add-mod', mod-lt}
use native.Mathlib.Omega.{arith}
use lib.ListN.{length, get_or}
use borrow.Author.Tests.{lt-ltb}
use Rattle.lists.specs.Binary.{bit_of}
use Rattle.settings.specs.declared.Settings.{Settings}
use Rattle.settings.proofs.LegalSettings.{Legal}
use Rattle.rules.proofs.Kept.{kept_lt}
use Rattle.rules.specs.Bits.{delay_of, carrier_of}
use Rattle.rules.proofs.Shown.{line_late, carrier_bit}
use Rattle.rules.proofs.Widths.{delay_most}
use Rattle.rules.specs.Back.{line_digit, received_digit}
use Rattle.rules.specs.Frame.{Frame, kept_bit_of, carrier_value}
use Rattle.demands.specs.Frames.{layered}
use Rattle.demands.proofs.Counts.{row_inside, bits_few}

-- so many carriers of a stream, from the first on
pub record Carried (stream : Frame) (first count : ℕ) (carriers : List ℕ) : Type 0 where
  pub long : length carriers ≡ count
  pub value : (k : ℕ) → k < count → get_or carriers k 0 ≡ carrier_value stream (first + k)

front : (first a d : ℕ) → first + (a + d) - d ≡ first + a
front first a d = omega arith

reaches : (first a d : ℕ) → d ≤ first + (a + d)
reaches first a d = omega arith

module _ (settings : Settings) (legal : Legal settings) (memory : List ℕ) (register : ℕ) (lines : List ℕ) (sent : ℕ → ℕ)
    (entries : (k : ℕ) → get_or lines k 0 < 2) where
  abbrev stream : Frame
  stream = layered settings memory register lines sent

  abbrev v : ℕ
  v = settings.v

  pub kept_bit : (c : ℕ) → kept_bit_of stream c < 2
  kept_bit c = unfold kept_bit_of in kept_lt settings.rate register _ c

  pub shown : (k l : ℕ) → l < v → delay_of v l ≤ k
      → bit_of v (carrier_value stream k) l ≡ kept_bit_of stream ((k - delay_of v l) * v + l)
  unfolding carrier_value
  shown k l lt late =
      carrier_bit v lines (kept_bit_of stream) entries kept_bit k l lt ∙ line_late v lines (kept_bit_of stream) k l late

  some : 0 < v
  some = omega (arith, (bits_few legal.bits).0)

  module _ (first count : ℕ) (carriers : List ℕ) (carried : Carried stream first count carriers) where
    pub digit_shown : (k l : ℕ) → k < count → l < v → delay_of v l ≤ first + k
        → line_digit v carriers k l ≡ kept_bit_of stream ((first + k - delay_of v l) * v + l)
    digit_shown k l inside lt late =
        unfold line_digit in rw (lt-ltb k (length carriers) (omega (arith, carried.long)))
        (ap (λ (x : ℕ). bit_of v x l) (carried.value k inside) ∙ shown (first + k) l lt late)

    pub received : (c : ℕ) → c + 120 * v < count * v → received_digit v carriers c ≡ kept_bit_of stream (first * v + c)
    received c h =
        unfold received_digit carrier_of in let l = c % v in
        let lt = mod-lt c some in
        let most = delay_most v (c % v) lt in
        let inside = row_inside legal.bits c count h in
        digit_shown (c / v + delay_of v (c % v)) (c % v) (omega arith) lt (reaches first (c / v) (delay_of v (c % v)))
        ∙ ap (λ (s : ℕ). kept_bit_of stream (s * v + c % v)) (front first (c / v) (delay_of v (c % v)))
        ∙ ap (kept_bit_of stream) (ap (λ (x : ℕ). x + c % v) (add-mul first (c / v) v)
        ∙ (let e = div-add-mod' c v in omega arith))
