-- The layers of the programs.
--     small_refused, small_is          the test of a layer, by its carriers
--     small_legal, small_sizes         what a small layer is: legal, and no larger than the programs' areas
--     largest_small, largest_sizes     the largest of them
--     small_most                       no small layer has more packets, nor more carriers
use mathlib.Core.Path.{◌≡◌, refl, sym, ap, ◌∙◌}
use mathlib.Core.Bool.{Bool, true, false, cond, ◌&&◌}
use Prim.Native.Nat.{ℕ, ◌-◌, ◌*◌, ◌/◌, ◌^◌, ◌≤◌}
use native.Mathlib.Nat.{mul_assoc, mul_comm, mul-le-mul}
use native.Mathlib.Omega.{arith}
use native.Mathlib.Decide.{dec_le}
use lib.Dec.{eqb, leb}
use borrow.Author.Tests.{eqb-true, leb-true, le-leb, lt-leb, eq-eqb}
use Rattle.lists.proofs.Bools.{and_both}
use Rattle.lists.specs.Tests.{between}
use Rattle.settings.specs.declared.Settings.{Settings}
use Rattle.settings.specs.Legal.{starting}
use Rattle.settings.specs.Sizes.{P, C, packets_by_rate, packets_of, carriers_of}
use Rattle.settings.proofs.LegalSettings.{LegalBits, qpsk, qam16, qam64, legal_settings}
use Rattle.settings.proofs.Frame.{rate_most, frame_of_is}
use Rattle.text_lines.specs.First.{small, largest}

product : (a n : ℕ) → 96 * a * n * 204 ≡ 19584 * (n * a)
product a n = ap (λ (m : ℕ). m * 204) (mul_assoc 96 a n ∙ ap (λ (m : ℕ). 96 * m) (mul_comm a n)) ∙ numerals (n * a)
  where
    numerals : (t : ℕ) → 96 * t * 204 ≡ 19584 * t
    numerals t = omega arith

at_most : (t : ℕ) → leb (19584 * t) 39168 ≡ leb t 2
at_most t = elim (dec_le t 2) [
  | yes h ↦ le-leb (19584 * t) 39168 (omega arith) ∙ sym (le-leb t 2 h)
  | no h ↦ lt-leb (19584 * t) 39168 (omega arith) ∙ sym (lt-leb t 2 (omega arith))
]

half_most : {v : ℕ} → LegalBits v → v / 2 ≤ 3
half_most qpsk = omega arith
half_most qam16 = omega arith
half_most qam64 = omega arith

module _ (settings : Settings) where
  -- N × 2^(mode−1)
  abbrev turns : ℕ
  turns = settings.segments * 2 ^ (settings.mode - 1)

  carriers_turns : C settings ≡ 19584 * turns
  carriers_turns = unfold C in product (2 ^ (settings.mode - 1)) settings.segments

  pub small_refused : carriers_of settings ≡ 0 → false ≡ small settings
  unfolding small carriers_of
  small_refused e = go (eqb (starting settings) 0) refl e
    where
      go : (b : Bool) → eqb (starting settings) 0 ≡ b → cond b (C settings) 0 ≡ 0 → false ≡ (b && leb turns 2)
      go true t none =
          let least = (frame_of_is settings (eqb-true _ 0 t)).carriers_least in absurd (omega (arith, least, none))
      go false t none = refl

  pub small_is : (carriers_of settings ≡ 0 → ⊥) → leb (carriers_of settings) 39168 ≡ small settings
  unfolding small carriers_of
  small_is e = go (eqb (starting settings) 0) e
    where
      go : (b : Bool) → (cond b (C settings) 0 ≡ 0 → ⊥) → leb (cond b (C settings) 0) 39168 ≡ (b && leb turns 2)
      go true some = ap (λ (n : ℕ). leb n 39168) carriers_turns ∙ at_most turns
      go false some = absurd (some refl)

  pub small_legal : small settings ≡ true → (starting settings ≡ 0) × (turns ≤ 2)
  small_legal e =
      unfold small in let both = and_both (eqb (starting settings) 0) (leb turns 2) e in
      (eqb-true (starting settings) 0 both.0, leb-true turns 2 both.1)

  pub small_sizes : small settings ≡ true → (packets_of settings ≤ 126) × (carriers_of settings ≤ 39168)
  small_sizes e =
      unfold packets_of carriers_of P in let legal = small_legal e in
      let one = eq-eqb (starting settings) 0 legal.0 in
      let rates = mul-le-mul (rate_most settings.rate) (half_most (legal_settings settings legal.0).bits) in
      let most = mul-le-mul rates legal.1 in
      let r = packets_by_rate settings.rate * (settings.v / 2) in
      let a = 2 ^ (settings.mode - 1) in
      let n = settings.segments in
      let same : r * a * n ≡ r * (n * a) = mul_assoc r a n ∙ ap (λ (m : ℕ). r * m) (mul_comm a n) in
      rw one (omega (arith, most, same), omega (arith, carriers_turns, legal.1))

pub largest_small : small largest ≡ true
largest_small = unfold small starting between in refl

pub largest_sizes : (packets_of largest ≡ 126) × (carriers_of largest ≡ 39168)
largest_sizes = unfold packets_of carriers_of P C packets_by_rate starting between in (refl, refl)

pub small_most : (settings : Settings) → small settings ≡ true → (packets_of settings ≤ packets_of largest)
    × (carriers_of settings ≤ carriers_of largest)
small_most settings e =
    let most = small_sizes settings e in
    let sizes = largest_sizes in
    (omega (arith, most.0, sizes.0), omega (arith, most.1, sizes.1))
