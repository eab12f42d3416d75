-- "QPSK 1/2, byte 0 of word 0 in the list: carriers 0 to 13 and 120 to 133".
--     sum_of_the_list     these carriers, and no others
use mathlib.Core.Path.{◌≡◌, sym, ap, ◌∙◌}
use mathlib.Core.Logic.{◌↔◌, ◌⊎◌, inl, inr}
use Prim.Native.Nat.{ℕ, suc, ◌+◌, ◌-◌, ◌*◌, ◌/◌, ◌%◌, ◌≤◌}
use native.Mathlib.Decide.{ℕ_discrete}
use native.Mathlib.Omega.{arith}
use Rattle.settings.specs.declared.Settings.{Settings}
use Rattle.settings.specs.Legal.{starting}
use Rattle.settings.specs.Patterns.{pattern_length, kept_below}
use Rattle.settings.proofs.LegalSettings.{half}
use Rattle.settings.proofs.Patterns.{begun, kept_below_closed}
use Rattle.settings.proofs.Frame.{frame_of_is}
use Rattle.rules.specs.Bytes.{waits_there, comes_out_at}
use Rattle.rules.specs.Bits.{line_delay, carrier_of}
use Rattle.coding_answers.specs.Listed.{Reached}

abbrev InTheSum : ℕ → Type 0
InTheSum k = (k ≤ 13) ⊎ ((120 ≤ k) × (k ≤ 133))

-- at 1/2 message bit n keeps bits 2n and 2n + 1
below_half : (rate n : ℕ) → rate ≡ 1 → kept_below rate n ≡ 2 * n
unfolding pattern_length begun
below_half rate n one = ap (λ (r : ℕ). kept_below r n) one ∙ kept_below_closed half n ∙ omega arith

-- of QPSK line 1 is delayed by 120 carriers
carrier_qpsk : (c : ℕ) → carrier_of 2 c ≡ c / 2 + c % 2 * 120
carrier_qpsk c = unfold carrier_of line_delay in omega arith

module _ (settings : Settings) (start : starting settings ≡ 0) (one-half : settings.rate ≡ 1)
    (qpsk : settings.v ≡ 2) where
  abbrev ReachedByTheFirst : ℕ → Type 0
  ReachedByTheFirst = Reached settings (comes_out_at waits_there (204 * 0 + 0))

  no_others : (k : ℕ) → ReachedByTheFirst k → InTheSum k
  no_others k r =
      unfold comes_out_at waits_there in let c = r.kept in
      let from = below_half settings.rate r.message one-half in
      let to = below_half settings.rate (suc r.message) one-half in
      let message : c / 2 ≡ r.message = omega (arith, r.kept_first, r.kept_last) in
      let carrier : c / 2 + c % 2 * 120 ≡ k
      = sym (carrier_qpsk c) ∙ ap (λ (v : ℕ). carrier_of v c) (sym qpsk) ∙ r.carrier_is in
      let few : r.message ≤ 13 = r.last in
      elim (ℕ_discrete (c % 2) 0) [
        | yes e ↦ inl (omega arith)
        | no ne ↦ inr (omega arith, omega arith)
      ]

  -- carrier k shows kept bit c
  by : (k c : ℕ) → c / 2 ≤ 13 → c / 2 + c % 2 * 120 ≡ k → ReachedByTheFirst k
  by k c few is =
      unfold comes_out_at waits_there in record {
        message = c / 2;
        first = omega arith;
        last = few;
        inside = omega (arith, (frame_of_is settings start).packets_least);
        kept = c;
        kept_first = rw (below_half settings.rate (c / 2) one-half) (omega arith);
        kept_last = rw (below_half settings.rate (suc (c / 2)) one-half) (omega arith);
        carrier_is = ap (λ (v : ℕ). carrier_of v c) qpsk ∙ carrier_qpsk c ∙ is;
      }

  all_these : (k : ℕ) → InTheSum k → ReachedByTheFirst k
  all_these k (inl h) = by k (2 * k) (omega arith) (omega arith)
  all_these k (inr h) = by k (2 * (k - 120) + 1) (omega (arith, h.0, h.1)) (omega (arith, h.0, h.1))

  -- In every layer of QPSK at 1/2 byte 0 of word 0 reaches carriers 0 to 13 and 120 to 133, and no others.
  pub sum_of_the_list : (k : ℕ)
      → Reached settings (comes_out_at waits_there (204 * 0 + 0)) k ↔ ((k ≤ 13) ⊎ ((120 ≤ k) × (k ≤ 133)))
  sum_of_the_list k = (no_others k, all_these k)
