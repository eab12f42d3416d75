-- `received_bits::bits_after` meets its contract. The invariant: the bits below i are there, and the others zero.
use mathlib.Core.Path.{◌≡◌, refl}
use Prim.Native.Nat.{ℕ, ◌-◌, ◌≤◌}
use native.Mathlib.Omega.{arith}
use lib.ListN.{length-replicate, replicate}
use borrow.Author.Rules.{rules}
use Rattle.lists.proofs.FillOver.{Over, over_start, over_step, over_end}
use Rattle.settings.proofs.LegalSettings.{legal_settings}
use Rattle.rules.specs.Back.{last_kept, held_count, held_after}
use Rattle.received_bits.proofs.LastWord.{packets_few, first_is, bit_few, bit_inside, held_at, held_there}
use Rattle.received_bits.proofs.LastWord.{held_none}
use Rattle.received_bits.proofs.bits_after.Statement.{statement}
use Rattle.received_bits.proofs.bits_after.Tie as tie

abbrev invariant_loop : tie.invariant-loop-i
invariant_loop settings carriers packets first count held₀ i₀ held i =
    (i ≤ count) × (count ≤ 3072) × (first ≡ last_kept settings) × (count ≡ held_count settings)
    × Over 3072 (held_at settings carriers) (replicate 3072 0) i held

abbrev decreases_loop : tie.decreases-loop-i
decreases_loop settings carriers packets first count held₀ i₀ held i = count - i

few : (c : tie.After-packets-packets invariant_loop decreases_loop)
    → (12 ≤ c.packets-packets.result) × (c.packets-packets.result ≤ 3276)
few c = packets_few _ c.requires.0 _ c.packets-packets.ensures

loop_holds : tie.Need-loop-i-init invariant_loop decreases_loop
loop_holds c = (
  omega arith,
  c.legal_count-count.ensures.1,
  first_is _ c.requires.0 _ _ c.packets-packets.ensures c.kept_below-first.ensures,
  c.legal_count-count.ensures.0,
  over_start 3072 _ _ 0 (length-replicate {A = ℕ} 3072 0) (λ k lt. absurd (omega arith)),
)

loop_again : tie.Need-loop-i-preserved invariant_loop decreases_loop
loop_again c =
    let at = c.loop-i in (
      omega arith,
      at.invariant.1,
      at.invariant.2,
      at.invariant.3,
      over_step 3072 _ _ at.invariant.4 _ _ refl (omega (arith, at.invariant.1))
          (held_there _ _ _ _ at.i _ at.invariant.2 at.invariant.3 (omega arith) c.kept_bit.ensures),
    )

pub bits_after_spec : {M : Type 1} → statement M
bits_after_spec =
    tie.close (tie.spec invariant_loop decreases_loop (λ c κs. search rules) (λ c. let n = few c in omega arith)
    (λ c. let n = few c in omega arith) (λ c. let n = few c in omega arith) (λ c κs. search rules)
    (λ c κs. search rules) loop_holds
    (λ c. let at = c.loop-i in
    let legal = c.requires.0 in
    omega (arith, bit_few _ legal _ _ at.i at.invariant.2 at.invariant.3 (omega arith)))
    (λ c κs. let at = c.loop-i in
    let asked = c.requires in
    let inside = bit_inside _ asked.0 _ _ at.i at.invariant.2 at.invariant.3 (omega arith) in
    ((legal_settings _ asked.0).bits, omega (arith, inside, asked.1)))
    (λ c. omega arith) (λ c. omega arith) (λ c. omega arith) loop_again
    (λ c. unfold held_after in let at = c.loop-i in
    over_end 3072 _ _ at.invariant.4 (λ k low lt. held_none _ _ at.i (omega (arith, at.invariant.3)) k low lt)))
