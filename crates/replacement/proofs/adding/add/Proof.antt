-- `replacement::adding::add` meets its contract. The invariant: the bytes below k are added, and the others are as they
-- were.
use mathlib.Core.Path.{◌≡◌, refl, ap}
use Prim.Native.Nat.{ℕ, ◌-◌, ◌≤◌}
use native.Mathlib.Omega.{arith}
use lib.Bits.{bit_xor}
use lib.ListN.{length, get_or}
use Rattle.lists.proofs.FillOver.{Over, over_start, over_step, over_end}
use Rattle.replacement.proofs.adding.add.Statement.{statement}
use Rattle.replacement.proofs.adding.add.Tie as tie

abbrev invariant_loop : tie.invariant-loop-k
invariant_loop bytes₀ more k₀ k-end bytes k =
    (k ≤ k-end) × (k-end ≡ length bytes₀) × (length more ≡ length bytes₀)
    × Over (length bytes₀) (λ k. bit_xor (get_or bytes₀ k 0) (get_or more k 0)) bytes₀ k bytes

abbrev decreases_loop : tie.decreases-loop-k
decreases_loop bytes₀ more k₀ k-end bytes k = k-end - k

loop_again : tie.Need-loop-k-preserved invariant_loop decreases_loop
loop_again c =
    let at = c.loop-k in (
      omega arith,
      refl,
      at.invariant.2,
      over_step _ _ _ at.invariant.3 at.k _ refl (omega arith)
          (ap (λ (x : ℕ). bit_xor x (get_or c.args.more.now at.k 0)) (at.invariant.3.rest at.k (omega arith))),
    )

pub add_spec : {M : Type 1} → statement M
add_spec =
    tie.close (tie.spec invariant_loop decreases_loop
    (λ c. (omega arith, refl, c.requires, over_start _ _ _ 0 refl (λ k lt. absurd (omega arith))))
    (λ c. let long = c.loop-k.invariant.3.len in omega arith)
    (λ c. let long = c.loop-k.invariant.2 in omega arith)
    (λ c. let long = c.loop-k.invariant.3.len in omega arith) (λ c. omega arith)
    (λ c. omega arith) loop_again (λ c. c.loop-k.invariant.3.len)
    (λ c. let at = c.loop-k in over_end _ _ _ at.invariant.3 (λ k le lt. absurd (omega arith))))
