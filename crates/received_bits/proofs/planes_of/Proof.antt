-- `received_bits::planes_of` meets its contract. The invariant: the planes below l, and of plane l the rows below k,
-- are stored; the rest is 2.
use mathlib.Core.Path.{refl}
use Prim.Native.Nat.{◌+◌, ◌-◌, ◌*◌, ◌<◌, ◌≤◌}
use native.Mathlib.Omega.{arith}
use Rattle.lists.proofs.FillOver.{over_at}
use Rattle.rules.specs.Back.{received_digit}
use Rattle.received_bits.proofs.Places.{some_bits, Small, small, plane_digit}
use Rattle.received_bits.proofs.PlaneFilling.{Planes, planes_none, planes_more, planes_next, planes_all}
use Rattle.received_bits.proofs.PlaneFilling.{stretch_rest}
use Rattle.received_bits.proofs.planes_of.Statement.{statement}
use Rattle.received_bits.proofs.planes_of.Tie as tie

abbrev invariant_loop2 : tie.invariant-loop-k
invariant_loop2 v carriers rows delay planes₀ l first count k₀ planes k =
    (l < v) × (k ≤ count) × Planes v (received_digit v carriers) (rows * l + k) planes

abbrev decreases_loop2 : tie.decreases-loop-k
decreases_loop2 v carriers rows delay planes₀ l first count k₀ planes k = count - k

abbrev invariant_loop : tie.invariant-loop-l
invariant_loop v carriers rows delay planes₀ l₀ planes l =
    (l ≤ v) × Planes v (received_digit v carriers) (rows * l) planes

abbrev decreases_loop : tie.decreases-loop-l
decreases_loop v carriers rows delay planes₀ l₀ planes l = v - l

-- How large the numbers of a turn of the inner loop are.
here : (c : tie.In-loop-k invariant_loop2 decreases_loop2 invariant_loop decreases_loop)
    → Small c.args.v c.loop-l.l
here c = small c.requires _ (omega arith)

again : tie.Need-loop-k-preserved invariant_loop2 decreases_loop2 invariant_loop decreases_loop
again c =
    let bits = c.requires in
    let inv = c.loop-k.invariant in
    let count = c.count_from-count.ensures in (
      inv.0,
      omega arith,
      planes_more bits _ _ inv.0 _ _ _ _ refl (omega (arith, count.0)) refl
          (plane_digit bits _ _ _ inv.0 (omega (arith, count.1))) inv.2,
    )

next : tie.Need-loop-l-preserved invariant_loop2 decreases_loop2 invariant_loop decreases_loop
next c =
    let bits = c.requires in
    let inv = c.loop-k.invariant in
    let count = c.count_from-count.ensures in (
      omega arith,
      planes_next bits _ _ inv.0 _ _ refl count.0 (stretch_rest bits _ _ _ _ inv.0 count.2)
          (over_at 5040 _ _ inv.2 _ (omega arith)),
    )

pub planes_of_spec : {M : Type 1} → statement M
planes_of_spec =
    tie.close (tie.spec invariant_loop2 decreases_loop2 invariant_loop decreases_loop (λ c. some_bits c.requires)
    (λ c. omega (arith, some_bits c.requires))
    (λ c. let few = small c.requires 0 (some_bits c.requires) in omega (arith, few.least))
    (λ c. (omega arith, planes_none _ _ _ (omega arith)))
    (λ c. let few = small c.requires c.loop-l.l (omega arith) in
    omega (arith, few.delay))
    (λ c κs. tt)
    (λ c. (omega arith, omega arith, over_at 5040 _ _ c.loop-l.invariant.1 _ (omega arith)))
    (λ c. let few = here c in omega arith)
    (λ c. let count = c.count_from-count.ensures.1 in omega arith)
    (λ c. let few = here c.before in omega arith) (λ c. omega arith)
    (λ c. let few = here c.before in omega arith) (λ c. let few = here c.before in omega arith)
    (λ c. let few = here c.before in omega arith) (λ c. let few = here c.before in omega arith)
    (λ c. let few = here c.before in omega arith) (λ c. let few = here c.before in omega arith)
    (λ c. omega arith) again
    (λ c. let few = small c.requires
    c.loop-l.l (omega arith) in omega arith)
    (λ c. omega arith) next
    (λ c. planes_all c.requires _ _ _ refl (omega arith) c.loop-l.invariant.1))
