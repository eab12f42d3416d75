-- `received_bits::held::planes_held` meets its contract. The invariant: the planes below l, and of plane l the rows
-- below k, are stored; the rest is 2.
use mathlib.Core.Path.{refl}
use Prim.Native.Nat.{◌+◌, ◌-◌, ◌*◌, ◌/◌, ◌<◌, ◌≤◌}
use native.Mathlib.Omega.{arith}
use Rattle.lists.proofs.FillOver.{over_at}
use Rattle.received_bits.specs.Received.{last_digit}
use Rattle.received_bits.proofs.Places.{some_bits, Small, small}
use Rattle.received_bits.proofs.PlaneFilling.{Planes, planes_none, planes_more, planes_next, planes_all}
use Rattle.received_bits.proofs.HeldLaws.{held_fits_is, known_few, row_inside, row_behind, last_none}
use Rattle.received_bits.proofs.held.planes_held.Statement.{statement}
use Rattle.received_bits.proofs.held.planes_held.Tie as tie

abbrev invariant_loop2 : tie.invariant-loop-k
invariant_loop2 v lead count held lines carriers rows known planes₀ l k₀ planes k =
    (l < v) × (k ≤ known) × Planes v (last_digit v lead count held lines carriers) (rows * l + k) planes

abbrev decreases_loop2 : tie.decreases-loop-k
decreases_loop2 v lead count held lines carriers rows known planes₀ l k₀ planes k = known - k

abbrev invariant_loop : tie.invariant-loop-l
invariant_loop v lead count held lines carriers rows known planes₀ l₀ planes l =
    (l ≤ v) × Planes v (last_digit v lead count held lines carriers) (rows * l) planes

abbrev decreases_loop : tie.decreases-loop-l
decreases_loop v lead count held lines carriers rows known planes₀ l₀ planes l = v - l

-- What holds in a turn of the inner loop: how large its numbers are, and that its digit is inside.
here : (c : tie.In-loop-k invariant_loop2 decreases_loop2 invariant_loop decreases_loop)
    → let a = c.args in
    let l = c.loop-l.l in
    Small a.v l × ((a.lead + a.count) / a.v + 120 ≤ 3360 / a.v) × (a.lead + a.count + 120 * a.v ≤ 3360)
    × (c.loop-k.k * a.v + l < a.lead + a.count + 120 * a.v)
here c =
    let asked = c.requires in
    let fits = held_fits_is _ _ _ asked.1 in (
      small asked.0 _ (omega arith),
      known_few asked.0 _ _ fits,
      fits.room,
      row_inside asked.0 _ _ _ fits.whole (omega arith) (omega arith),
    )

again : tie.Need-loop-k-preserved invariant_loop2 decreases_loop2 invariant_loop decreases_loop
again c =
    let inv = c.loop-k.invariant in
    let t = here c.before in (
      inv.0,
      omega arith,
      planes_more c.requires.0 _ _ inv.0 _ _ _ _ refl
          (omega (arith, t.1)) refl c.last_digit.ensures inv.2,
    )

next : tie.Need-loop-l-preserved invariant_loop2 decreases_loop2 invariant_loop decreases_loop
next c =
    let asked = c.requires in
    let fits = held_fits_is _ _ _ asked.1 in (
      omega arith,
      planes_next asked.0 _ _ c.loop-k.invariant.0 _ _ refl (known_few asked.0 _ _ fits)
          (λ i low high. last_none _ _ _ _ _ _ _ (row_behind asked.0 _ i _ low fits.whole))
          (over_at 5040 _ _ c.loop-k.invariant.2 _ (omega arith)),
    )

pub planes_held_spec : {M : Type 1} → statement M
planes_held_spec =
    tie.close (tie.spec invariant_loop2 decreases_loop2 invariant_loop decreases_loop (λ c. some_bits c.requires.0)
    (λ c. let fits = held_fits_is _ _ _ c.requires.1 in omega (arith, fits.room))
    (λ c. some_bits c.requires.0)
    (λ c. let known = known_few c.requires.0 _ _ (held_fits_is _ _ _ c.requires.1) in
    let few = (small c.requires.0 0 (some_bits c.requires.0)).rows in
    omega arith)
    (λ c. (omega arith, planes_none _ _ _ (omega arith)))
    (λ c. (omega arith, omega arith, over_at 5040 _ _ c.loop-l.invariant.1 _ (omega arith)))
    (λ c. let t = here c in omega arith) (λ c. let t = here c in omega arith)
    (λ c κs. let asked = c.requires in (asked.0, asked.1, (here c).3))
    (λ c. let t = here c.before in omega arith) (λ c. let t = here c.before in omega arith)
    (λ c. let t = here c.before in omega arith) (λ c. let t = here c.before in omega arith)
    (λ c. omega arith) again
    (λ c. let few = small c.requires.0 c.loop-l.l
    (omega arith) in omega (arith, few.most))
    (λ c. omega arith) next
    (λ c. planes_all c.requires.0 _ _ _ refl (omega arith) c.loop-l.invariant.1))
