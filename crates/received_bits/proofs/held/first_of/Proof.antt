-- `received_bits::held::first_of` meets its contract. The invariant: the entries of the lines below i.
use mathlib.Core.Path.{◌≡◌, ◌∙◌, ap}
use Prim.Native.Nat.{◌-◌, ◌≤◌}
use native.Mathlib.Omega.{arith}
use Rattle.lists.specs.Tab.{piece_start}
use Rattle.rules.specs.Bits.{wait_of}
use Rattle.received_bits.proofs.Places.{small}
use Rattle.received_bits.proofs.HeldLaws.{first_none, first_more, first_most}
use Rattle.received_bits.proofs.held.first_of.Statement.{statement}
use Rattle.received_bits.proofs.held.first_of.Tie as tie

abbrev invariant_loop : tie.invariant-loop-i
invariant_loop v l first₀ i₀ first i = (i ≤ l) × (first ≡ piece_start (wait_of v) i)

abbrev decreases_loop : tie.decreases-loop-i
decreases_loop v l first₀ i₀ first i = l - i

least : tie.Need-nonzero_div-first invariant_loop decreases_loop
least c = let least = (small c.requires.0 _ c.requires.1).least in omega arith

delay : tie.Need-overflow_sub-first-in-loop-i invariant_loop decreases_loop
delay c =
    let few = c.requires.1 in
    (small c.requires.0 c.loop-i.i (omega arith)).delay

add_first : tie.Need-overflow_add-first invariant_loop decreases_loop
add_first c =
    let most = first_most c.args.v c.loop-i.i in
    let few = (small c.requires.0 _ c.requires.1).most in
    let below = c.requires.1 in
    let is = c.loop-i.invariant.1 in
    omega arith

pub first_of_spec : {M : Type 1} → statement M
first_of_spec =
    tie.close (tie.spec invariant_loop decreases_loop (λ c. (omega arith, first_none _))
    (λ c. omega (arith, least c)) least
    (λ c. omega (arith, delay c)) delay add_first (λ c. omega arith) (λ c. omega arith)
    (λ c. (omega arith, first_more _ _ _ c.loop-i.invariant.1))
    (λ c. c.loop-i.invariant.1 ∙ ap (piece_start (wait_of _)) (omega arith)))
