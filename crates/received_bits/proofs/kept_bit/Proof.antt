-- `received_bits::kept_bit` meets its contract.
use Prim.Native.Nat.{◌+◌, ◌-◌, ◌*◌, ◌/◌, ◌%◌, ◌<◌}
use native.Mathlib.Omega.{arith}
use lib.ListN.{length}
use borrow.Author.Rules.{rules}
use Rattle.received_bits.proofs.LastWord.{Bit, bit_of, bit_is}
use Rattle.received_bits.proofs.kept_bit.Statement.{statement}
use Rattle.received_bits.proofs.kept_bit.Tie as tie

bit : (c : tie.Start) → Bit c.args.v c.args.c
bit c = bit_of c.requires.0 c.args.c

inside : (c : tie.Start)
    → c.args.c / c.args.v + c.args.c % c.args.v * (120 / (c.args.v - 1)) < length c.args.carriers.now
inside c = let delay = (bit c).delay in let room = c.requires.1 in omega (arith, delay, room)

pub kept_bit_spec : {M : Type 1} → statement M
kept_bit_spec =
    tie.close (tie.spec (λ c. let some = (bit c).some in omega (arith, some))
    (λ c. let some = (bit c).some in omega (arith, some)) (λ c. let some = (bit c).some in omega (arith, some))
    (λ c. let some = (bit c).some in omega (arith, some))
    (λ c. let delay = (bit c).delay in omega (arith, delay))
    (λ c. let all = inside c in let delay = (bit c).delay in omega (arith, all, delay))
    (λ c. inside c.before) (λ c. let some = (bit c.before).some in omega (arith, some))
    (λ c. let line = (bit c.before).line in omega (arith, line)) (λ c. search rules)
    (λ c. let few = (bit c.before).few in omega (arith, few)) (λ c. bit_is _ _ _ (inside c.before)))
