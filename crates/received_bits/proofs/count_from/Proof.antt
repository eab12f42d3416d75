-- `received_bits::count_from` meets its contract.
use mathlib.Core.Path.{refl}
use mathlib.Core.Logic.{inl, inr}
use native.Mathlib.Omega.{arith}
use Rattle.received_bits.proofs.count_from.Statement.{statement}
use Rattle.received_bits.proofs.count_from.Tie as tie

pub count_from_spec : {M : Type 1} → statement M
count_from_spec =
    tie.close (tie.spec (λ c. (omega arith, omega arith, inr (omega arith)))
    (λ c. (omega arith, omega arith, inr refl)) (λ c. (omega arith, omega arith, inl refl)))
