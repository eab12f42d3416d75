-- `received_bits::bytes_of` meets its contract. The invariant: the bytes below j.
use Prim.Native.Nat.{◌≤◌, ◌-◌}
use native.Mathlib.Omega.{arith}
use Rattle.lists.proofs.Fill.{Fill, fill_new, fill_more, fill_all}
use Rattle.rules.specs.Back.{message_byte, message_bytes}
use Rattle.received_bits.proofs.bytes_of.Statement.{statement}
use Rattle.received_bits.proofs.bytes_of.Tie as tie

abbrev invariant_loop : tie.invariant-loop-j
invariant_loop bits out₀ j₀ out j = (j ≤ 204) × Fill 204 (message_byte bits) j out

abbrev decreases_loop : tie.decreases-loop-j
decreases_loop bits out₀ j₀ out j = 204 - j

pub bytes_of_spec : {M : Type 1} → statement M
bytes_of_spec =
    tie.close (tie.spec invariant_loop decreases_loop (λ c. (omega arith, fill_new 204 _)) (λ c κs. omega arith)
    (λ c. omega arith) (λ c. omega arith) (λ c. omega arith)
    (λ c. (omega arith, fill_more 204 _ c.loop-j.invariant.1 (omega arith) _ c.byte_of.ensures))
    (λ c. unfold message_bytes in fill_all 204 _ c.loop-j.invariant.1 (omega arith)))
