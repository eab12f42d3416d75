-- `bit_interleaver::history_by` meets its contract. The invariant: the symbols below i.
use Prim.Native.Nat.{◌-◌, ◌≤◌}
use native.Mathlib.Omega.{arith}
use Rattle.lists.specs.Binary.{binary}
use Rattle.lists.proofs.Fill.{Fill, fill_new, fill_more, fill_all}
use Rattle.bit_interleaver.specs.Symbols.{history_bit}
use Rattle.bit_interleaver.proofs.history_by.Statement.{statement}
use Rattle.bit_interleaver.proofs.history_by.Tie as tie

abbrev invariant_loop : tie.invariant-loop-i
invariant_loop v delay lines out₀ i₀ out i = (i ≤ 120) × Fill 120 (λ k. binary v (history_bit v lines k)) i out

abbrev decreases_loop : tie.decreases-loop-i
decreases_loop v delay lines out₀ i₀ out i = 120 - i

loop_again : tie.Need-loop-i-preserved invariant_loop decreases_loop
loop_again c =
    (omega arith, fill_more 120 _ c.loop-i.invariant.1 (omega arith) _ c.history_symbol.ensures)

pub history_by_spec : {M : Type 1} → statement M
history_by_spec =
    tie.close (tie.spec invariant_loop decreases_loop (λ c. (omega arith, fill_new 120 _))
    (λ c κs. (c.requires.0, omega arith, c.requires.1)) (λ c. omega arith)
    (λ c. omega arith) (λ c. omega arith) loop_again
    (λ c. fill_all 120 _ c.loop-i.invariant.1 (omega arith)))
