-- `word_coder::symbols_by` meets its contract. The invariant: the symbols of the blocks below s, and of block s those
-- below q, stand at their places.
use mathlib.Core.Path.{refl}
use Prim.Native.Nat.{◌+◌, ◌*◌, ◌-◌, ◌<◌, ◌≤◌}
use native.Mathlib.Omega.{arith}
use lib.ListN.{get_or}
use borrow.Author.Rules.{rules}
use Rattle.lists.proofs.FillOver.{over_at}
use Rattle.word_coder.proofs.Numbers.{place_inside}
use Rattle.word_coder.proofs.Placing.{Placing, all_placed, placing_none, placing_more, placing_next, placing_all}
use Rattle.word_coder.proofs.symbols_by.Statement.{statement}
use Rattle.word_coder.proofs.symbols_by.Tie as tie

abbrev invariant_loop2 : tie.invariant-loop-q
invariant_loop2 kept blocks v each history symbols₀ s q₀ symbols q =
    (s < blocks) × (q ≤ each) × Placing (λ s. get_or kept s 0) blocks v history (each * s + q) symbols

abbrev decreases_loop2 : tie.decreases-loop-q
decreases_loop2 kept blocks v each history symbols₀ s q₀ symbols q = each - q

abbrev invariant_loop : tie.invariant-loop-s
invariant_loop kept blocks v each history symbols₀ s₀ symbols s =
    (s ≤ blocks) × Placing (λ s. get_or kept s 0) blocks v history (each * s) symbols

abbrev decreases_loop : tie.decreases-loop-s
decreases_loop kept blocks v each history symbols₀ s₀ symbols s = blocks - s

-- the place that is written
inside : tie.Need-bounds-symbols-each invariant_loop2 decreases_loop2 invariant_loop decreases_loop
inside c =
    let at = c.loop-q in
    omega (arith, place_inside _ _ _ _ _ c.requires.0 c.requires.2 at.invariant.0 c.loop-q-test.true)

loop2_again : tie.Need-loop-q-preserved invariant_loop2 decreases_loop2 invariant_loop decreases_loop
loop2_again c =
    let at = c.loop-q in (
      at.invariant.0,
      omega arith,
      placing_more _ _ _ _ _ _ _ _ _ c.requires.2 at.invariant.0 (omega arith) (omega (arith, inside c)) refl
          c.symbol.ensures at.invariant.2,
    )

pub symbols_by_spec : {M : Type 1} → statement M
symbols_by_spec =
    tie.close (tie.spec invariant_loop2 decreases_loop2 invariant_loop decreases_loop (λ c κs. search rules)
    (λ c. (omega arith, placing_none _ _ _ _ _ (omega arith) c.with_history-symbols.ensures))
    (λ c. let at = c.loop-s in
    (omega arith, omega arith, over_at 1760 _ _ at.invariant.1 _ (omega arith)))
    (λ c. let few = c.requires.0 in omega (arith, few))
    (λ c. let few = c.requires.0 in omega (arith, few))
    (λ c κs. (c.requires.1, omega (arith, c.requires.2)))
    (λ c. omega (arith, inside c)) (λ c. omega (arith, inside c)) (λ c. omega (arith, inside c)) inside
    (λ c. omega arith) (λ c. omega arith) loop2_again
    (λ c. let few = c.requires.0 in omega (arith, few))
    (λ c. omega arith)
    (λ c. let at = c.loop-q in (omega arith, placing_next _ _ _ _ _ _ _ (omega arith) at.invariant.2))
    (λ c. let at = c.loop-s in
    placing_all _ _ _ _ at.invariant.1 (all_placed _ _ _ _ c.requires.2 (omega arith))))
