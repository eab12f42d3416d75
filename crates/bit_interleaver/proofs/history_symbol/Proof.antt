-- `bit_interleaver::history_symbol` meets its contract. The invariant: the digits of the lines below l.
use mathlib.Core.Path.{◌≡◌, refl}
use Prim.Native.Nat.{◌-◌, ◌≤◌}
use mathlib.Core.Bool.{false}
use native.Mathlib.Omega.{arith}
use Rattle.lists.specs.Binary.{binary}
use Rattle.lists.specs.Tab.{piece_start}
use Rattle.rules.specs.Bits.{first_entry}
use Rattle.bit_interleaver.specs.Symbols.{history_bit}
use Rattle.rules.proofs.Entries.{size_fits, same_size}
use Rattle.bit_interleaver.proofs.Histories.{bit_small, history_small, history_none, history_more, history_all}
use Rattle.bit_interleaver.proofs.history_symbol.Statement.{statement}
use Rattle.bit_interleaver.proofs.history_symbol.Tie as tie

abbrev invariant_loop : tie.invariant-loop-l
invariant_loop v delay lines i symbol₀ at₀ l₀ symbol at l =
    (l ≤ v) × (at ≡ first_entry v l) × (symbol ≡ binary l (history_bit v lines i))

abbrev decreases_loop : tie.decreases-loop-l
decreases_loop v delay lines i symbol₀ at₀ l₀ symbol at l = v - l

add_symbol : tie.Need-overflow_add-symbol invariant_loop decreases_loop
add_symbol c =
    let few = c.requires.2.few in
    omega (
      arith,
      history_small _ _ _ _ c.loop-l.invariant.2 (omega arith),
      bit_small _ _ _ _ c.history_bit.ensures,
    )

fits_at : tie.Need-overflow_add-at invariant_loop decreases_loop
fits_at c =
    let fits = size_fits false _ _ c.loop-l.l c.requires.2 (same_size _ _ _ c.requires.0)
    (omega arith) in
    omega arith

pub history_symbol_spec : {M : Type 1} → statement M
history_symbol_spec =
    tie.close (tie.spec invariant_loop decreases_loop (λ c. unfold piece_start in
    (omega arith, refl, history_none _ _ _))
    (λ c. let few = c.requires.2.few in
    omega (arith, history_small _ _ _ _ c.loop-l.invariant.2 (omega arith)))
    (λ c. let fits =
    size_fits false _ _ c.loop-l.l c.requires.2 (same_size _ _ _ c.requires.0) (omega arith) in
    omega arith)
    (λ c κs. let fits =
    size_fits false _ _ c.loop-l.l c.requires.2 (same_size _ _ _ c.requires.0) (omega arith) in
    (omega arith, omega arith, omega arith))
    add_symbol (λ c. omega (arith, fits_at c)) fits_at (λ c. omega arith) (λ c. omega arith)
    (λ c. let at = c.loop-l in
    let fits = size_fits false _ _ at.l c.requires.2 (same_size _ _ _ c.requires.0) (omega arith) in
    (omega arith, omega arith, history_more _ _ _ _ at.invariant.1 fits.is at.invariant.2 c.history_bit.ensures))
    (λ c. let at = c.loop-l in history_all _ _ _ _ at.invariant.2 (omega arith)))
