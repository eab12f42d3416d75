-- `bit_interleaver::lines_by` meets its contract. The invariant: the lines below l, and of line l the entries before
-- e, hold their bits.
use mathlib.Core.Path.{◌≡◌, refl}
use Prim.Native.Nat.{◌+◌, ◌-◌, ◌<◌, ◌≤◌}
use native.Mathlib.Omega.{arith}
use lib.ListN.{replicate}
use Rattle.lists.specs.Tab.{piece_start}
use Rattle.lists.proofs.FillOver.{Over, over_at}
use Rattle.rules.proofs.Entries.{sizes_of, size_fits}
use Rattle.bit_interleaver.proofs.Laying.{entries_at, laid_none, laid_more, laid_all}
use Rattle.bit_interleaver.proofs.lines_by.Statement.{statement}
use Rattle.bit_interleaver.proofs.lines_by.Tie as tie

abbrev invariant_loop2 : tie.invariant-loop-e
invariant_loop2 back v delay history out₀ at l size e₀ out e =
    (l < v) × (at ≡ piece_start (sizes_of back v) l) × (size ≡ sizes_of back v l) × (e ≤ size)
    × Over 360 (entries_at (sizes_of back v) v history) (replicate 360 0) (at + e) out

abbrev decreases_loop2 : tie.decreases-loop-e
decreases_loop2 back v delay history out₀ at l size e₀ out e = size - e

abbrev invariant_loop : tie.invariant-loop-l
invariant_loop back v delay history out₀ at₀ l₀ out at l =
    (l ≤ v) × (at ≡ piece_start (sizes_of back v) l)
    × Over 360 (entries_at (sizes_of back v) v history) (replicate 360 0) at out

abbrev decreases_loop : tie.decreases-loop-l
decreases_loop back v delay history out₀ at₀ l₀ out at l = v - l

-- the symbol that is read
short : tie.Need-overflow_sub-size invariant_loop2 decreases_loop2 invariant_loop decreases_loop
short c =
    let fits = size_fits _ _ _ c.loop-l.l c.requires.1
    c.size_of-size.ensures (omega arith) in
    omega arith

-- the place that is written
inside : tie.Need-bounds-out-at invariant_loop2 decreases_loop2 invariant_loop decreases_loop
inside c =
    let fits = size_fits _ _ _ c.loop-l.l c.requires.1
    c.size_of-size.ensures (omega arith) in
    omega arith

loop2_again : tie.Need-loop-e-preserved invariant_loop2 decreases_loop2 invariant_loop decreases_loop
loop2_again c =
    let at = c.loop-e in
    let fits = size_fits _ _ _ c.loop-l.l c.requires.1
    c.size_of-size.ensures (omega arith) in (
      at.invariant.0,
      at.invariant.1,
      at.invariant.2,
      omega arith,
      laid_more _ _ _ _ _ at.invariant.4 at.invariant.0 at.invariant.1 fits.is (omega arith) (omega arith) _
          c.bit_of.ensures,
    )

pub lines_by_spec : {M : Type 1} → statement M
lines_by_spec =
    tie.close (tie.spec invariant_loop2 decreases_loop2 invariant_loop decreases_loop
    (λ c. unfold piece_start in (omega arith, refl, laid_none _ _ _))
    (λ c κs. (c.requires.0, omega arith, c.requires.1))
    (λ c. let at = c.loop-l in
    (omega arith, at.invariant.1, c.size_of-size.ensures, omega arith, over_at 360 _ _ at.invariant.2 _ (omega arith)))
    short (λ c. omega (arith, short c)) (λ c. omega (arith, short c.before)) (λ c. omega arith) (λ c. omega arith)
    (λ c κs. omega (arith, c.requires.1.few))
    (λ c. omega (arith, inside c)) inside (λ c. omega (arith, inside c)) (λ c. omega arith) loop2_again
    (λ c. let fits = size_fits _ _ _ c.loop-l.l c.requires.1
    c.size_of-size.ensures (omega arith) in
    omega arith)
    (λ c. omega arith) (λ c. omega arith)
    (λ c. let at = c.loop-e in
    let fits = size_fits _ _ _ c.loop-l.l c.requires.1
    c.size_of-size.ensures (omega arith) in
    (omega arith, omega arith, over_at 360 _ _ at.invariant.4 _ (omega arith)))
    (λ c. let at = c.loop-l in
    laid_all _ _ _ _ at.invariant.2 at.invariant.1 (omega arith) c.requires.1.room))
