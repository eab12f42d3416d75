-- The fewest disagreements of two registers are at most 12 apart: after six bits the registers are one, and each step
-- differs by 2 at most.
--     miss_bound, there_bound      of one digit
--     differ_bound                 of a pair
--     near                         the fewest disagreements of two registers
use mathlib.Core.Path.{◌≡◌}
use mathlib.Core.Bool.{Bool, true, false, cond}
use mathlib.Core.List.{List, [], ◌∷◌}
use Prim.Native.Nat.{ℕ, zero, suc, ◌+◌, ◌*◌, ◌/◌, ◌%◌, ◌≤◌, ◌<◌}
use native.Mathlib.Omega.{arith}
use lib.Dec.{eqb, ltb}
use Rattle.fewest.specs.Best.{seven, next, sent_x, sent_y, miss, differ, least}
use Rattle.fewest.proofs.Flips.{there}

miss_cond : (p q : Bool) → cond p (cond q 0 1) 0 ≤ 1
miss_cond true true = omega arith
miss_cond true false = omega arith
miss_cond false q = omega arith

pub miss_bound : (digit sent_bit : ℕ) → miss digit sent_bit ≤ 1
miss_bound digit sent_bit = unfold miss in miss_cond (ltb digit 2) (eqb digit sent_bit)

there_cond : (p : Bool) → cond p 1 0 ≤ 1
there_cond true = omega arith
there_cond false = omega arith

pub there_bound : (digit : ℕ) → there digit ≤ 1
there_bound digit = unfold there in there_cond (ltb digit 2)

pub differ_bound : (pair register : ℕ) (b : Bool) → differ pair register b ≤ 2
unfolding differ
differ_bound pair register b =
    omega (arith, miss_bound (pair / 3) (sent_x register b), miss_bound (pair % 3) (sent_y register b))

-- the registers are one after some bits, whatever these are
abbrev Merge : ℕ → ℕ → ℕ → Type 0
Merge zero r s = r ≡ s
Merge (suc j) r s = (b : Bool) → Merge j (next r b) (next s b)

spread : (j : ℕ) (pairs : List ℕ) (r s : ℕ) → Merge j r s → least pairs r ≤ least pairs s + 2 * j
unfolding least
spread zero pairs r s e = rw e (omega arith)
spread (suc j) [] r s f = omega arith
spread (suc j) (pair ∷ pairs) r s f =
    omega (
      arith,
      differ_bound pair r false,
      differ_bound pair r true,
      spread j pairs (next r false) (next s false) (f false),
      spread j pairs (next r true) (next s true) (f true),
    )

merge1 : (r s : ℕ) → r / 2 ≡ s / 2 → Merge 1 r s
merge1 r s e b = unfold next seven in omega arith

merge2 : (r s : ℕ) → r / 4 ≡ s / 4 → Merge 2 r s
merge2 r s e b = unfold next seven in merge1 (next r b) (next s b) (omega arith)

merge3 : (r s : ℕ) → r / 8 ≡ s / 8 → Merge 3 r s
merge3 r s e b = unfold next seven in merge2 (next r b) (next s b) (omega arith)

merge4 : (r s : ℕ) → r / 16 ≡ s / 16 → Merge 4 r s
merge4 r s e b = unfold next seven in merge3 (next r b) (next s b) (omega arith)

merge5 : (r s : ℕ) → r / 32 ≡ s / 32 → Merge 5 r s
merge5 r s e b = unfold next seven in merge4 (next r b) (next s b) (omega arith)

merge6 : (r s : ℕ) → r / 64 ≡ s / 64 → Merge 6 r s
merge6 r s e b = unfold next seven in merge5 (next r b) (next s b) (omega arith)

pub near : (pairs : List ℕ) (r s : ℕ) → r < 64 → s < 64 → least pairs r ≤ least pairs s + 12
near pairs r s hr hs = spread 6 pairs r s (merge6 r s (omega arith))
