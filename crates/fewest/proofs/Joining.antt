-- How few disagreements with a word received as it was sent a message may have, by whether at bit 48 it has come to the
-- register of the message sent.
--     settled_at, ahead                  48 bits, and 52 more
--     none, only_same, but_same, free    what the registers at the end count
--     joining                            at bit 48 the registers are the same
--     onward, astray                     at bit 48 they differ; it goes on for 52 bits more
--     fewer, joins                       the first are fewer
--     pattern_joins                      computed for each rate, from its pattern's start on
use mathlib.Core.Bool.{Bool}
use mathlib.Core.List.{List, [], ◌∷◌}
use Prim.Native.Nat.{ℕ, suc, ◌+◌, min}
use native.Mathlib.Omega.{arith}
use lib.Count.{ones}
use lib.Dec.{T, ltb}
use lib.ListN.{get_or}
use Rattle.lists.specs.Tab.{tab}
use Rattle.lists.proofs.Every.{every, at}
use Rattle.settings.specs.Patterns.{Kept, pattern_length}
use Rattle.settings.proofs.LegalSettings.{LegalRate, half, two_thirds, three_quarters, five_sixths, seven_eighths}
use Rattle.rules.specs.Code.{parity}
use Rattle.rules.specs.Puncturing.{pattern_at}
use Rattle.fewest.specs.Best.{seven, sent_x, sent_y}
use Rattle.fewest.proofs.Rows.{two_by_two, step_back, rows}

abbrev pub settled_at : ℕ
settled_at = 48

abbrev pub ahead : ℕ
ahead = 52

-- more than any message has: a path that counts so much is none
abbrev pub none : ℕ
none = 1000

-- at the end the registers must be the same
unfoldable pub only_same : List ℕ
only_same = 0 ∷ tab 63 (λ e. none)

-- at the end they must not, and each other one counts what the row says
abbrev pub but_same : List ℕ → List ℕ
but_same [] = []
but_same (same ∷ others) = none ∷ others

unfoldable pub free : List ℕ
free = tab 64 (λ e. 0)

unfoldable pub joining : (ℕ → Kept) → List ℕ
joining kept = rows kept settled_at only_same

-- it goes on for so many bits at least
unfoldable pub onward : (ℕ → Kept) → List ℕ
onward kept = rows (λ i. kept (settled_at + i)) ahead free

unfoldable pub astray : (ℕ → Kept) → List ℕ
astray kept = rows kept settled_at (but_same (onward kept))

-- at each register with which the two may begin
unfoldable pub fewer : List ℕ → List ℕ → Bool
fewer few many = every (λ e. ltb (get_or few e 0) (min none (get_or many e 0))) 64

abbrev pub joins : (ℕ → Kept) → Bool
joins kept = fewer (joining kept) (astray kept)

-- rates are counted from 1
joins_all : T (every (λ i. joins (pattern_at (suc i))) 5)
joins_all =
    unfold fewer joining astray onward only_same free rows step_back two_by_two tab seven sent_x sent_y parity ones
    pattern_at
    pattern_length in tt

pub pattern_joins : {rate : ℕ} → LegalRate rate → T (joins (pattern_at rate))
pattern_joins half = at (λ i. joins (pattern_at (suc i))) 5 joins_all 0 (omega arith)
pattern_joins two_thirds = at (λ i. joins (pattern_at (suc i))) 5 joins_all 1 (omega arith)
pattern_joins three_quarters = at (λ i. joins (pattern_at (suc i))) 5 joins_all 2 (omega arith)
pattern_joins five_sixths = at (λ i. joins (pattern_at (suc i))) 5 joins_all 3 (omega arith)
pattern_joins seven_eighths = at (λ i. joins (pattern_at (suc i))) 5 joins_all 4 (omega arith)
