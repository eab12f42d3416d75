-- Rule 6, bit interleaving: which bit of which carrier a kept bit is. v is the number of bits of a carrier: 2, 4 or 6.
--     line_of, line_delay, delay_of, carrier_of    the line of a kept bit, the delay of a line, the carrier of a kept
--                                                  bit
--     wait_of                                      how long a line waits going back
--     first_entry, used_lines                      where a line begins in the entries, and how many entries the lines
--                                                  have
--     lines_at_start                               the entries at the start
--     line_bit, carrier_at                         what a line shows on a carrier, and the carrier
--     in_sizes, in_lines, lines_after              the entries after a frame
--     carriers_in_range                            every carrier is below 2^v
--     entry_after, lines_waiting                   going back, the entries after a frame
-- `lines` is the 360 entries at the start of a frame, and `kept c` is kept bit c of the frame.
use Rattle.std.specs.Prelude.{Bool, cond, List, ◌++◌, ℕ, ◌+◌, ◌-◌, ◌*◌, ◌/◌, ◌%◌, ◌^◌, ltb, get_or, replicate, length}
use Rattle.lists.specs.Binary.{binary, bit_of}
use Rattle.lists.specs.Tab.{piece_start, pieces}
use Rattle.lists.specs.Tests.{all_below}

-- "Kept bit c of the frame goes to line c mod v."
abbrev pub line_of : ℕ → ℕ → ℕ
line_of v c = c % v

-- ".. (c mod v) × 120/(v−1)": line l delays by l × 120/(v−1) carriers
unfoldable pub line_delay : ℕ → ℕ
line_delay v = 120 / (v - 1)

abbrev pub delay_of : ℕ → ℕ → ℕ
delay_of v l = l * line_delay v

-- "Its carrier is c divided by v, rounded down, plus (c mod v) × 120/(v−1)."
unfoldable pub carrier_of : ℕ → ℕ → ℕ
carrier_of v c = c / v + delay_of v (line_of v c)

-- "The line delays are made up to 120 carriers in all": going back, line l waits for the rest
unfoldable pub wait_of : ℕ → ℕ → ℕ
wait_of v l = 120 - delay_of v l

-- "360 entries of 0 or 1 for the bit lines (line 1 first, oldest first, the rest zero)": where the entries of line l
-- begin. It has as many as its delay, so that line 0 has none.
abbrev pub first_entry : ℕ → ℕ → ℕ
first_entry v = piece_start (delay_of v)

-- "The lines are empty at the start: bit 0."
unfoldable pub lines_at_start : List ℕ
lines_at_start = replicate 360 0

-- What line l shows on carrier k: first its entries, then the kept bits that go to it.
unfoldable pub line_bit : ℕ → List ℕ → (ℕ → ℕ) → ℕ → ℕ → ℕ
line_bit v lines kept k l =
    cond (ltb k (delay_of v l)) (get_or lines (first_entry v l + k) 0) (kept ((k - delay_of v l) * v + l))

-- "A carrier value is one byte below 2^v. Bit line 0 is the highest of its v bits."
unfoldable pub carrier_at : ℕ → List ℕ → (ℕ → ℕ) → ℕ → ℕ
carrier_at v lines kept k = binary v (line_bit v lines kept k)

-- 360 entries, line by line, "oldest first, the rest zero", `sizes l` being how many line l has and `entry l e` its
-- entry e
unfoldable pub in_sizes : (ℕ → ℕ) → ℕ → (ℕ → ℕ → ℕ) → List ℕ
in_sizes sizes v entry = pieces sizes entry v ++ replicate (360 - piece_start sizes v) 0

-- "(line 1 first, oldest first, the rest zero)"
unfoldable pub in_lines : ℕ → (ℕ → ℕ → ℕ) → List ℕ
in_lines v entry = in_sizes (delay_of v) v entry

-- "What runs past the frame's end is in the state and comes out in the next frame": entry e of line l is what the
-- line would show on the e-th carrier after the frame's.
unfoldable pub lines_after : ℕ → List ℕ → (ℕ → ℕ) → ℕ → List ℕ
lines_after v lines kept carriers = in_lines v (λ l e. line_bit v lines kept (carriers + e) l)

-- Entry e of line l after 120 symbols, or carriers; `sizes l` is how many entries line l has.
unfoldable pub entry_after : (ℕ → ℕ) → ℕ → List ℕ → ℕ → ℕ → ℕ
entry_after sizes v history l e = bit_of v (get_or history (120 - sizes l + e) 0) l

-- Going back: the entries after a frame with these last 120 carriers.
unfoldable pub lines_waiting : ℕ → List ℕ → List ℕ
lines_waiting v last = in_sizes (wait_of v) v (entry_after (wait_of v) v last)

unfoldable pub carriers_in_range : ℕ → List ℕ → Bool
carriers_in_range v carriers = all_below (length carriers) (λ k. ltb (get_or carriers k 0) (2 ^ v))

-- line l holds l × 120/(v−1) bits, so the lines 1 to v − 1 hold 60 × v
abbrev pub used_lines : ℕ → ℕ
used_lines v = 60 * v
