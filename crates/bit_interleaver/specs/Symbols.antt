-- Rule 6 by symbols. Symbol s is the v kept bits v × s, .., v × s + v − 1 as a number, the first one highest, so that
-- carrier k takes line l from symbol k − l × 120/(v−1). The entries of the lines are the 120 symbols in front of a
-- frame.
--     legal           v is 2, 4 or 6
--     carrier_from    the carrier of symbol j of a run with the 120 symbols before it in front
--     written_at, written, room_for,
--     placed, add_placed                  some carriers written, or added, from a run
--     made, put_by              both in one
--     entry_before, history_bit,
--     history_of, entries_of    the entries as symbols, and back
--     waiting_of                the entries going back
--     symbol_of                 a symbol of 24 kept bits
--     symbol_at                 the symbols of a frame, the 120 before it in front
use Rattle.std.specs.Prelude.{Bool, cond, ◌&&◌, ◌||◌, List, ℕ, ◌+◌, ◌-◌, ◌*◌, ◌/◌, ◌%◌, ◌^◌, eqb, leb, ltb, length, get_or, replicate}
use Rattle.std.specs.Int.Bits.{bit_xor}
use Rattle.lists.specs.Binary.{binary, bit_of}
use Rattle.lists.specs.Tab.{tab}
use Rattle.rules.specs.Bits.{delay_of, first_entry, in_lines, lines_waiting}

-- v is 2, 4 or 6
unfoldable pub legal : ℕ → Bool
legal v = eqb v 2 || eqb v 4 || eqb v 6

-- The carrier of symbol j of a run. Symbol j stands at place 120 + j.
unfoldable pub carrier_from : ℕ → List ℕ → ℕ → ℕ
carrier_from v symbols j = binary v (λ l. bit_of v (get_or symbols (120 + j - delay_of v l) 0) l)

-- `count` carriers from `first` on made of what they were and of the run's carriers; the others stay.
unfoldable pub written_at : (ℕ → ℕ → ℕ) → ℕ → List ℕ → ℕ → ℕ → List ℕ → ℕ → ℕ
written_at make v symbols first count carriers k =
    cond (leb first k && ltb k (first + count))
    (make (get_or carriers k 0) (carrier_from v symbols (k - first)))
    (get_or carriers k 0)

unfoldable pub written : (ℕ → ℕ → ℕ) → ℕ → List ℕ → ℕ → ℕ → List ℕ → List ℕ
written make v symbols first count carriers = tab (length carriers) (written_at make v symbols first count carriers)

-- There is room_for for so many in the run and in the carriers, and v is legal.
unfoldable pub room_for : ℕ → ℕ → ℕ → List ℕ → Bool
room_for v first count carriers = leb (120 + count) 1760 && leb (first + count) (length carriers) && legal v

-- The carriers after the run's are written there: as they were, if there is no room_for.
unfoldable pub placed : ℕ → List ℕ → ℕ → ℕ → List ℕ → List ℕ
placed v symbols first count carriers =
    cond (room_for v first count carriers) (written (λ old new. new) v symbols first count carriers) carriers

-- The carriers after the run's are added to them.
unfoldable pub add_placed : ℕ → List ℕ → ℕ → ℕ → List ℕ → List ℕ
add_placed v symbols first count carriers =
    cond (room_for v first count carriers) (written bit_xor v symbols first count carriers) carriers

-- Both: what stands where a carrier is put, and the carriers after the run's are put there.
abbrev pub made : Bool → ℕ → ℕ → ℕ
made add old new = cond add (bit_xor old new) new

unfoldable pub put_by : Bool → ℕ → List ℕ → ℕ → ℕ → List ℕ → List ℕ
put_by add v symbols first count carriers =
    cond (room_for v first count carriers) (written (made add) v symbols first count carriers) carriers

-- Of a line with `size` entries from place `at` on, its bit in the i-th of the 120 symbols before a frame: an entry,
-- or 0 if it came out already.
unfoldable pub entry_before : List ℕ → ℕ → ℕ → ℕ → ℕ
entry_before lines at size i = cond (ltb (i + size) 120) 0 (get_or lines (at + (i + size - 120)) 0 % 2)

unfoldable pub history_bit : ℕ → List ℕ → ℕ → ℕ → ℕ
history_bit v lines i l = entry_before lines (first_entry v l) (delay_of v l) i

-- The 120 symbols before a frame.
unfoldable pub history_of : ℕ → List ℕ → List ℕ
history_of v lines = cond (legal v) (tab 120 (λ i. binary v (history_bit v lines i))) (replicate 120 0)

-- Back: the entries after a frame whose last 120 symbols are the history.
unfoldable pub entries_of : ℕ → List ℕ → List ℕ
entries_of v history =
    cond (legal v) (in_lines v (λ l e. bit_of v (get_or history (120 - delay_of v l + e) 0) l)) (replicate 360 0)

-- Going back: the rule's entries after a frame with these last 120 carriers, or zeros.
unfoldable pub waiting_of : ℕ → List ℕ → List ℕ
waiting_of v last = cond (legal v) (lines_waiting v last) (replicate 360 0)

-- Symbol q of 24 kept bits, which are given as a number with the first one highest.
unfoldable pub symbol_of : ℕ → ℕ → ℕ → ℕ
symbol_of v bits q = bits / 2 ^ (24 - v - q * v) % 2 ^ v

-- Symbol s − 120 of a frame, from the lines' entries for those before it.
unfoldable pub symbol_at : ℕ → List ℕ → (ℕ → ℕ) → ℕ → ℕ
symbol_at v lines kept s =
    cond (ltb s 120) (binary v (history_bit v lines s)) (binary v (λ l. kept ((s - 120) * v + l)))
