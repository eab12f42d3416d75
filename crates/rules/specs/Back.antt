-- Going back: rules 6 and 5 read backwards, the bits of the unfinished word, and the bytes of a message.
--     received_digit                       of kept bit c, from carriers
--     shown_digit                          of bit c that comes out of the lines: first what they hold, then the next
--                                          frame's carriers
--     held_digit                           of kept bit c of a frame's last word, from what is held of it and what
--                                          comes out of the lines
--     pair_of, pair_at                     the received pair of a message bit, from the digits of what is kept of it
--     last_kept, held_count, held_after    the first kept bit of a frame's last word, and the bits held of it
--     message_byte, message_bytes          the 1,632 message bits of a word as its 204 bytes
--     register_of                          the register behind them
-- A digit is 0 or 1, or 2 where there is no such bit; a pair is 3 x + y, x and y being the digits of X and Y.
use Rattle.std.specs.Prelude.{cond, List, ℕ, ◌+◌, ◌-◌, ◌*◌, ◌/◌, ◌%◌, ltb, length, get_or}
use Rattle.lists.specs.Tab.{piece_start, tab}
use Rattle.settings.specs.Patterns.{Kept, XY, X, Y, kept_below}
use Rattle.settings.specs.Sizes.{P, C}
use Rattle.rules.specs.Puncturing.{pattern_at}
use Rattle.rules.specs.Bits.{line_of, carrier_of, wait_of}
use Rattle.settings.specs.declared.Settings.{Settings}
use Rattle.lists.specs.Binary.{binary, bit_of}

-- the bit of line l of carrier k
unfoldable pub line_digit : ℕ → List ℕ → ℕ → ℕ → ℕ
line_digit v carriers k l = cond (ltb k (length carriers)) (bit_of v (get_or carriers k 0) l) 2

-- "Kept bit c of the frame goes to line c mod v. Its carrier is c divided by v, rounded down, plus (c mod v) ×
-- 120/(v−1)."
unfoldable pub received_digit : ℕ → List ℕ → ℕ → ℕ
received_digit v carriers c = line_digit v carriers (carrier_of v c) (line_of v c)

-- "The line delays are made up to 120 carriers in all": what line l shows at carrier k of a frame
unfoldable pub shown_by : ℕ → List ℕ → List ℕ → ℕ → ℕ → ℕ
shown_by v lines carriers k l =
    cond (ltb k (wait_of v l))
    (get_or lines (piece_start (wait_of v) l + k) 0 % 2)
    (line_digit v carriers (k - wait_of v l) l)

unfoldable pub shown_digit : ℕ → List ℕ → List ℕ → ℕ → ℕ
shown_digit v lines carriers c = shown_by v lines carriers (c / v) (line_of v c)

-- the word begins `lead` kept bits after its block, and `count` of its bits are held
unfoldable pub held_digit : ℕ → ℕ → ℕ → List ℕ → List ℕ → List ℕ → ℕ → ℕ
held_digit v lead count held lines carriers c =
    cond (ltb c lead) 2
    (cond (ltb c (lead + count)) (get_or held (c - lead) 0 % 2) (shown_digit v lines carriers (c - (lead + count))))

-- "X goes before Y."
abbrev pub pair_of : Kept → ℕ → ℕ → ℕ
pair_of XY first second = 3 * first + second
pair_of X first second = 3 * first + 2
pair_of Y first second = 6 + first

-- "By message bit number in the frame, modulo the pattern's length, what is kept"; `digit c` is what is received of
-- kept bit c
unfoldable pub pair_at : ℕ → (ℕ → ℕ) → ℕ → ℕ
pair_at rate digit n = pair_of (pattern_at rate n) (digit (kept_below rate n)) (digit (kept_below rate n + 1))

-- the first kept bit of a frame's last word
unfoldable pub last_kept : Settings → ℕ
last_kept settings = kept_below settings.rate (1632 * (P settings - 1))

-- "as many as the frame's last word has kept bits, less 120 × v"
unfoldable pub held_count : Settings → ℕ
held_count settings = C settings * settings.v - last_kept settings - 120 * settings.v

-- the bits of the unfinished word, "unused ones zero"
unfoldable pub held_after : Settings → List ℕ → List ℕ
held_after settings carriers =
    tab 3072 (λ i. cond (ltb i (held_count settings)) (received_digit settings.v carriers (last_kept settings + i)) 0)

-- "Message bits: highest of a byte first."
unfoldable pub message_byte : List ℕ → ℕ → ℕ
message_byte message j = binary 8 (λ i. get_or message (8 * j + i) 0 % 2)

unfoldable pub message_bytes : List ℕ → List ℕ
message_bytes message = tab 204 (message_byte message)

-- "Its last six bits are the next register."; "newest bit highest"
unfoldable pub register_of : List ℕ → ℕ
register_of message = binary 6 (λ i. get_or message (1631 - i) 0 % 2)
