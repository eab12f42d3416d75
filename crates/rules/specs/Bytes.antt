-- Rule 3, byte interleaving, both ways: they differ in the waits of the branches alone. A byte of the stream is counted
-- from the first byte of the first word, so byte j of word p is byte 204 × p + j.
--     branch_of, turn_of           the branch of a byte of the stream, and how many bytes its branch had before it
--     waits_there, waits_back      the waits of the branches, in words, interleaving and going back
--     branch_size, branch_start    how many bytes of the memory a branch has, and where it begins
--     memory_at_start              the memory at the start
--     stream_byte, word_out        what comes out
--     comes_out_at                 where a byte that goes in comes out
--     memory_after                 the memory after some words
use Rattle.std.specs.Prelude.{cond, List, ℕ, ◌+◌, ◌-◌, ◌*◌, ◌/◌, ◌%◌, ltb, get_or, replicate}
use Rattle.lists.specs.Tab.{piece_start, pieces, tab}

-- "Twelve branches .. byte 0 of a word takes branch 0."
abbrev pub branch_of : ℕ → ℕ
branch_of b = b % 12

abbrev pub turn_of : ℕ → ℕ
turn_of b = b / 12

-- ".. branch i delays by 17×i bytes": i words, of which each has 17 bytes for the branch
unfoldable pub waits_there : ℕ → ℕ
waits_there i = i

-- "Byte branch i then waits 17×(11−i)."
unfoldable pub waits_back : ℕ → ℕ
waits_back i = 11 - i

abbrev pub branch_size : (ℕ → ℕ) → ℕ → ℕ
branch_size waits i = 17 * waits i

-- Where branch i begins in the memory: behind the bytes of each lower branch.
abbrev pub branch_start : (ℕ → ℕ) → ℕ → ℕ
branch_start waits = piece_start (branch_size waits)

-- "The memory is 1,122 bytes, all zero at the start."
unfoldable pub memory_at_start : List ℕ
memory_at_start = replicate 1122 0

-- What comes out at byte b of the stream, `sent` being the bytes that go in: of a branch that waits 17 × w bytes first
-- the bytes of the memory, then what went in 17 × w turns of the branch before, which is w words.
unfoldable pub stream_byte : (ℕ → ℕ) → List ℕ → (ℕ → ℕ) → ℕ → ℕ
stream_byte waits memory sent b =
    cond (ltb (turn_of b) (17 * waits (branch_of b)))
    (get_or memory (branch_start waits (branch_of b) + turn_of b) 0)
    (sent (b - 204 * waits (branch_of b)))

-- The 204 bytes that come out when one word goes in.
unfoldable pub word_out : (ℕ → ℕ) → List ℕ → List ℕ → List ℕ
word_out waits memory word = tab 204 (stream_byte waits memory (λ b. get_or word b 0))

-- "So byte j of word p comes out at place j of word p + (j mod 12)."
unfoldable pub comes_out_at : (ℕ → ℕ) → ℕ → ℕ
comes_out_at waits b = b + 204 * waits (branch_of b)

-- "(branch 1 first, oldest first)", "(lowest branch .. first, oldest first)": branch by branch.
-- After n words byte q of branch i is what comes out at the q-th turn of the branch from then on.
unfoldable pub memory_after : (ℕ → ℕ) → List ℕ → (ℕ → ℕ) → ℕ → List ℕ
memory_after waits memory sent n =
    pieces (branch_size waits) (λ i q. stream_byte waits memory sent (204 * n + 12 * q + i)) 12
