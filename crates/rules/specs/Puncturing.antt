-- Rule 5, puncturing: which coded bits of a frame are kept, and in which order.
--     pattern_at, kept_pair    what the pattern says of a message bit, and what is kept of its two coded bits
--     punctured                the kept bits of a frame's first message bits, one after the other
--     kept_bit                 kept bit c of a frame
-- proofs/Sources.antt and Punctured.antt: which message bit kept bit c is of, by its number in the pattern.
use Rattle.std.specs.Prelude.{List, [], ◌∷◌, ◌++◌, ℕ, zero, suc, ◌%◌, get_or}
use Rattle.settings.specs.Patterns.{Kept, XY, X, Y, pattern, pattern_length}
use Rattle.rules.specs.Code.{coded_x, coded_y}

-- "By message bit number in the frame, modulo the pattern's length, what is kept"
unfoldable pub pattern_at : ℕ → ℕ → Kept
pattern_at rate n = get_or (pattern rate) (n % pattern_length rate) XY

-- "X goes before Y."
abbrev pub kept_pair : Kept → ℕ → ℕ → List ℕ
kept_pair XY x y = x ∷ y ∷ []
kept_pair X x y = x ∷ []
kept_pair Y x y = y ∷ []

-- the kept bits of the message bits below one
unfoldable pub punctured : ℕ → ℕ → (ℕ → ℕ) → ℕ → List ℕ
punctured rate register message zero = []
punctured rate register message (suc n) =
    punctured rate register message n
    ++ kept_pair (pattern_at rate n) (coded_x register message n) (coded_y register message n)

-- kept bit c: each message bit keeps one bit at least, so that the first c + 1 of them have it
unfoldable pub kept_bit : ℕ → ℕ → (ℕ → ℕ) → ℕ → ℕ
kept_bit rate register message c = get_or (punctured rate register message (suc c)) c 0
