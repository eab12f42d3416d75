-- Tests of numbers.
--     between first last n            n is at least the first and at most the last
--     all_below n test                the test passes at every number below n
--     first_failing n test            the first number below n at which it fails, or n
--     bits_then_zeros used entries    the first `used` entries are 0 or 1, and the others zero
--     none_set entries                every entry is zero
use Rattle.std.specs.Prelude.{Bool, ◌&&◌, true, cond, List, ℕ, zero, suc, leb, ltb, length, get_or}

unfoldable pub between : ℕ → ℕ → ℕ → Bool
between first last n = leb first n && leb n last

unfoldable pub all_below : ℕ → (ℕ → Bool) → Bool
all_below zero test = true
all_below (suc n) test = test n && all_below n test

unfoldable pub first_failing : ℕ → (ℕ → Bool) → ℕ
first_failing zero test = zero
first_failing (suc n) test = cond (test zero) (suc (first_failing n (λ k. test (suc k)))) zero

-- an entry that is used is 0 or 1, any other zero
unfoldable pub bit_or_zero : ℕ → List ℕ → ℕ → Bool
bit_or_zero used entries place = ltb (get_or entries place 0) (cond (ltb place used) 2 1)

unfoldable pub bits_then_zeros : ℕ → List ℕ → Bool
bits_then_zeros used entries = all_below (length entries) (bit_or_zero used entries)

-- no entry is used
abbrev pub none_set : List ℕ → Bool
none_set entries = bits_then_zeros 0 entries
