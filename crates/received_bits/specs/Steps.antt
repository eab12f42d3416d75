-- What the inner functions say of each other. The digits of a stretch stand in planes: plane l has those of line l,
-- row by row, and from 3,360 on there is nothing.
--     plane_at          what stands at a place of the planes
--     Digits            each is 0, 1 or 2
--     kept_place        where the digit of a kept bit of the first block stands
--     kind_of           what a place of a pattern keeps, as a number
--     digit_place       where X and, from 24 on, Y of a message bit of the first block stand
--     pair_in_planes    a pair by these
use Rattle.std.specs.Prelude.{cond, List, ℕ, ◌+◌, ◌*◌, ◌/◌, ◌%◌, ◌≤◌, ltb, get_or}
use Rattle.settings.specs.Patterns.{Kept, XY, X, Y, kept_below}
use Rattle.settings.specs.Sizes.{packets_by_rate}
use Rattle.rules.specs.Puncturing.{pattern_at}
use Rattle.received_bits.specs.Received.{whole_blocks}

-- `digit c` is the digit of kept bit c
unfoldable pub plane_at : ℕ → (ℕ → ℕ) → ℕ → ℕ
plane_at v digit place = cond (ltb place 3360) (digit (place % (3360 / v) * v + place / (3360 / v))) 2

pub record Digits (planes : List ℕ) : Type 0 where
  pub few : (place : ℕ) → get_or planes place 0 ≤ 2

unfoldable pub kept_place : ℕ → ℕ → ℕ
kept_place v kept = kept % v * (3360 / v) + kept / v

abbrev pub kind_of : Kept → ℕ
kind_of XY = 0
kind_of X = 1
kind_of Y = 2

-- a message bit that keeps no X, or no Y, has nothing there
abbrev pub place_x : Kept → ℕ → ℕ → ℕ
place_x XY first second = first
place_x X first second = first
place_x Y first second = 3360

abbrev pub place_y : Kept → ℕ → ℕ → ℕ
place_y XY first second = second
place_y X first second = 3360
place_y Y first second = first

unfoldable pub digit_place : ℕ → ℕ → ℕ → ℕ
digit_place v rate i =
    let n = i % 24 in
    cond (ltb i 24)
    (place_x (pattern_at rate n) (kept_place v (kept_below rate n)) (kept_place v (kept_below rate n + 1)))
    (place_y (pattern_at rate n) (kept_place v (kept_below rate n)) (kept_place v (kept_below rate n + 1)))

-- block s of the planes begins 24 / v rows after block s − 1
unfoldable pub digit_in : ℕ → ℕ → List ℕ → ℕ → ℕ → ℕ
digit_in v rate planes s i = get_or planes (digit_place v rate i + 24 / v * s) 0

unfoldable pub pair_of_block : ℕ → ℕ → List ℕ → ℕ → ℕ → ℕ
pair_of_block v rate planes s i = 3 * digit_in v rate planes s i + digit_in v rate planes s (24 + i)

unfoldable pub pair_in_planes : ℕ → ℕ → List ℕ → ℕ → ℕ
pair_in_planes v rate planes n =
    cond (ltb n (whole_blocks rate))
    (pair_of_block v rate planes (n / packets_by_rate rate) (n % packets_by_rate rate))
    8
