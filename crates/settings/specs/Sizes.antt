-- The sizes of a frame ("Settings and sizes").
--     P, C                       packets and carriers, by document 01's formulas
--     packets_of, carriers_of    the same, and 0 where the settings are not legal
use Rattle.std.specs.Prelude.{cond, List, [], ◌∷◌, ℕ, ◌-◌, ◌*◌, ◌/◌, ◌^◌, eqb, get_or}
use Rattle.settings.specs.declared.Settings.{Settings}
use Rattle.settings.specs.Legal.{starting}

-- "12, 16, 18, 20 or 21 by rate"; rates are counted from 1, and no other number is a rate
abbrev pub by_rate : List ℕ
by_rate = 0 ∷ 12 ∷ 16 ∷ 18 ∷ 20 ∷ 21 ∷ []

unfoldable pub packets_by_rate : ℕ → ℕ
packets_by_rate rate = get_or by_rate rate 0

-- "P = (12, 16, 18, 20 or 21 by rate) × v/2 × 2^(mode−1) × N"
unfoldable pub P : Settings → ℕ
P settings = packets_by_rate settings.rate * (settings.v / 2) * 2 ^ (settings.mode - 1) * settings.segments

-- "C = 96 × 2^(mode−1) × N × 204"
unfoldable pub C : Settings → ℕ
C settings = 96 * 2 ^ (settings.mode - 1) * settings.segments * 204

unfoldable pub packets_of : Settings → ℕ
packets_of settings = cond (eqb (starting settings) 0) (P settings) 0

unfoldable pub carriers_of : Settings → ℕ
carriers_of settings = cond (eqb (starting settings) 0) (C settings) 0
