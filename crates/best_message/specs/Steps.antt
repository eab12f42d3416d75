-- What the private functions ask of one another, and give.
--     digit_cost             twice what a digit costs at the register 2 k, for the bit 0, by some taps: at 32 digit + k
--     Pairs                  few pairs, each below 9
--     CostRow                row t of the table, less twice a base
--     Under                  a bound on the 64 entries from a place on
--     Ready, CostsStepped    of `step`
--     spare                  what `lower` takes off
--     Lowering, Lowered      of `lower`
--     Cleared                of `clear`
--     Room, Filled           of `fill`
--     Walk                   of `walk`
use Rattle.std.specs.Prelude.{◌≡◌, cond, List, ℕ, ◌+◌, ◌*◌, ◌-◌, ◌/◌, ◌%◌, ◌≤◌, ◌<◌, eqb, length, get_or, drop}
use Rattle.lists.specs.Tab.{tab}
use Rattle.rules.specs.Code.{parity}
use Rattle.fewest.specs.Best.{miss}
use Rattle.best_message.specs.Table.{packed, base}

unfoldable pub digit_cost : ℕ → ℕ → ℕ
digit_cost taps place = 2 * miss (place / 32) (parity taps (2 * (place % 32)))

pub record Pairs (pairs : List ℕ) : Type 0 where
  pub few : length pairs ≤ 1728
  pub each : (i : ℕ) → i < length pairs → get_or pairs i 0 < 9

abbrev pub CostRow : List ℕ → ℕ → ℕ → List ℕ → Type 0
CostRow pairs t lowered table = (s : ℕ) → s < 64 → get_or table (64 * t + s) 0 + 2 * lowered ≡ packed (drop t pairs) s

abbrev pub Under : List ℕ → ℕ → ℕ → Type 0
Under table at limit = (s : ℕ) → s < 64 → get_or table (at + s) 0 ≤ limit

pub record Ready (pairs xcosts ycosts : List ℕ) (t : ℕ) (table : List ℕ) : Type 0 where
  pub right : Pairs pairs
  pub x_costs : xcosts ≡ tab 96 (digit_cost 0o171)
  pub y_costs : ycosts ≡ tab 96 (digit_cost 0o133)
  pub inside : t < length pairs
  pub room : 64 * length pairs + 64 ≤ length table
  pub behind : CostRow pairs (t + 1) (base (drop (t + 1) pairs)) table
  pub under : Under table (64 * t + 64) 250

-- the row has the base of the row behind it
pub record CostsStepped (pairs : List ℕ) (t : ℕ) (before table : List ℕ) : Type 0 where
  pub long : length table ≡ length before
  pub row : CostRow pairs t (base (drop (t + 1) pairs)) table
  pub kept : (i : ℕ) → 64 * t + 64 ≤ i → get_or table i 0 ≡ get_or before i 0

-- half of what is taken off the 64 entries from a place on
unfoldable pub spare : List ℕ → ℕ → ℕ → ℕ
spare table at since = cond (eqb since 32) (get_or table at 0 / 2 - 12) 0

-- the 64 entries are near one another, and low enough
pub record Lowering (table : List ℕ) (at since : ℕ) : Type 0 where
  pub room : at + 64 ≤ length table
  pub above : (s : ℕ) → s < 64 → get_or table at 0 / 2 * 2 ≤ get_or table (at + s) 0 + 24
  pub below : (s : ℕ) → s < 64 → get_or table (at + s) 0 ≤ get_or table at 0 / 2 * 2 + 25
  pub soon : since ≤ 32
  pub under : Under table at (49 + 4 * since)

pub record Lowered (before : List ℕ) (at since since_then : ℕ) (table : List ℕ) : Type 0 where
  pub count : since_then ≡ since % 32
  pub long : length table ≡ length before
  pub less : (s : ℕ) → s < 64 → get_or table (at + s) 0 + 2 * spare before at since ≡ get_or before (at + s) 0
  pub under : Under table at (49 + 4 * since_then)
  pub kept : (i : ℕ) → at + 64 ≤ i → get_or table i 0 ≡ get_or before i 0

pub record Cleared (before : List ℕ) (at : ℕ) (table : List ℕ) : Type 0 where
  pub long : length table ≡ length before
  pub zero : (s : ℕ) → s < 64 → get_or table (at + s) 0 ≡ 0
  pub kept : (i : ℕ) → at + 64 ≤ i → get_or table i 0 ≡ get_or before i 0

pub record Room (pairs table : List ℕ) : Type 0 where
  pub right : Pairs pairs
  pub room : 64 * length pairs + 64 ≤ length table

pub record Filled (pairs before table : List ℕ) : Type 0 where
  pub long : length table ≡ length before
  pub row : (t : ℕ) → t ≤ length pairs → CostRow pairs t (base (drop t pairs)) table
  pub kept : (i : ℕ) → 64 * length pairs + 64 ≤ i → get_or table i 0 ≡ get_or before i 0

pub record Walk (pairs table : List ℕ) (start : ℕ) (message : List ℕ) : Type 0 where
  pub few : length pairs ≤ 1728
  pub room : 64 * length pairs + 64 ≤ length table
  pub row : (t : ℕ) → t ≤ length pairs → CostRow pairs t (base (drop t pairs)) table
  pub register : start < 64
  pub fits : length message ≡ length pairs
