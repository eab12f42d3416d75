-- When a record is good, in words, beside the test by which every call asks it.
--     GoodIn           a layer is good in a mode
--     AllZeroState     "unused and all zero"
--     GoodRecord       "A record is good if .."
-- proofs/GoodWords.antt: `good_record` passes exactly these.
use Rattle.std.specs.Prelude.{◌≡◌, true, ◌⊎◌, ℕ, ◌+◌, ◌≤◌, get_or}
use Rattle.layers.specs.Record.{Kind, Three}

pub record GoodIn (kind : Kind) (mode : ℕ) (state : kind.State) : Type 0 where
  pub good : kind.good state ≡ true
  pub mode_is : (kind.settings state).mode ≡ mode

abbrev pub AllZeroState : (kind : Kind) → kind.State → Type 0
AllZeroState kind state = (k : ℕ) → get_or (kind.bytes state) k 0 ≡ 0

-- "A record is good if its mode is legal, each layer is either good in that mode or unused and all zero, and the
-- segments are at most 13 in all"
pub record GoodRecord (kind : Kind) (three : Three kind.State) : Type 0 where
  pub mode_legal : (1 ≤ three.mode) × (three.mode ≤ 3)
  pub a_good : GoodIn kind three.mode three.a ⊎ AllZeroState kind three.a
  pub b_good : GoodIn kind three.mode three.b ⊎ AllZeroState kind three.b
  pub c_good : GoodIn kind three.mode three.c ⊎ AllZeroState kind three.c
  pub few : (kind.settings three.a).segments + (kind.settings three.b).segments
      + (kind.settings three.c).segments ≤ 13
