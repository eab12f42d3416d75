-- "One record now holds layers A, B and C, each with settings of its own or unused, one mode for all, and at most 13
-- segments in total."
--     Kind                        what a record asks of its layers' states, coding or receiving ones alike
--     Three, three_from           a mode, and something for each of A, B and C
--     layer_named, with_layer     the state of the layer that is named, and the record with another state there
--     unused, unused_layer        whether a layer's state is all zero, and that state
--     empty_record                a record of zeros
--     good_layer, segments_in,    when a layer is good in the record's mode, or unused; the segments in all; when a
--     good_record                 record is good
use Rattle.std.specs.Prelude.{Bool, ◌&&◌, ◌||◌, List, ℕ, zero, suc, ◌+◌, eqb, leb}
use Rattle.lists.specs.Tests.{none_set}
use Rattle.settings.specs.declared.Settings.{Settings}
use Rattle.settings.specs.Legal.{legal_mode}
use Rattle.settings.specs.Areas.{settings_from}

pub record Kind : Type 1 where
  pub State : Type 0
  -- the layer's settings, whether the state is good, and the state before the first frame
  pub settings : State → Settings
  pub good : State → Bool
  pub fresh : Settings → State
  -- a state as bytes, how many they are, and the state that so many bytes are
  pub bytes : State → List ℕ
  pub size : ℕ
  pub state_of : List ℕ → State

pub record Three (Each : Type 0) : Type 0 where
  pub mode : ℕ
  pub a : Each
  pub b : Each
  pub c : Each

abbrev pub three_from : {Each : Type 0} → ℕ → Each → Each → Each → Three Each
three_from mode a b c = record { mode = mode; a = a; b = b; c = c }

-- "unused and all zero"
unfoldable pub unused : (kind : Kind) → kind.State → Bool
unused kind state = none_set (kind.bytes state)

-- a fresh state is all zero but for its settings
unfoldable pub unused_layer : (kind : Kind) → kind.State
unused_layer kind = kind.fresh (settings_from 0 0 0 0)

-- "Layers are named 0, 1, 2 for A, B, C. Any other name is a layer that isn't used"
unfoldable pub layer_named : (kind : Kind) → Three kind.State → ℕ → kind.State
layer_named kind three zero = three.a
layer_named kind three (suc zero) = three.b
layer_named kind three (suc (suc zero)) = three.c
layer_named kind three (suc (suc (suc other))) = unused_layer kind

unfoldable pub with_layer : {State : Type 0} → Three State → ℕ → State → Three State
with_layer three zero state = three_from three.mode state three.b three.c
with_layer three (suc zero) state = three_from three.mode three.a state three.c
with_layer three (suc (suc zero)) state = three_from three.mode three.a three.b state
with_layer three (suc (suc (suc other))) state = three

-- "a refused start gives zeros throughout"
unfoldable pub empty_record : (kind : Kind) → Three kind.State
empty_record kind = three_from 0 (unused_layer kind) (unused_layer kind) (unused_layer kind)

-- "each layer is either good in that mode or unused and all zero"
unfoldable pub good_layer : (kind : Kind) → ℕ → kind.State → Bool
good_layer kind mode state = (kind.good state && eqb (kind.settings state).mode mode) || unused kind state

-- of an unused layer there are none
unfoldable pub segments_in : (kind : Kind) → Three kind.State → ℕ
segments_in kind three =
    (kind.settings three.a).segments + (kind.settings three.b).segments + (kind.settings three.c).segments

-- "A record is good if its mode is legal, each layer is either good in that mode or unused and all zero, and the
-- segments are at most 13 in all"
unfoldable pub good_record : (kind : Kind) → Three kind.State → Bool
good_record kind three =
    legal_mode three.mode
    && good_layer kind three.mode three.a
    && good_layer kind three.mode three.b
    && good_layer kind three.mode three.c
    && leb (segments_in kind three) 13
