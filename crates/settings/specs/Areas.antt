-- Settings as numbers and as bytes, the first four of a state: "mode, v, rate, segments".
--     settings_from      the four numbers that a start is given
--     settings_of        the settings of an area
--     settings_bytes     settings as bytes
use Rattle.std.specs.Prelude.{List, [], ◌∷◌, ℕ, get_or}
use Rattle.settings.specs.declared.Settings.{Settings}

abbrev pub settings_from : ℕ → ℕ → ℕ → ℕ → Settings
settings_from mode v rate segments = record { mode = mode; v = v; rate = rate; segments = segments }

abbrev pub settings_of : List ℕ → Settings
settings_of area = settings_from (get_or area 0 0) (get_or area 1 0) (get_or area 2 0) (get_or area 3 0)

abbrev pub settings_bytes : Settings → List ℕ
settings_bytes settings = settings.mode ∷ settings.v ∷ settings.rate ∷ settings.segments ∷ []
