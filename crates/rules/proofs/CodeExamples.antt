-- Document 01's sum done by hand for rule 4: "message 1000000 from zero, 1/2: 11 10 11 11 00 01 11".
use mathlib.Core.Path.{◌≡◌, refl}
use mathlib.Core.List.{[], ◌∷◌}
use Prim.Native.Nat.{ℕ}
use lib.Count.{ones}
use lib.ListN.{get_or}
use Rattle.lists.specs.Binary.{binary}
use Rattle.lists.specs.Tab.{tab}
use Rattle.rules.specs.Code.{bit_back, window, parity, coded_x, coded_y}

-- the message 1000000
abbrev pub message : ℕ → ℕ
message n = get_or (1 ∷ []) n 0

pub example_x : tab 7 (coded_x 0 message) ≡ 1 ∷ 1 ∷ 1 ∷ 1 ∷ 0 ∷ 0 ∷ 1 ∷ []
example_x = unfold coded_x window bit_back parity ones binary tab in refl

pub example_y : tab 7 (coded_y 0 message) ≡ 1 ∷ 0 ∷ 1 ∷ 1 ∷ 0 ∷ 1 ∷ 1 ∷ []
example_y = unfold coded_y window bit_back parity ones binary tab in refl
