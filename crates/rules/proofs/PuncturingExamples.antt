-- Document 01's sums done by hand for rule 5: "message 1000000 from zero, 1/2: 11 10 11 11 00 01 11; same, 2/3: 11 0
-- 11 1 00 1 11; same, 3/4: 11 0 1 11 0 0 11"; and the same at 5/6 and 7/8.
--     Examples, examples_punctured     the message 1000000 at the five rates
use mathlib.Core.Path.{◌≡◌, refl}
use mathlib.Core.List.{[], ◌∷◌}
use lib.Count.{ones}
use Rattle.lists.specs.Binary.{binary}
use Rattle.settings.specs.Patterns.{pattern_length}
use Rattle.rules.specs.Code.{bit_back, window, parity, coded_x, coded_y}
use Rattle.rules.proofs.CodeExamples.{message}
use Rattle.rules.specs.Puncturing.{pattern_at, punctured}

pub record Examples : Type 0 where
  pub half : punctured 1 0 message 7 ≡ 1 ∷ 1 ∷ 1 ∷ 0 ∷ 1 ∷ 1 ∷ 1 ∷ 1 ∷ 0 ∷ 0 ∷ 0 ∷ 1 ∷ 1 ∷ 1 ∷ []
  pub two_thirds : punctured 2 0 message 7 ≡ 1 ∷ 1 ∷ 0 ∷ 1 ∷ 1 ∷ 1 ∷ 0 ∷ 0 ∷ 1 ∷ 1 ∷ 1 ∷ []
  pub three_quarters : punctured 3 0 message 7 ≡ 1 ∷ 1 ∷ 0 ∷ 1 ∷ 1 ∷ 1 ∷ 0 ∷ 0 ∷ 1 ∷ 1 ∷ []
  pub five_sixths : punctured 4 0 message 7 ≡ 1 ∷ 1 ∷ 0 ∷ 1 ∷ 1 ∷ 0 ∷ 0 ∷ 1 ∷ 1 ∷ []
  pub seven_eighths : punctured 5 0 message 7 ≡ 1 ∷ 1 ∷ 0 ∷ 1 ∷ 1 ∷ 0 ∷ 1 ∷ 1 ∷ []

-- Message 1000000 from zero, punctured.
pub examples_punctured : Examples
unfolding punctured pattern_at pattern_length coded_x coded_y window bit_back parity ones binary
examples_punctured =
    record { half = refl; two_thirds = refl; three_quarters = refl; five_sixths = refl; seven_eighths = refl }
