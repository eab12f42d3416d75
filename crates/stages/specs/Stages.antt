-- What the doors for C say that is more than the stage itself says.
--     CorrectionTold     of `stages_correct`
-- proofs/Unique.antt: it allows one result alone.
use Rattle.std.specs.Prelude.{◌≡◌, List, ℕ, Result}
use Rattle.nearest.specs.declared.Uncorrected.{Uncorrected}
use Rattle.nearest.specs.Correction.{nearest_number, nearest_values, Corrected, told_of, refusal_of}

pub record CorrectionTold (word word' : List ℕ) (corrected r : ℕ) : Type 0 where
  pub found : Result ℕ Uncorrected
  pub right : Corrected word word' (nearest_number found) (nearest_values found)
  pub told : corrected ≡ told_of found
  pub number : r ≡ refusal_of found
