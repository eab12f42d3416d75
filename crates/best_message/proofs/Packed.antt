-- What a packed number says, and the pairs from a number on.
--     packed_half                  half of it is the fewest disagreements
--     packed_zero, packed_one      its lowest bit is the better bit
--     pairs_from                   the pairs from number t on: pair t, and those behind it
use mathlib.Core.Path.{◌≡◌, refl, sym, ap, ◌∙◌}
use mathlib.Core.Bool.{true, false}
use mathlib.Core.List.{List, [], ◌∷◌}
use Prim.Native.Nat.{ℕ, ◌+◌, ◌/◌, ◌%◌, ◌≤◌, ◌<◌}
use native.Mathlib.Numerals.{add-one}
use native.Mathlib.Omega.{arith}
use lib.ListN.{length, get_or, drop}
use lib.Seq.{drop-cons}
use Rattle.fewest.specs.Best.{least}
use Rattle.best_message.specs.Table.{packed}
use Rattle.fewest.proofs.Best.{via}

pub packed_half : (pairs : List ℕ) (register : ℕ) → packed pairs register / 2 ≡ least pairs register
unfolding packed least
packed_half [] register = refl
packed_half (pair ∷ pairs) register = omega arith

module _ (pair : ℕ) (pairs : List ℕ) (register : ℕ) where
  pub packed_zero : via pair pairs register false ≤ via pair pairs register true
      → packed (pair ∷ pairs) register % 2 ≡ 0
  packed_zero h = unfold packed in omega arith

  pub packed_one : via pair pairs register true < via pair pairs register false → packed (pair ∷ pairs) register % 2 ≡ 1
  packed_one h = unfold packed in omega arith

pub pairs_from : (pairs : List ℕ) (t : ℕ) → t < length pairs → drop t pairs ≡ get_or pairs t 0 ∷ drop (t + 1) pairs
pairs_from pairs t h = drop-cons pairs t 0 h ∙ ap (λ (n : ℕ). get_or pairs t 0 ∷ drop n pairs) (sym (add-one t))
