-- "Sums done by hand": every sum of the list is right. The sums that the crates below have proved are cited, and the
-- others, the field's product and the punctured bits, are computed here.
--     sums_right     the one statement
use mathlib.Core.Path.{◌≡◌, refl, ap₂}
use mathlib.Core.List.{List, [], ◌∷◌}
use Prim.Native.Nat.{ℕ}
use lib.Count.{ones}
use Rattle.lists.specs.Binary.{binary}
use Rattle.lists.specs.Tab.{tab}
use Rattle.field.specs.Field.{◌⊕◌, double, times_bits, ◌⊗◌}
use Rattle.settings.specs.Patterns.{pattern_length}
use Rattle.remainder.proofs.Division.{parity_zeros}
use Rattle.rules.proofs.DispersedWords.{first_bytes}
use Rattle.rules.proofs.Delay.{byte_1, byte_11, byte_12, byte_203}
use Rattle.rules.specs.Code.{bit_back, window, parity, coded_x, coded_y}
use Rattle.rules.specs.Puncturing.{pattern_at, punctured}
use Rattle.rules.proofs.Shown.{carrier_4_0, carrier_4_1, carrier_4_2, carrier_4_3, carrier_6_11}
use Rattle.coding_answers.proofs.ListSum.{sum_of_the_list}
use Rattle.demands.specs.Sums.{AllRight, sums}

-- lists of equal numbers
infixr 67 ◌also◌
◌also◌ : {a b : ℕ} {l m : List ℕ} → a ≡ b → l ≡ m → a ∷ l ≡ b ∷ m
e also f = ap₂ (λ (a : ℕ) (l : List ℕ). a ∷ l) e f

no_more : ◌≡◌ {A = List ℕ} [] []
no_more = refl

-- "02 times 80 in the field"
times : 0x02 ⊗ 0x80 ≡ 0x1D
times = unfold ◌⊗◌ times_bits double ◌⊕◌ in refl

-- In every row of the list the rules give the numbers that document 01 has.
pub sums_right : AllRight sums
unfolding sums tab punctured pattern_at pattern_length coded_x coded_y window bit_back parity ones binary
sums_right =
    let product = times also no_more in
    let byte = byte_1 also no_more in
    let bytes = byte_11 also byte_12 also byte_203 also no_more in
    let carriers = carrier_4_0 also carrier_4_1 also carrier_4_2 also carrier_4_3 also no_more in
    let carrier = carrier_6_11 also no_more in (
      first_bytes,
      (
        product,
        (
          parity_zeros 188,
          (refl, (refl, (refl, (refl, (refl, (byte, (bytes, (carriers, (carrier, (sum_of_the_list, tt)))))))))),
        ),
      ),
    )
