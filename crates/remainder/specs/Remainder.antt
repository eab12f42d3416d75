-- The remainder modulo the code's generator, whose roots are 2 ^ 0, .., 2 ^ 15: sixteen bytes with the wanted values at
-- the roots.
--     Remainder    the values of a word
--     Parity       the values of a message times x ^ 16: message and parity together are 0 at each root
--     all_zero     whether every byte is 0
-- Only one list of bytes has the values (`at_roots_unique` in proofs/Unique.antt); that of a parity is `parity_of` of
-- Division.antt (`parity_right` in proofs/Division.antt).
use Rattle.std.specs.Prelude.{◌≡◌, Bool, true, false, List, [], ◌∷◌, ℕ, zero, suc, ◌<◌, length, get_or}
use Rattle.field.specs.Field.{◌⊗◌, power, value}

-- sixteen bytes with the value wanted x at each root x
pub record AtRoots (wanted : ℕ → ℕ) (result : List ℕ) : Type 0 where
  pub long : length result ≡ 16
  pub bytes : (k : ℕ) → get_or result k 0 < 256
  pub agree : (m : ℕ) → m < 16 → value result (power 2 m) ≡ wanted (power 2 m)

abbrev pub Remainder : List ℕ → List ℕ → Type 0
Remainder word = AtRoots (value word)

abbrev pub Parity : List ℕ → List ℕ → Type 0
Parity message = AtRoots (λ x. value message x ⊗ power x 16)

unfoldable pub all_zero : List ℕ → Bool
all_zero [] = true
all_zero (zero ∷ c) = all_zero c
all_zero (suc a ∷ c) = false
