-- The field GF(256) of ISDB-T: a byte is a polynomial over GF(2), bit i the coefficient of x^i, and products are taken
-- modulo x^8 + x^4 + x^3 + x^2 + 1 (0x11D).
--     _⊕_, _⊗_, power     the sum, the product, and powers
--     value               of a polynomial over the field, the highest coefficient first, as the bytes of a word stand
--     Bytes               every coefficient is a byte
use Rattle.std.specs.Prelude.{List, [], ◌∷◌, ℕ, zero, suc, ◌*◌, ◌/◌, ◌%◌, ◌<◌, length}
use Rattle.std.specs.Int.Bits.{bit_xor}

infixl 60 ◌⊕◌
infixl 70 ◌⊗◌
-- the sum: no carries
unfoldable pub ◌⊕◌ : ℕ → ℕ → ℕ
a ⊕ b = bit_xor a b

-- x times a: shifted by one bit, and where x^8 comes out, 29 = x^4 + x^3 + x^2 + 1 stands for it
unfoldable pub double : ℕ → ℕ
double a = a % 128 * 2 ⊕ a / 128 % 2 * 29

-- a times the polynomial of the n low bits of b
unfoldable pub times_bits : ℕ → ℕ → ℕ → ℕ
times_bits zero a b = 0
times_bits (suc n) a b = b % 2 * a ⊕ double (times_bits n a (b / 2))

-- the product of two bytes (of the low 8 bits, where an operand is larger: so every law but 1 ⊗ a ≡ a holds of all
-- numbers)
unfoldable pub ◌⊗◌ : ℕ → ℕ → ℕ
a ⊗ b = times_bits 8 (a % 256) (b % 256)

-- a to the n
unfoldable pub power : ℕ → ℕ → ℕ
power a zero = 1
power a (suc n) = a ⊗ power a n

-- the value at x of the polynomial whose highest coefficient stands first
unfoldable pub value : List ℕ → ℕ → ℕ
value [] x = 0
value (a ∷ c) x = a ⊗ power x (length c) ⊕ value c x

abbrev pub Bytes : List ℕ → Type 0
Bytes [] = Unit {0}
Bytes (a ∷ c) = (a < 256) × Bytes c
