-- The laws of ⊗. All but those of 1 hold of all numbers, so no proof carries bounds along. Inverses:
-- proofs/Logarithms.antt.
use mathlib.Core.Path.{◌≡◌, refl, sym, ap, ap₂, ◌∙◌}
use Prim.Native.Nat.{ℕ, zero, suc, ◌+◌, ◌*◌, ◌/◌, ◌%◌, ◌<◌}
use native.Mathlib.Nat.{zero-add, suc-add, add_comm, mul-zero, mul-suc, zero-mul, one-mul, mod-eq_of_lt}
use native.Mathlib.Omega.{arith}
use lib.Dec.{eqb, eqb→eq}
use Rattle.lists.proofs.Xor.{bit_cases}
use Rattle.field.specs.Field.{◌⊕◌, double, times_bits, ◌⊗◌, power}
use Rattle.field.proofs.Sum.{⊕-assoc, ⊕-left-comm, ⊕-zero, ⊕-self, ⊕-lt, ⊕-byte, bit<, bit-⊕, double-⊕}
use Rattle.field.proofs.Sum.{double_lt}
use Rattle.lists.proofs.Every.{at}

-- ---- ⊗ by the low bits of the second operand, as a function of the first: it adds up, and it passes doubling and bits

double_zero : double 0 ≡ 0
double_zero = unfold double ◌⊕◌ in refl

pub times_bits-⊕ : (n a b c : ℕ) → times_bits n (a ⊕ b) c ≡ times_bits n a c ⊕ times_bits n b c
unfolding times_bits
times_bits-⊕ zero a b c = simp ⊕-zero
times_bits-⊕ (suc n) a b c =
    simp (times_bits-⊕ n a b (c / 2), bit-⊕ (c % 2) a b (bit< c), double-⊕, ⊕-assoc, ⊕-left-comm)

times_bits_zero : (n c : ℕ) → times_bits n 0 c ≡ 0
times_bits_zero n c = simp ⊕-self at (times_bits-⊕ n 0 0 c)

bit_double : (x a : ℕ) → x < 2 → x * double a ≡ double (x * a)
bit_double x a = bit_cases (λ (u : ℕ). u * double a ≡ double (u * a)) (simp (zero-mul, double_zero)) (simp one-mul) x

pub times_bits_double : (n a c : ℕ) → times_bits n (double a) c ≡ double (times_bits n a c)
unfolding times_bits
times_bits_double zero a c = sym double_zero
times_bits_double (suc n) a c = simp (times_bits_double n a (c / 2), bit_double (c % 2) a (bit< c), double-⊕)

times_bits_bit : (n x a c : ℕ) → x < 2 → times_bits n (x * a) c ≡ x * times_bits n a c
times_bits_bit n x a c =
    bit_cases (λ (u : ℕ). times_bits n (u * a) c ≡ u * times_bits n a c) (simp (zero-mul, times_bits_zero))
    (simp one-mul) x

-- to multiply by b and then by c is to multiply by c and then by b
times_bits_swap : (n m a b c : ℕ) → times_bits n (times_bits m a b) c ≡ times_bits m (times_bits n a c) b
unfolding times_bits
times_bits_swap n zero a b c = times_bits_zero n c
times_bits_swap n (suc m) a b c =
    simp (times_bits-⊕ n, times_bits_double n, times_bits_bit n (b % 2) a c (bit< b), times_bits_swap n m a (b / 2) c)

times_bits_lt : (n a c : ℕ) → a < 256 → times_bits n a c < 256
unfolding times_bits
times_bits_lt zero a c h = omega arith
times_bits_lt (suc n) a c h =
    ⊕-lt (c % 2 * a) (double (times_bits n a (c / 2)))
    (bit_cases (λ (u : ℕ). u * a < 256) (omega arith) (omega arith) (c % 2) (bit< c))
    (double_lt (times_bits n a (c / 2)))

-- ---- the laws of ⊗

pub ⊗-lt : (a b : ℕ) → a ⊗ b < 256
⊗-lt a b = unfold ◌⊗◌ in times_bits_lt 8 (a % 256) (b % 256) (omega arith)

-- a product is a byte already
⊗-byte : (a b : ℕ) → (a ⊗ b) % 256 ≡ a ⊗ b
⊗-byte a b = mod-eq_of_lt (⊗-lt a b)

-- 1 times a byte, computed for each
one_bits : (a : ℕ) → a < 256 → times_bits 8 1 a ≡ a
unfolding times_bits double ◌⊕◌
one_bits a h = eqb→eq (times_bits 8 1 a) a (at (λ k. eqb (times_bits 8 1 k) k) 256 tt a h)

pub ⊗-comm : (a b : ℕ) → a ⊗ b ≡ b ⊗ a
⊗-comm a b =
    unfold ◌⊗◌ in let p : times_bits 8 1 (a % 256) ≡ a % 256 = one_bits (a % 256) (omega arith) in
    let q : times_bits 8 1 (b % 256) ≡ b % 256 = one_bits (b % 256) (omega arith) in
    ap (λ (x : ℕ). times_bits 8 x (b % 256)) (sym p) ∙ times_bits_swap 8 8 1 (a % 256) (b % 256)
    ∙ ap (λ (x : ℕ). times_bits 8 x (a % 256)) q

-- to multiply by b and then by c is to multiply by c and then by b
⊗-swap : (a b c : ℕ) → (a ⊗ b) ⊗ c ≡ (a ⊗ c) ⊗ b
unfolding ◌⊗◌
⊗-swap a b c =
    ap (λ (x : ℕ). times_bits 8 x (c % 256)) (⊗-byte a b) ∙ times_bits_swap 8 8 (a % 256) (b % 256) (c % 256)
    ∙ ap (λ (x : ℕ). times_bits 8 x (b % 256)) (sym (⊗-byte a c))

pub ⊗-assoc : (a b c : ℕ) → (a ⊗ b) ⊗ c ≡ a ⊗ (b ⊗ c)
⊗-assoc a b c = ap (λ (x : ℕ). x ⊗ c) (⊗-comm a b) ∙ ⊗-swap b a c ∙ ⊗-comm (b ⊗ c) a

pub ⊗-left-comm : (a b c : ℕ) → a ⊗ (b ⊗ c) ≡ b ⊗ (a ⊗ c)
⊗-left-comm a b c = sym (⊗-assoc a b c) ∙ ap (λ (x : ℕ). x ⊗ c) (⊗-comm a b) ∙ ⊗-assoc b a c

pub ⊕-⊗ : (a b c : ℕ) → (a ⊕ b) ⊗ c ≡ a ⊗ c ⊕ b ⊗ c
unfolding ◌⊗◌
⊕-⊗ a b c = ap (λ (x : ℕ). times_bits 8 x (c % 256)) (⊕-byte a b) ∙ times_bits-⊕ 8 (a % 256) (b % 256) (c % 256)

pub ⊗-⊕ : (a b c : ℕ) → a ⊗ (b ⊕ c) ≡ a ⊗ b ⊕ a ⊗ c
⊗-⊕ a b c = ⊗-comm a (b ⊕ c) ∙ ⊕-⊗ b c a ∙ ap₂ (λ (x y : ℕ). x ⊕ y) (⊗-comm b a) (⊗-comm c a)

pub zero-⊗ : (a : ℕ) → 0 ⊗ a ≡ 0
zero-⊗ a = unfold ◌⊗◌ in times_bits_zero 8 (a % 256)

pub ⊗-zero : (a : ℕ) → a ⊗ 0 ≡ 0
⊗-zero a = ⊗-comm a 0 ∙ zero-⊗ a

pub one-⊗ : (a : ℕ) → a < 256 → 1 ⊗ a ≡ a
unfolding ◌⊗◌
one-⊗ a h = rw (mod-eq_of_lt h) (one_bits a h)

pub ⊗-one : (a : ℕ) → a < 256 → a ⊗ 1 ≡ a
⊗-one a h = ⊗-comm a 1 ∙ one-⊗ a h

-- ---- powers

pub power_lt : (a n : ℕ) → power a n < 256
unfolding power
power_lt a zero = omega arith
power_lt a (suc n) = ⊗-lt a (power a n)

pub power_add : (a m n : ℕ) → power a (m + n) ≡ power a m ⊗ power a n
unfolding power
power_add a zero n = simp zero-add (sym (one-⊗ (power a n) (power_lt a n)))
power_add a (suc m) n = simp (suc-add, power_add a m n, ⊗-assoc)

pub power_mul : (a m n : ℕ) → power (power a m) n ≡ power a (m * n)
unfolding power
power_mul a m zero = simp mul-zero
power_mul a m (suc n) = simp (mul-suc, add_comm, power_add, power_mul a m n)

-- 2 is x
pub two-⊗ : (a : ℕ) → a < 256 → 2 ⊗ a ≡ double a
two-⊗ a h = unfold ◌⊗◌ double ◌⊕◌ in rw (mod-eq_of_lt h) (times_bits_double 8 1 a ∙ ap double (one_bits a h))

-- 2 to the 255 is 1
pub power_255 : power 2 255 ≡ 1
power_255 = unfold power ◌⊗◌ times_bits double ◌⊕◌ in refl

-- the product of two bytes, with no remainder taken
pub of_bytes : (a b : ℕ) → a < 256 → b < 256 → times_bits 8 a b ≡ a ⊗ b
of_bytes a b ha hb = unfold ◌⊗◌ in ap₂ (times_bits 8) (sym (mod-eq_of_lt ha)) (sym (mod-eq_of_lt hb))
