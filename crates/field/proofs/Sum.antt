-- The laws of ⊕, and that doubling respects it.
use mathlib.Core.Path.{◌≡◌, refl, sym, ap, ◌∙◌}
use Prim.Native.Nat.{ℕ, zero, suc, ◌*◌, ◌/◌, ◌%◌, ◌<◌}
use native.Mathlib.Nat.{zero-mul, one-mul}
use native.Mathlib.Omega.{arith}
use lib.Arith.{bin_ind}
use lib.Bits.{xor_comm, xor_zero_r, xor_self, xor_shr, xor_mod, xor_lt}
use Rattle.lists.proofs.Xor.{by_halves, bit_cases}
use Rattle.field.specs.Field.{◌⊕◌, double}

pub bit< : (n : ℕ) → n % 2 < 2
bit< n = omega arith

pub ⊕-comm : (a b : ℕ) → a ⊕ b ≡ b ⊕ a
⊕-comm a b = unfold ◌⊕◌ in xor_comm a b

pub ⊕-zero : (a : ℕ) → a ⊕ 0 ≡ a
⊕-zero a = unfold ◌⊕◌ in xor_zero_r a

pub zero-⊕ : (a : ℕ) → 0 ⊕ a ≡ a
zero-⊕ a = unfold ◌⊕◌ in refl

pub ⊕-self : (a : ℕ) → a ⊕ a ≡ 0
⊕-self a = unfold ◌⊕◌ in xor_self a

pub ⊕-lt : (a b : ℕ) → a < 256 → b < 256 → a ⊕ b < 256
⊕-lt a b = unfold ◌⊕◌ in xor_lt 8 a b

pub ⊕-half : (a b : ℕ) → (a ⊕ b) / 2 ≡ a / 2 ⊕ b / 2
⊕-half a b = unfold ◌⊕◌ in xor_shr a b 1

pub ⊕-odd : (a b : ℕ) → (a ⊕ b) % 2 ≡ a % 2 ⊕ b % 2
⊕-odd a b = unfold ◌⊕◌ in xor_mod a b 1

bit_assoc : (x y z : ℕ) → x < 2 → y < 2 → z < 2 → (x ⊕ y) ⊕ z ≡ x ⊕ (y ⊕ z)
unfolding ◌⊕◌
bit_assoc zero y z hx hy hz = refl
bit_assoc (suc zero) zero z hx hy hz = refl
bit_assoc (suc zero) (suc zero) zero hx hy hz = refl
bit_assoc (suc zero) (suc zero) (suc zero) hx hy hz = refl
bit_assoc (suc zero) (suc zero) (suc (suc z)) hx hy hz = absurd (omega arith)
bit_assoc (suc zero) (suc (suc y)) z hx hy hz = absurd (omega arith)
bit_assoc (suc (suc x)) y z hx hy hz = absurd (omega arith)

pub ⊕-assoc : (a b c : ℕ) → (a ⊕ b) ⊕ c ≡ a ⊕ (b ⊕ c)
⊕-assoc =
    bin_ind (λ (n : ℕ). (b c : ℕ) → (n ⊕ b) ⊕ c ≡ n ⊕ (b ⊕ c)) (λ b c. simp zero-⊕)
    (λ n ih b c. by_halves ((n ⊕ b) ⊕ c) (n ⊕ (b ⊕ c)) (simp ⊕-half (ih (b / 2) (c / 2)))
    (simp ⊕-odd (bit_assoc (n % 2) (b % 2) (c % 2) (bit< n) (bit< b) (bit< c))))

pub ⊕-left-comm : (a b c : ℕ) → a ⊕ (b ⊕ c) ≡ b ⊕ (a ⊕ c)
⊕-left-comm a b c = sym (⊕-assoc a b c) ∙ ap (λ (x : ℕ). x ⊕ c) (⊕-comm a b) ∙ ⊕-assoc b a c

-- a ⊕ a cancels inside a sum too
pub ⊕-cancel : (a b : ℕ) → a ⊕ (a ⊕ b) ≡ b
⊕-cancel a b = sym (⊕-assoc a a b) ∙ ap (λ (x : ℕ). x ⊕ b) (⊕-self a) ∙ zero-⊕ b

-- the set that sorts a sum and cancels what stands twice
pub ruleset ⊕-laws = (⊕-assoc, ⊕-comm, ⊕-left-comm, ⊕-self, ⊕-cancel, ⊕-zero, zero-⊕)

-- equal numbers are those whose sum is 0
pub eq-of-⊕ : (a b : ℕ) → a ⊕ b ≡ 0 → a ≡ b
eq-of-⊕ a b e = sym (⊕-cancel b a) ∙ ap (λ (x : ℕ). b ⊕ x) (⊕-comm b a ∙ e) ∙ ⊕-zero b

-- ---- scaling by a bit, and doubling

pub bits_scale : (x y k : ℕ) → x < 2 → y < 2 → (x ⊕ y) * k ≡ x * k ⊕ y * k
bits_scale x y k hx hy =
    bit_cases (λ (u : ℕ). (u ⊕ y) * k ≡ u * k ⊕ y * k) (simp (zero-mul, zero-⊕))
    (bit_cases (λ (u : ℕ). (1 ⊕ u) * k ≡ 1 * k ⊕ u * k) (simp (zero-mul, ⊕-zero)) (simp (⊕-self, zero-mul)) y hy) x hx

-- a bit times a sum
pub bit-⊕ : (x a b : ℕ) → x < 2 → x * (a ⊕ b) ≡ x * a ⊕ x * b
bit-⊕ x a b = bit_cases (λ (u : ℕ). u * (a ⊕ b) ≡ u * a ⊕ u * b) (simp (zero-mul, ⊕-zero)) (simp one-mul) x

⊕-twice : (a b : ℕ) → (a ⊕ b) * 2 ≡ a * 2 ⊕ b * 2
⊕-twice a b = by_halves ((a ⊕ b) * 2) (a * 2 ⊕ b * 2) (simp (⊕-half, half_twice)) (simp (⊕-odd, odd_twice, ⊕-self))
  where
    half_twice : (n : ℕ) → n * 2 / 2 ≡ n
    half_twice n = omega arith

    odd_twice : (n : ℕ) → n * 2 % 2 ≡ 0
    odd_twice n = omega arith

⊕-low : (a b : ℕ) → (a ⊕ b) % 128 ≡ a % 128 ⊕ b % 128
⊕-low a b = unfold ◌⊕◌ in xor_mod a b 7

⊕-high : (a b : ℕ) → (a ⊕ b) / 128 ≡ a / 128 ⊕ b / 128
⊕-high a b = unfold ◌⊕◌ in xor_shr a b 7

⊕-top : (a b : ℕ) → (a ⊕ b) / 128 % 2 ≡ a / 128 % 2 ⊕ b / 128 % 2
⊕-top a b = ap (λ (n : ℕ). n % 2) (⊕-high a b) ∙ ⊕-odd (a / 128) (b / 128)

pub ⊕-byte : (a b : ℕ) → (a ⊕ b) % 256 ≡ a % 256 ⊕ b % 256
⊕-byte a b = unfold ◌⊕◌ in xor_mod a b 8

pub double-⊕ : (a b : ℕ) → double (a ⊕ b) ≡ double a ⊕ double b
double-⊕ a b =
    unfold double in simp (
      ⊕-low,
      ⊕-twice,
      ⊕-top,
      bits_scale (a / 128 % 2) (b / 128 % 2) 29 (bit< (a / 128)) (bit< (b / 128)),
      ⊕-assoc,
      ⊕-comm,
    )

pub double_lt : (a : ℕ) → double a < 256
double_lt a = unfold double in ⊕-lt (a % 128 * 2) (a / 128 % 2 * 29) (omega arith) (omega arith)
