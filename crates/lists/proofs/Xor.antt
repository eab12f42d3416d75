-- `bit_xor`, the sum without carries: what its shuffles give.
--     xor_assoc        (a + b) + c is a + (b + c)
--     xor_exchange     (a + b) + (c + d) is (a + c) + (b + d)
--     xor_middle       (a + b) + (b + c) is a + c
--     xor_cancel       (a + b) + b is a
--     bit_cases        a digit is 0 or 1
--     bit_sum          the sum modulo 2 of two digits
use mathlib.Core.Path.{◌≡◌, refl, sym, ap, ◌∙◌}
use Prim.Native.Nat.{ℕ, zero, suc, ◌+◌, ◌/◌, ◌%◌, ◌<◌}
use native.Mathlib.Omega.{arith}
use lib.Arith.{bin_ind}
use lib.Bits.{bit_xor, xor_comm, xor_zero_r, xor_self, xor_shr, xor_mod}

-- the sum, shut, so that `simp` sorts it
infixl 60 ◌⊕◌
unfoldable ◌⊕◌ : ℕ → ℕ → ℕ
a ⊕ b = bit_xor a b

pub by_halves : (a b : ℕ) → a / 2 ≡ b / 2 → a % 2 ≡ b % 2 → a ≡ b
by_halves a b p q = omega arith

comm : (a b : ℕ) → a ⊕ b ≡ b ⊕ a
comm a b = unfold ◌⊕◌ in xor_comm a b

right_zero : (a : ℕ) → a ⊕ 0 ≡ a
right_zero a = unfold ◌⊕◌ in xor_zero_r a

left_zero : (a : ℕ) → 0 ⊕ a ≡ a
left_zero a = unfold ◌⊕◌ in refl

self : (a : ℕ) → a ⊕ a ≡ 0
self a = unfold ◌⊕◌ in xor_self a

half : (a b : ℕ) → (a ⊕ b) / 2 ≡ a / 2 ⊕ b / 2
half a b = unfold ◌⊕◌ in xor_shr a b 1

odd : (a b : ℕ) → (a ⊕ b) % 2 ≡ a % 2 ⊕ b % 2
odd a b = unfold ◌⊕◌ in xor_mod a b 1

pub bit_cases : (P : ℕ → Type 0) → P 0 → P 1 → (x : ℕ) → x < 2 → P x
bit_cases P p q zero h = p
bit_cases P p q (suc zero) h = q
bit_cases P p q (suc (suc x)) h = absurd (omega arith)

bit< : (n : ℕ) → n % 2 < 2
bit< n = omega arith

bit_assoc : (x y z : ℕ) → x < 2 → y < 2 → z < 2 → (x ⊕ y) ⊕ z ≡ x ⊕ (y ⊕ z)
bit_assoc x y z hx hy hz =
    bit_cases (λ (u : ℕ). (u ⊕ y) ⊕ z ≡ u ⊕ (y ⊕ z)) (simp left_zero)
    (bit_cases (λ (u : ℕ). (1 ⊕ u) ⊕ z ≡ 1 ⊕ (u ⊕ z)) (simp (left_zero, right_zero))
    (bit_cases (λ (u : ℕ). (1 ⊕ 1) ⊕ u ≡ 1 ⊕ (1 ⊕ u)) (simp (self, right_zero)) (simp (self, left_zero, right_zero))
    z hz) y hy) x hx

assoc : (a b c : ℕ) → (a ⊕ b) ⊕ c ≡ a ⊕ (b ⊕ c)
assoc =
    bin_ind (λ (n : ℕ). (b c : ℕ) → (n ⊕ b) ⊕ c ≡ n ⊕ (b ⊕ c)) (λ b c. simp left_zero)
    (λ n ih b c. by_halves ((n ⊕ b) ⊕ c) (n ⊕ (b ⊕ c)) (simp half (ih (b / 2) (c / 2)))
    (simp odd (bit_assoc (n % 2) (b % 2) (c % 2) (bit< n) (bit< b) (bit< c))))

left_comm : (a b c : ℕ) → a ⊕ (b ⊕ c) ≡ b ⊕ (a ⊕ c)
left_comm a b c = sym (assoc a b c) ∙ ap (λ (x : ℕ). x ⊕ c) (comm a b) ∙ assoc b a c

cancel : (a b : ℕ) → a ⊕ (a ⊕ b) ≡ b
cancel a b = sym (assoc a a b) ∙ ap (λ (x : ℕ). x ⊕ b) (self a) ∙ left_zero b

exchange : (a b c d : ℕ) → (a ⊕ b) ⊕ (c ⊕ d) ≡ (a ⊕ c) ⊕ (b ⊕ d)
exchange a b c d = simp (assoc, left_comm)

middle : (a b c : ℕ) → (a ⊕ b) ⊕ (b ⊕ c) ≡ a ⊕ c
middle a b c = assoc a b (b ⊕ c) ∙ ap (λ (x : ℕ). a ⊕ x) (cancel b c)

pub xor_assoc : (a b c : ℕ) → bit_xor (bit_xor a b) c ≡ bit_xor a (bit_xor b c)
xor_assoc = unfold ◌⊕◌ in assoc

pub xor_exchange : (a b c d : ℕ) → bit_xor (bit_xor a b) (bit_xor c d) ≡ bit_xor (bit_xor a c) (bit_xor b d)
xor_exchange = unfold ◌⊕◌ in exchange

pub xor_middle : (a b c : ℕ) → bit_xor (bit_xor a b) (bit_xor b c) ≡ bit_xor a c
xor_middle = unfold ◌⊕◌ in middle

pub xor_cancel : (a b : ℕ) → bit_xor (bit_xor a b) b ≡ a
xor_cancel a b = unfold ◌⊕◌ in assoc a b b ∙ ap (λ (x : ℕ). bit_xor a x) (self b) ∙ right_zero a

pub bit_sum : (x y : ℕ) → x < 2 → y < 2 → (x + y) % 2 ≡ bit_xor x y
bit_sum x y hx hy =
    bit_cases (λ (u : ℕ). (u + y) % 2 ≡ bit_xor u y)
    (bit_cases (λ (u : ℕ). (0 + u) % 2 ≡ bit_xor 0 u) refl refl y hy)
    (bit_cases (λ (u : ℕ). (1 + u) % 2 ≡ bit_xor 1 u) refl refl y hy) x hx
