-- The parity of the ones under taps is linear.
--     parity_lt       it is 0 or 1
--     parity_xor      of a sum without carries it is the sum
use mathlib.Core.Path.{◌≡◌, refl, ap₂, ◌∙◌}
use Prim.Native.Nat.{ℕ, ◌+◌, ◌/◌, ◌%◌, ◌<◌, min}
use native.Mathlib.Omega.{arith}
use lib.Arith.{bin_ind}
use lib.Bits.{bit_and, bit_xor, and_step, and_zero_r, xor_shr, xor_mod}
use lib.Count.{ones, ones_step}
use Rattle.lists.proofs.Xor.{bit_sum, bit_cases}
use Rattle.rules.specs.Code.{parity}

pub parity_lt : (taps seven : ℕ) → parity taps seven < 2
parity_lt taps seven = unfold parity in omega arith

-- the lowest digit, and the rest
ones_and : (a t : ℕ) → ones (bit_and a t) ≡ min (a % 2) (t % 2) + ones (bit_and (a / 2) (t / 2))
ones_and a t =
    let e = and_step a t in
    ones_step (bit_and a t) ∙ ap₂ (λ (x y : ℕ). x + ones y) (omega arith) (omega arith)

-- of one digit
under : (x y z : ℕ) → x < 2 → y < 2 → min (bit_xor x y) z % 2 ≡ (min x z + min y z) % 2
under x y z hx hy =
    bit_cases (λ (u : ℕ). min (bit_xor u y) z % 2 ≡ (min u z + min y z) % 2)
    (bit_cases (λ (u : ℕ). min (bit_xor 0 u) z % 2 ≡ (min 0 z + min u z) % 2) (omega arith) (omega arith) y hy)
    (bit_cases (λ (u : ℕ). min (bit_xor 1 u) z % 2 ≡ (min 1 z + min u z) % 2) (omega arith) (omega arith) y hy) x hx

join : (u v w x a b : ℕ) → u % 2 ≡ (v + w) % 2 → x % 2 ≡ (a + b) % 2 → (u + x) % 2 ≡ (v + a + (w + b)) % 2
join u v w x a b p q = omega arith

sum_mod : (a b : ℕ) → (a + b) % 2 ≡ (a % 2 + b % 2) % 2
sum_mod a b = omega arith

abbrev Additive : ℕ → Type 0
Additive t = (a b : ℕ) → ones (bit_and (bit_xor a b) t) % 2 ≡ (ones (bit_and a t) + ones (bit_and b t)) % 2

ones_xor : (t : ℕ) → Additive t
unfolding ones
ones_xor = bin_ind Additive none more
  where
    none : Additive 0
    none a b = rw (and_zero_r (bit_xor a b), and_zero_r a, and_zero_r b) refl

    more : (t : ℕ) → Additive (t / 2) → Additive t
    more t ih a b =
        rw (ones_and (bit_xor a b) t, xor_mod a b 1, xor_shr a b 1, ones_and a t, ones_and b t)
        (join _ _ _ _ _ _ (under (a % 2) (b % 2) (t % 2) (omega arith) (omega arith)) (ih (a / 2) (b / 2)))

-- The parity of a sum without carries is the sum of the parities.
pub parity_xor : (taps a b : ℕ) → parity taps (bit_xor a b) ≡ bit_xor (parity taps a) (parity taps b)
unfolding parity
parity_xor taps a b = ones_xor taps a b ∙ sum_mod _ _ ∙ bit_sum _ _ (omega arith) (omega arith)
