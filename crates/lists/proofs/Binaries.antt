-- Numbers given by their binary digits, the first one highest.
--     binary_cong                     equal digits give one number
--     binary_lt                       n digits are below 2 ^ n
--     binary_join                     of two runs of digits one behind the other
--     binary_front, binary_back       the two runs again
--     binary_slice                    the middle one of three runs again
--     binary_digit, binary_place      one digit again, by the digits behind it and by its place
--     binary_digits                   the digits of a number give it back
--     binary_xor                      the sum without carries is taken digit by digit
use mathlib.Core.Path.{◌≡◌, refl, sym, ap, ap₂, ◌∙◌}
use Prim.Native.Nat.{ℕ, zero, suc, ◌+◌, ◌-◌, ◌*◌, ◌/◌, ◌%◌, ◌^◌, ◌<◌}
use native.Mathlib.Nat.{pow-suc, mul_comm, mul_assoc, add-zero, add-suc, div-div-eq-div-mul}
use native.Mathlib.Omega.{arith}
use lib.Arith.{digits_div, digits_mod, mod-mul}
use lib.Pow.{pow_pos}
use lib.Bits.{bit_xor, xor_block}
use Rattle.lists.specs.Binary.{binary}

pub binary_cong : (n : ℕ) (f g : ℕ → ℕ) → ((l : ℕ) → l < n → f l ≡ g l) → binary n f ≡ binary n g
unfolding binary
binary_cong zero f g h = refl
binary_cong (suc n) f g h =
    ap₂ (λ (x y : ℕ). x * 2 + y) (binary_cong n f g (λ l lt. h l (omega arith))) (h n (omega arith))

pub binary_lt : (n : ℕ) (f : ℕ → ℕ) → ((l : ℕ) → f l < 2) → binary n f < 2 ^ n
unfolding binary
binary_lt zero f h = omega arith
binary_lt (suc n) f h = let i = binary_lt n f h in let b = h n in let e = pow-suc 2 n in omega arith

pub binary_join : (a b : ℕ) (f : ℕ → ℕ) → binary (a + b) f ≡ binary a f * 2 ^ b + binary b (λ l. f (a + l))
unfolding binary
binary_join a zero f = let e = ap (λ (k : ℕ). binary k f) (add-zero a) in omega arith
binary_join a (suc b) f =
    ap (λ (k : ℕ). binary k f) (add-suc a b) ∙ ap (λ (x : ℕ). x * 2 + f (a + b)) (binary_join a b f)
    ∙ more (binary a f) (2 ^ b) (2 ^ suc b) (binary b (λ l. f (a + l))) (f (a + b)) (pow-suc 2 b)
  where
    more : (x p q y d : ℕ) → q ≡ p * 2 → (x * p + y) * 2 + d ≡ x * q + (y * 2 + d)
    more x p q y d e = let m = mul_assoc x p 2 in rw e (omega arith)

module _ (a b : ℕ) (f : ℕ → ℕ) (bits : (l : ℕ) → f l < 2) where
  pub binary_front : binary (a + b) f / 2 ^ b ≡ binary a f
  binary_front = ap (λ (x : ℕ). x / 2 ^ b) (binary_join a b f)
      ∙ digits_div (binary a f) (binary_lt b (λ l. f (a + l)) (λ l. bits (a + l)))

  pub binary_back : binary (a + b) f % 2 ^ b ≡ binary b (λ l. f (a + l))
  binary_back = ap (λ (x : ℕ). x % 2 ^ b) (binary_join a b f)
      ∙ digits_mod (binary a f) (binary_lt b (λ l. f (a + l)) (λ l. bits (a + l)))

pub binary_slice : (a b c : ℕ) (f : ℕ → ℕ) → ((l : ℕ) → f l < 2)
    → binary (a + b + c) f / 2 ^ c % 2 ^ b ≡ binary b (λ l. f (a + l))
binary_slice a b c f bits = ap (λ (x : ℕ). x % 2 ^ b) (binary_front (a + b) c f bits) ∙ binary_back a b f bits

pub binary_digit : (l r : ℕ) (f : ℕ → ℕ) → ((k : ℕ) → f k < 2) → binary (suc l + r) f / 2 ^ r % 2 ≡ f l
binary_digit l r f bits =
    unfold binary in ap (λ (x : ℕ). x % 2) (binary_front (suc l) r f bits) ∙ (let b = bits l in omega arith)

pub binary_place : (n l : ℕ) (f : ℕ → ℕ) → ((k : ℕ) → f k < 2) → l < n → binary n f / 2 ^ (n - 1 - l) % 2 ≡ f l
binary_place n l f bits h =
    let e : n ≡ suc l + (n - 1 - l) = omega arith in
    ap (λ (k : ℕ). binary k f / 2 ^ (n - 1 - l) % 2) e ∙ binary_digit l (n - 1 - l) f bits

pub binary_digits : (n x : ℕ) → binary n (λ l. x / 2 ^ (n - 1 - l) % 2) ≡ x % 2 ^ n
unfolding binary
binary_digits zero x = omega arith
binary_digits (suc n) x =
    ap₂ (λ (y z : ℕ). y * 2 + z)
    (binary_cong n (λ l. x / 2 ^ (suc n - 1 - l) % 2) (λ l. x / 2 / 2 ^ (n - 1 - l) % 2) shift
    ∙ binary_digits n (x / 2)) last
    ∙ sym (mod-mul x (pow_pos n) (omega arith)) ∙ ap (λ (p : ℕ). x % p) (sym (pow-suc 2 n))
  where
    shift : (l : ℕ) → l < n → x / 2 ^ (suc n - 1 - l) % 2 ≡ x / 2 / 2 ^ (n - 1 - l) % 2
    shift l lt =
        let p : suc n - 1 - l ≡ suc (n - 1 - l) = omega arith in
        ap (λ (k : ℕ). x / 2 ^ k % 2) p
        ∙ ap (λ (m : ℕ). x / m % 2) (pow-suc 2 (n - 1 - l) ∙ mul_comm (2 ^ (n - 1 - l)) 2)
        ∙ ap (λ (m : ℕ). m % 2) (sym (div-div-eq-div-mul x 2 (2 ^ (n - 1 - l))))

    last : x / 2 ^ (suc n - 1 - n) % 2 ≡ x % 2
    last = let p : suc n - 1 - n ≡ 0 = omega arith in rw p (omega arith)

pub binary_xor : (n : ℕ) (f g : ℕ → ℕ) → ((l : ℕ) → f l < 2) → ((l : ℕ) → g l < 2)
    → bit_xor (binary n f) (binary n g) ≡ binary n (λ l. bit_xor (f l) (g l))
unfolding binary
binary_xor zero f g h k = refl
binary_xor (suc n) f g h k =
    xor_block 1 (binary n f) (binary n g) (f n) (g n) (h n) (k n)
    ∙ ap (λ (x : ℕ). x * 2 + bit_xor (f n) (g n)) (binary_xor n f g h k)
