-- The bits of a number in the other order.
--     turned_lt                                 a bound
--     turned_digit                              a bit of it
--     turned_xor                                it is linear
--     digit_mod                                 a low bit, of the low bits alone
--     turned_mod                                only the low bits count
--     turned_more                               one more bit
--     turned_reverse                            the library's method turns eight bits
use mathlib.Core.Path.{◌≡◌, refl, sym, ap, ◌∙◌}
use Prim.Native.Nat.{ℕ, zero, suc, ◌+◌, ◌-◌, ◌*◌, ◌/◌, ◌%◌, ◌^◌, ◌<◌}
use native.Mathlib.Nat.{add-zero, pow-suc, div-div-eq-div-mul}
use native.Mathlib.Numerals.{add-one}
use native.Mathlib.Omega.{arith}
use lib.Pow.{field, mod-mod-pow}
use mir.Syntax.{w8}
use Rattle.std.specs.Int.{reverse_bits, reverse_bits_onto}
use lib.Bits.{bit_xor}
use Rattle.lists.specs.Binary.{binary}
use Rattle.lists.proofs.Binaries.{binary_cong, binary_front, binary_lt, binary_digit, binary_xor}
use Rattle.convolutional_code.specs.CodeTable.{turned}
use Rattle.rules.proofs.CodeLinear.{digit_xor}

bit_lt : (bits k : ℕ) → bits / 2 ^ k % 2 < 2
bit_lt bits k = let x = bits / 2 ^ k in omega arith

pub turned_lt : (count bits : ℕ) → turned count bits < 2 ^ count
turned_lt count bits = unfold turned in binary_lt count _ (bit_lt bits)

pub turned_digit : (count bits k : ℕ) → k < count → turned count bits / 2 ^ (count - 1 - k) % 2 ≡ bits / 2 ^ k % 2
turned_digit count bits k lt =
    unfold turned in let p : count ≡ suc k + (count - 1 - k) = omega arith in
    ap (λ (m : ℕ). binary m (λ i. bits / 2 ^ i % 2) / 2 ^ (count - 1 - k) % 2) p
    ∙ binary_digit k (count - 1 - k) (λ i. bits / 2 ^ i % 2) (bit_lt bits)

pub turned_xor : (count a b : ℕ) → turned count (bit_xor a b) ≡ bit_xor (turned count a) (turned count b)
unfolding turned
turned_xor count a b =
    binary_cong count _ _ (λ k lt. digit_xor a b k) ∙ sym (binary_xor count _ _ (bit_lt a) (bit_lt b))

pub digit_mod : (bits count k : ℕ) → k < count → bits % 2 ^ count / 2 ^ k % 2 ≡ bits / 2 ^ k % 2
digit_mod bits count k lt =
    let p : count ≡ count - k + k = omega arith in
    let q : count - k ≡ count - k - 1 + 1 = omega arith in
    ap (λ (m : ℕ). bits % 2 ^ m / 2 ^ k % 2) p ∙ ap (λ (x : ℕ). x % 2) (field bits (count - k) k)
    ∙ ap (λ (m : ℕ). bits / 2 ^ k % 2 ^ m % 2) q ∙ mod-mod-pow (bits / 2 ^ k) (count - k - 1) 1

pub turned_mod : (count bits : ℕ) → turned count (bits % 2 ^ count) ≡ turned count bits
turned_mod count bits = unfold turned in binary_cong count _ _ (λ k lt. digit_mod bits count k lt)

-- ---- by the method that turns all eight bits

pub turned_more : (count bits result : ℕ) → result ≡ turned count bits
    → result * 2 + bits / 2 ^ count % 2 ≡ turned (count + 1) bits
unfolding turned binary
turned_more count bits result e = ap (λ (x : ℕ). x * 2 + bits / 2 ^ count % 2) e ∙ rw add-one refl

turning : (k j n a : ℕ) → a ≡ turned j n → reverse_bits_onto k (n / 2 ^ j) a ≡ turned (j + k) n
unfolding reverse_bits_onto
turning zero j n a e = e ∙ ap (λ (m : ℕ). turned m n) (sym (add-zero j))
turning (suc k) j n a e =
    rw (div-div-eq-div-mul n (2 ^ j) 2, ← pow-suc 2 j)
    (turning k (suc j) n (a * 2 + n / 2 ^ j % 2)
    (turned_more j n a e ∙ ap (λ (m : ℕ). turned m n) {x = j + 1} {y = suc j} (omega arith))
    ∙ ap (λ (m : ℕ). turned m n) (omega arith))

pub turned_reverse : (below count bits : ℕ) → count + below ≡ 8 → reverse_bits w8 bits / 2 ^ below ≡ turned count bits
turned_reverse below count bits e =
    ap (λ (x : ℕ). x / 2 ^ below) all
    ∙ (unfold turned in binary_front count below (λ k. bits / 2 ^ k % 2) (bit_lt bits))
  where
    none : 0 ≡ turned 0 bits
    none = unfold turned binary in refl

    whole : bits / 2 ^ 0 ≡ bits
    whole = omega arith

    all : reverse_bits w8 bits ≡ turned (count + below) bits
    all = ap (λ (x : ℕ). reverse_bits_onto 8 x 0) (sym whole) ∙ turning 8 0 bits 0 none
        ∙ ap (λ (m : ℕ). turned m bits) (omega arith)
