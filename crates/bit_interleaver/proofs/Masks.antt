-- Digits taken out of several numbers by masks and joined to one number: the carrier that its symbols give.
--     mask_digit                  a mask of one digit
--     or_digit                    one digit more behind others
--     masks_2, masks_4, masks_6   so many of them
use mathlib.Core.Path.{◌≡◌, sym, ap, ◌∙◌}
use mathlib.Core.List.{List}
use Prim.Native.Nat.{ℕ, suc, ◌+◌, ◌-◌, ◌*◌, ◌/◌, ◌%◌, ◌^◌, ◌<◌, ◌≤◌}
use native.Mathlib.Nat.{pow-suc, add-mul, mul_assoc, mul_comm, mul-le-mul_right}
use native.Mathlib.Omega.{arith}
use lib.Pow.{pow_pos}
use lib.Bits.{bit_and, bit_or, and_high, or_shifted}
use lib.ListN.{get_or}
use Rattle.lists.specs.Binary.{binary, bit_of}
use Rattle.rules.specs.Bits.{delay_of}
use Rattle.bit_interleaver.specs.Symbols.{carrier_from}

pub mask_digit : (s k : ℕ) → bit_and s (2 ^ k) ≡ s / 2 ^ k % 2 * 2 ^ k
mask_digit s k =
    let e : 2 ^ (1 + k) - 2 ^ k ≡ 2 ^ k =
    (let p = pow-suc 2 k in let q = ap (λ (n : ℕ). 2 ^ n) {x = 1 + k} {y = suc k} (omega arith) in omega arith) in
    ap (λ (m : ℕ). bit_and s m) (sym e) ∙ and_high s 1 k

pub or_digit : (x s k : ℕ) → bit_or (x * 2 ^ suc k) (bit_and s (2 ^ k)) ≡ (x * 2 + s / 2 ^ k % 2) * 2 ^ k
or_digit x s k =
    ap (λ (m : ℕ). bit_or (x * 2 ^ suc k) m) (mask_digit s k) ∙ or_shifted x (suc k) (d * 2 ^ k) small
    ∙ sum (2 ^ k) (2 ^ suc k) (pow-suc 2 k)
  where
    d : ℕ
    d = s / 2 ^ k % 2

    small : d * 2 ^ k < 2 ^ suc k
    small =
        let le : d * 2 ^ k ≤ 1 * 2 ^ k = mul-le-mul_right (2 ^ k) (omega arith) in
        omega (arith, pow-suc 2 k, pow_pos k)

    sum : (p q : ℕ) → q ≡ p * 2 → x * q + d * p ≡ (x * 2 + d) * p
    sum p q e =
        ap (λ (n : ℕ). x * n + d * p) e
        ∙ ap (λ (n : ℕ). n + d * p) (ap (λ (n : ℕ). x * n) (mul_comm p 2) ∙ sym (mul_assoc x 2 p))
        ∙ sym (add-mul (x * 2) d p)

module _ (s : ℕ → ℕ) where
  digits_2 : bit_or (bit_and (s 0) 2) (bit_and (s 1) 1) ≡ binary 2 (λ l. bit_of 2 (s l) l)
  unfolding binary
  digits_2 =
      ap (λ (x : ℕ). bit_or x (bit_and (s 1) 1)) (mask_digit (s 0) 1) ∙ or_digit (s 0 / 2 % 2) (s 1) 0
      ∙ omega arith

  digits_4 : bit_or (bit_or (bit_or (bit_and (s 0) 8) (bit_and (s 1) 4)) (bit_and (s 2) 2)) (bit_and (s 3) 1)
      ≡ binary 4 (λ l. bit_of 4 (s l) l)
  digits_4 =
      unfold binary in let d0 = s 0 / 8 % 2 in
      let d1 = d0 * 2 + s 1 / 4 % 2 in
      let d2 = d1 * 2 + s 2 / 2 % 2 in
      ap (λ (x : ℕ). bit_or (bit_or (bit_or x (bit_and (s 1) 4)) (bit_and (s 2) 2)) (bit_and (s 3) 1))
      (mask_digit (s 0) 3)
      ∙ ap (λ (x : ℕ). bit_or (bit_or x (bit_and (s 2) 2)) (bit_and (s 3) 1)) (or_digit d0 (s 1) 2)
      ∙ ap (λ (x : ℕ). bit_or x (bit_and (s 3) 1)) (or_digit d1 (s 2) 1) ∙ or_digit d2 (s 3) 0 ∙ omega arith

  digits_6 :
      bit_or (bit_or (bit_or (bit_or (bit_or (bit_and (s 0) 32) (bit_and (s 1) 16)) (bit_and (s 2) 8))
      (bit_and (s 3) 4))
      (bit_and (s 4) 2)) (bit_and (s 5) 1) ≡ binary 6 (λ l. bit_of 6 (s l) l)
  unfolding binary
  digits_6 =
      let m1 = bit_and (s 1) 16 in
      let m2 = bit_and (s 2) 8 in
      let m3 = bit_and (s 3) 4 in
      let m4 = bit_and (s 4) 2 in
      let m5 = bit_and (s 5) 1 in
      let d0 = s 0 / 32 % 2 in
      let d1 = d0 * 2 + s 1 / 16 % 2 in
      let d2 = d1 * 2 + s 2 / 8 % 2 in
      let d3 = d2 * 2 + s 3 / 4 % 2 in
      let d4 = d3 * 2 + s 4 / 2 % 2 in
      ap (λ (x : ℕ). bit_or (bit_or (bit_or (bit_or (bit_or x m1) m2) m3) m4) m5) (mask_digit (s 0) 5)
      ∙ ap (λ (x : ℕ). bit_or (bit_or (bit_or (bit_or x m2) m3) m4) m5) (or_digit d0 (s 1) 4)
      ∙ ap (λ (x : ℕ). bit_or (bit_or (bit_or x m3) m4) m5) (or_digit d1 (s 2) 3)
      ∙ ap (λ (x : ℕ). bit_or (bit_or x m4) m5) (or_digit d2 (s 3) 2)
      ∙ ap (λ (x : ℕ). bit_or x m5) (or_digit d3 (s 4) 1) ∙ or_digit d4 (s 5) 0 ∙ omega arith

-- ---- the carrier of symbol j, line l being read at its place

module _ (symbols : List ℕ) (j : ℕ) where
  pub masks_2 : (p0 p1 : ℕ) → p0 ≡ 120 + j - delay_of 2 0 → p1 ≡ 120 + j - delay_of 2 1
      → bit_or (bit_and (get_or symbols p0 0) 2) (bit_and (get_or symbols p1 0) 1) ≡ carrier_from 2 symbols j
  unfolding carrier_from
  masks_2 p0 p1 e0 e1 = rw (e0, e1) (digits_2 (λ l. get_or symbols (120 + j - delay_of 2 l) 0))

  pub masks_4 : (p0 p1 p2 p3 : ℕ)
      → p0 ≡ 120 + j - delay_of 4 0 → p1 ≡ 120 + j - delay_of 4 1 → p2 ≡ 120 + j - delay_of 4 2
      → p3 ≡ 120 + j - delay_of 4 3 → bit_or
      (bit_or (bit_or (bit_and (get_or symbols p0 0) 8) (bit_and (get_or symbols p1 0) 4))
      (bit_and (get_or symbols p2 0) 2))
      (bit_and (get_or symbols p3 0) 1) ≡ carrier_from 4 symbols j
  unfolding carrier_from
  masks_4 p0 p1 p2 p3 e0 e1 e2 e3 =
      rw (e0, e1, e2, e3) (digits_4 (λ l. get_or symbols (120 + j - delay_of 4 l) 0))

  pub masks_6 : (p0 p1 p2 p3 p4 p5 : ℕ)
      → p0 ≡ 120 + j - delay_of 6 0 → p1 ≡ 120 + j - delay_of 6 1 → p2 ≡ 120 + j - delay_of 6 2
      → p3 ≡ 120 + j - delay_of 6 3 → p4 ≡ 120 + j - delay_of 6 4 → p5 ≡ 120 + j - delay_of 6 5
      → bit_or (bit_or (bit_or (bit_or (bit_or (bit_and (get_or symbols p0 0) 32) (bit_and (get_or symbols p1 0) 16))
      (bit_and (get_or symbols p2 0) 8)) (bit_and (get_or symbols p3 0) 4)) (bit_and (get_or symbols p4 0) 2))
      (bit_and (get_or symbols p5 0) 1) ≡ carrier_from 6 symbols j
  unfolding carrier_from
  masks_6 p0 p1 p2 p3 p4 p5 e0 e1 e2 e3 e4 e5 =
      rw (e0, e1, e2, e3, e4, e5) (digits_6 (λ l. get_or symbols (120 + j - delay_of 6 l) 0))
