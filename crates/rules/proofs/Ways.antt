-- The waits of the two ways.
--     Fits                        waits of at most 11 words that fill the 1,122 bytes of the memory
--     there_fits, back_fits       both ways' waits do
--     first_there, first_back     where their branches begin
--     both_waits                  the waits of the two ways come to 11 words
use mathlib.Core.Path.{◌≡◌, refl}
use Prim.Native.Nat.{ℕ, ◌+◌, ◌-◌, ◌*◌, ◌/◌, ◌<◌, ◌≤◌}
use native.Mathlib.Omega.{arith}
use lib.Dec.{eqb, eqb→eq}
use Rattle.lists.proofs.Every.{at}
use Rattle.lists.specs.Tab.{piece_start}
use Rattle.rules.specs.Bytes.{waits_there, waits_back, branch_start}

pub record Fits (waits : ℕ → ℕ) : Type 0 where
  pub full : branch_start waits 12 ≡ 1122
  pub most : (i : ℕ) → i < 12 → waits i ≤ 11

pub there_fits : Fits waits_there
there_fits = unfold waits_there piece_start in record { full = refl; most = λ i h. omega arith }

pub back_fits : Fits waits_back
back_fits = unfold waits_back piece_start in record { full = refl; most = λ i h. omega arith }

-- 17 × (0 + 1 + .. + (i − 1))
pub first_there : (i : ℕ) → i ≤ 12 → 17 * ((i * i - i) / 2) ≡ branch_start waits_there i
first_there i h =
    unfold waits_there piece_start in eqb→eq (17 * ((i * i - i) / 2)) (branch_start waits_there i)
    (at (λ (k : ℕ). eqb (17 * ((k * k - k) / 2)) (branch_start waits_there k)) 13 tt i (omega arith))

-- 17 × (11 + 10 + .. + (12 − i))
pub first_back : (i : ℕ) → i ≤ 12 → 17 * (i * (23 - i) / 2) ≡ branch_start waits_back i
first_back i h =
    unfold waits_back piece_start in eqb→eq (17 * (i * (23 - i) / 2)) (branch_start waits_back i)
    (at (λ (k : ℕ). eqb (17 * (k * (23 - k) / 2)) (branch_start waits_back k)) 13 tt i (omega arith))

pub both_waits : (i : ℕ) → i < 12 → waits_there i + waits_back i ≡ 11
both_waits i h = unfold waits_there waits_back in omega arith
