-- How many symbols and blocks there are, by v and by the rate, and that they fit.
--     per_block_none, per_block_some, per_block_most    no symbols a block where v is not legal, and never more than
--                                                       12
--     shift_one                                         1 shifted up
--     SymbolFits, symbol_fits                           the shift that takes a symbol out of 24 bits
--     symbol_divisor, symbol_byte, symbol_is            the symbol, a byte
--     blocks_few, block_inside                          a word completes at most 136 blocks, and they end in it
--     blocks_are                                        the number of blocks as the program counts it
--     count_few, place_inside                           so it has at most 1,632 symbols
--     size_none, LegalSize, size_some                   which numbers are rates, by the length of their blocks
use mathlib.Core.Path.{◌≡◌, refl, ap, ◌∙◌}
use mathlib.Core.Bool.{true, false}
use Prim.Native.Nat.{ℕ, zero, suc, ◌+◌, ◌-◌, ◌*◌, ◌/◌, ◌%◌, ◌^◌, ◌<◌, ◌≤◌}
use native.Mathlib.Nat.{mul-add, mul-div-le, mul-le-mul, mul-le-mul_left, div-lt_iff_lt-mul}
use native.Mathlib.Decide.{ℕ_discrete}
use native.Mathlib.Omega.{arith}
use lib.Pow.{shl_exact}
use borrow.Author.Tests.{ne_eqb}
use Rattle.lists.specs.Tests.{between}
use Rattle.lists.proofs.Betweens.{between_above}
use Rattle.settings.specs.Legal.{legal_rate}
use Rattle.settings.specs.Sizes.{packets_by_rate}
use Rattle.settings.proofs.LegalSettings.{LegalBits, qpsk, qam16, qam64}
use Rattle.bit_interleaver.specs.Symbols.{symbol_of}
use Rattle.rules.proofs.Counts.{per_block, blocks_in}

-- ---- by v

pub per_block_none : (v : ℕ) → (v ≡ 6 → ⊥) → (v ≡ 4 → ⊥) → (v ≡ 2 → ⊥) → 0 ≡ per_block v
per_block_none v a b c = unfold per_block in simp (ne_eqb v 6 a, ne_eqb v 4 b, ne_eqb v 2 c)

pub per_block_most : (v : ℕ) → per_block v ≤ 12
unfolding per_block
per_block_most v = go (ℕ_discrete v 6) (ℕ_discrete v 4) (ℕ_discrete v 2)
  where
    go : Dec (v ≡ 6) → Dec (v ≡ 4) → Dec (v ≡ 2) → per_block v ≤ 12
    go (yes a) b c = rw a (omega arith)
    go (no a) (yes b) c = rw b (omega arith)
    go (no a) (no b) (yes c) = rw c (omega arith)
    go (no a) (no b) (no c) = let none = per_block_none v a b c in omega arith

pub per_block_some : {v w : ℕ} → LegalBits w → v ≡ w → 0 < per_block v
unfolding per_block
per_block_some qpsk e = rw e (omega arith)
per_block_some qam16 e = rw e (omega arith)
per_block_some qam64 e = rw e (omega arith)

pub shift_one : (k w : ℕ) → k < w → (1 * 2 ^ k) % 2 ^ w ≡ 2 ^ k
shift_one k w h = shl_exact 1 k w (omega arith) (omega arith) ∙ omega arith

pub record SymbolFits (v q : ℕ) : Type 0 where
  pub few : v ≤ 6
  pub inside : q * v + v ≤ 24

pub symbol_fits : {v : ℕ} → LegalBits v → (q : ℕ) → q < per_block v → SymbolFits v q
unfolding per_block
symbol_fits qpsk q h = record { few = omega arith; inside = omega arith }
symbol_fits qam16 q h = record { few = omega arith; inside = omega arith }
symbol_fits qam64 q h = record { few = omega arith; inside = omega arith }

-- the shifted bits are divided by it
pub symbol_divisor : {v : ℕ} → LegalBits v → 0 < (1 * 2 ^ v) % 2 ^ 32
symbol_divisor qpsk = omega arith
symbol_divisor qam16 = omega arith
symbol_divisor qam64 = omega arith

pub symbol_byte : {v : ℕ} → LegalBits v → (x : ℕ) → x % ((1 * 2 ^ v) % 2 ^ 32) < 256
symbol_byte qpsk x = omega arith
symbol_byte qam16 x = omega arith
symbol_byte qam64 x = omega arith

pub symbol_is : (v bits q : ℕ) → v ≤ 6 → bits / 2 ^ (24 - v - q * v) % ((1 * 2 ^ v) % 2 ^ 32) ≡ symbol_of v bits q
unfolding symbol_of
symbol_is v bits q few = ap (λ (x : ℕ). bits / 2 ^ (24 - v - q * v) % x) (shift_one v 32 (omega arith))

-- ---- by the block's length

module _ (size left : ℕ) (least : 12 ≤ size) (less : left < size) where
  pub blocks_few : (left + 1632) / size ≤ 136
  blocks_few =
      let less-than = div-lt_iff_lt-mul {k = size} {x = left + 1632} {y = 137} (omega arith) in
      let few = less-than.1 (omega arith) in
      omega arith

  pub block_inside : (s : ℕ) → s < (left + 1632) / size → size * s + size ≤ left + 1632
  block_inside s h =
      let most : size * (s + 1) ≤ size * ((left + 1632) / size) = mul-le-mul_left size (omega arith) in
      let split = mul-add size s 1 in
      let all = mul-div-le (left + 1632) size in
      omega arith

  pub count_few : (v each : ℕ) → each ≡ per_block v → (left + 1632) / size * each ≤ 1632
  count_few v each e =
      let most : each ≤ 12 = omega (arith, per_block_most v) in
      mul-le-mul blocks_few most

pub blocks_are : (size left n : ℕ) → n ≡ blocks_in size left → n ≡ (left + 1632) / size
blocks_are size left n e = unfold blocks_in in e

pub place_inside : (blocks v each s q : ℕ) → blocks ≤ 136 → each ≡ per_block v → s < blocks → q < each
    → each * s + q < 1632
place_inside blocks v each s q few e h lt =
    let most : each ≤ 12 = omega (arith, per_block_most v) in
    let most-before : each * s ≤ 12 * s = mul-le-mul most (omega arith) in
    omega arith

-- ---- by the rate

pub size_none : (rate : ℕ) → packets_by_rate rate ≡ 0 → legal_rate rate ≡ false
unfolding packets_by_rate between
size_none zero e = refl
size_none (suc zero) e = absurd (omega arith)
size_none (suc (suc zero)) e = absurd (omega arith)
size_none (suc (suc (suc zero))) e = absurd (omega arith)
size_none (suc (suc (suc (suc zero)))) e = absurd (omega arith)
size_none (suc (suc (suc (suc (suc zero))))) e = absurd (omega arith)
size_none (suc (suc (suc (suc (suc (suc rate)))))) e =
    between_above 1 5 (suc (suc (suc (suc (suc (suc rate)))))) (omega arith)

pub record LegalSize (rate : ℕ) : Type 0 where
  pub legal : legal_rate rate ≡ true
  pub least : 12 ≤ packets_by_rate rate
  pub most : packets_by_rate rate ≤ 21

pub size_some : (rate : ℕ) → (packets_by_rate rate ≡ 0 → ⊥) → LegalSize rate
unfolding packets_by_rate between
size_some zero some = absurd (some refl)
size_some (suc zero) some = record { legal = refl; least = omega arith; most = omega arith }
size_some (suc (suc zero)) some = record { legal = refl; least = omega arith; most = omega arith }
size_some (suc (suc (suc zero))) some = record { legal = refl; least = omega arith; most = omega arith }
size_some (suc (suc (suc (suc zero)))) some = record { legal = refl; least = omega arith; most = omega arith }
size_some (suc (suc (suc (suc (suc zero))))) some = record { legal = refl; least = omega arith; most = omega arith }
size_some (suc (suc (suc (suc (suc (suc rate)))))) some = absurd (some refl)
