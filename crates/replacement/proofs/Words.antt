-- Where a packet's word stands among the others.
--     block_some, each_is, first_few     the blocks and the symbols of the words before it
use mathlib.Core.Path.{◌≡◌, refl}
use Prim.Native.Nat.{ℕ, ◌*◌, ◌/◌, ◌<◌, ◌≤◌}
use native.Mathlib.Nat.{mul-le-mul}
use native.Mathlib.Omega.{arith}
use Rattle.settings.specs.Sizes.{packets_by_rate}
use Rattle.settings.proofs.LegalSettings.{LegalRate, half, two_thirds, three_quarters, five_sixths, seven_eighths}
use Rattle.settings.proofs.LegalSettings.{LegalBits, qpsk, qam16, qam64}
use Rattle.rules.proofs.Counts.{per_block, whole_blocks, counted, each}

pub block_some : {rate : ℕ} → LegalRate rate → 0 < packets_by_rate rate
block_some legal = let less = (counted legal 0).few in omega arith

-- 24 kept bits are so many symbols
pub each_is : {v : ℕ} → LegalBits v → 24 / v ≡ per_block v
unfolding per_block
each_is qpsk = refl
each_is qam16 = refl
each_is qam64 = refl

blocks_few : {rate : ℕ} → LegalRate rate → (number : ℕ) → number ≤ 3276
    → whole_blocks (packets_by_rate rate) number ≤ 445536
unfolding packets_by_rate
blocks_few half number few = omega arith
blocks_few two_thirds number few = omega arith
blocks_few three_quarters number few = omega arith
blocks_few five_sixths number few = omega arith
blocks_few seven_eighths number few = omega arith

pub first_few : {rate v : ℕ} → LegalRate rate → LegalBits v → (size number : ℕ) → size ≡ packets_by_rate rate
    → number ≤ 3276 → 24 / v * (1632 * number / size) ≤ 5346432
first_few rate_legal bits-legal size number e few =
    rw (e, each_is bits-legal) (mul-le-mul (each bits-legal).few (blocks_few rate_legal number few))
