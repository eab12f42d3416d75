-- A block's kept bits are linear in its bits, so that the table gives them by half bytes.
--     legal_true          a legal rate passes the test
--     sixteen_power       a power of 16 as one of 2
--     block_xor           of a sum without carries it is the sum
--     table_is_block      the entries of a rate's table for the half bytes of a block's bits add up to its kept bits
--     bits_lt             a block's bits are at most 27
--     block_by_table      so the table gives kept bits 24 s to 24 s + 23 from block s
use mathlib.Core.Path.{◌≡◌, refl, sym, ap, ap₂, ◌∙◌}
use mathlib.Core.Bool.{true, cond}
use Prim.Native.Nat.{ℕ, zero, suc, ◌+◌, ◌-◌, ◌*◌, ◌/◌, ◌%◌, ◌^◌, ◌≤◌, ◌<◌}
use native.Mathlib.Nat.{pow-suc, lt_of_lt_of_le, mod-lt}
use native.Mathlib.Omega.{arith}
use lib.Arith.{mod-mul}
use lib.Pow.{pow_pos, pow_mono}
use lib.Bits.{bit_xor, xor_shr, xor_shifted, xor_comm, xor_self}
use lib.ListN.{get_or}
use Rattle.lists.specs.Tests.{between}
use Rattle.lists.proofs.Binaries.{binary_cong, binary_lt, binary_xor}
use Rattle.lists.proofs.Tabs.{get_d_tab}
use Rattle.settings.specs.Legal.{legal_rate}
use Rattle.settings.specs.Sizes.{packets_by_rate}
use Rattle.settings.proofs.Frame.{rate_most}
use Rattle.settings.proofs.LegalSettings.{LegalRate, half, two_thirds, three_quarters, five_sixths, seven_eighths}
use Rattle.convolutional_code.specs.CodeTable.{turned}
use Rattle.rules.proofs.CodeLinear.{digit_xor}
use Rattle.convolutional_code.proofs.Turning.{turned_xor}
use Rattle.rules.proofs.CodeWindows.{back_lt}
use Rattle.rules.specs.Puncturing.{kept_bit}
use Rattle.puncturing.specs.Block.{block_bits, block_kept, block_of, block_entry, block_table, sum_of_entries, block_by}
use Rattle.rules.proofs.Kept.{kept_lt, kept_every, kept_xor}
use Rattle.puncturing.proofs.Blocks.{block_is_kept}

pub block_xor : (rate a b : ℕ) → block_of rate (bit_xor a b) ≡ bit_xor (block_of rate a) (block_of rate b)
unfolding block_of
block_xor rate a b =
    binary_cong 24 _ _ place
    ∙ sym (binary_xor 24 (kept_bit rate (oldest a) (own a)) (kept_bit rate (oldest b) (own b))
    (kept_lt rate (oldest a) (own a)) (kept_lt rate (oldest b) (own b)))
  where
    oldest : ℕ → ℕ
    oldest bits = turned 6 (bits / 2 ^ packets_by_rate rate)

    own : ℕ → ℕ → ℕ
    own bits n = bits / 2 ^ (packets_by_rate rate - 1 - n) % 2

    place : (i : ℕ) → i < 24 → kept_bit rate (oldest (bit_xor a b)) (own (bit_xor a b)) i
        ≡ bit_xor (kept_bit rate (oldest a) (own a) i) (kept_bit rate (oldest b) (own b) i)
    place i lt =
        ap (λ (r : ℕ). kept_bit rate r (own (bit_xor a b)) i) (ap (turned 6) (xor_shr a b (packets_by_rate rate))
        ∙ turned_xor 6 (a / 2 ^ packets_by_rate rate) (b / 2 ^ packets_by_rate rate))
        ∙ kept_every rate (bit_xor (oldest a) (oldest b)) (own (bit_xor a b)) (λ n. bit_xor (own a n) (own b n)) i
        (λ n. ap (λ (x : ℕ). x % 2) (digit_xor a b (packets_by_rate rate - 1 - n)))
        ∙ kept_xor rate (oldest a) (oldest b) (own a) (own b) i

-- no bits, no kept bits: what is added to itself is nothing
block_zero : (rate : ℕ) → block_of rate 0 ≡ 0
block_zero rate = ap (block_of rate) (sym (xor_self 0)) ∙ block_xor rate 0 0 ∙ xor_self (block_of rate 0)

pub legal_true : {rate : ℕ} → LegalRate rate → legal_rate rate ≡ true
unfolding between
legal_true half = refl
legal_true two_thirds = refl
legal_true three_quarters = refl
legal_true five_sixths = refl
legal_true seven_eighths = refl

-- the entry for half byte x at place j
table_entry : {rate : ℕ} → LegalRate rate → (j x : ℕ) → j < 7 → x < 16
    → get_or (block_table rate) (16 * j + x) 0 ≡ block_of rate (x * 16 ^ j)
unfolding block_table block_entry
table_entry {rate} legal j x few small =
    let p : (16 * j + x) % 16 ≡ x = omega arith in
    let q : (16 * j + x) / 16 ≡ j = omega arith in
    get_d_tab 112 (block_entry rate) (16 * j + x) (omega arith)
    ∙ ap (λ b. cond b (block_of rate ((16 * j + x) % 16 * 16 ^ ((16 * j + x) / 16))) 0) (legal_true legal)
    ∙ ap₂ (λ (y k : ℕ). block_of rate (y * 16 ^ k)) p q

-- ---- a number is the sum of its half bytes

pub sixteen_power : (j : ℕ) → 16 ^ j ≡ 2 ^ (4 * j)
sixteen_power zero = refl
sixteen_power (suc j) =
    let e = sixteen_power j in
    let p : 4 * suc j ≡ suc (suc (suc (suc (4 * j)))) = omega arith in
    let m : 2 ^ suc (suc (suc (suc (4 * j)))) ≡ 2 ^ (4 * j) * 2 * 2 * 2 * 2 = simp pow-suc in
    let a = pow-suc 16 j in
    rw p (omega arith)

low_more : (bits j : ℕ) → bits % 16 ^ suc j ≡ bit_xor (bits / 16 ^ j % 16 * 16 ^ j) (bits % 16 ^ j)
low_more bits j =
    let e = sixteen_power j in
    let some : 0 < 16 ^ j = rw e (pow_pos (4 * j)) in
    ap (λ (m : ℕ). bits % m) (let a = pow-suc 16 j in let c : 16 ^ suc j ≡ 16 * 16 ^ j = omega arith in c)
    ∙ mod-mul bits (omega arith) some
    ∙ rw e (sym (xor_shifted (bits / 2 ^ (4 * j) % 16) (4 * j) (bits % 2 ^ (4 * j)) (rest_lt (4 * j))))
  where
    rest_lt : (k : ℕ) → bits % 2 ^ k < 2 ^ k
    rest_lt k = mod-lt bits (pow_pos k)

table_low : {rate : ℕ} → LegalRate rate → (bits j : ℕ) → j ≤ 7
    → sum_of_entries (block_table rate) bits j ≡ block_of rate (bits % 16 ^ j)
unfolding sum_of_entries
table_low {rate} legal bits zero few =
    sym (ap (block_of rate) (let e : bits % 16 ^ 0 ≡ 0 = omega arith in e) ∙ block_zero rate)
table_low {rate} legal bits (suc j) few =
    ap₂ bit_xor (table_low legal bits j (omega arith))
    (table_entry legal j (bits / 16 ^ j % 16) (omega arith) (let x = bits / 16 ^ j in omega arith))
    ∙ xor_comm (block_of rate (bits % 16 ^ j)) (block_of rate (bits / 16 ^ j % 16 * 16 ^ j))
    ∙ sym (block_xor rate (bits / 16 ^ j % 16 * 16 ^ j) (bits % 16 ^ j)) ∙ ap (block_of rate) (sym (low_more bits j))

-- The entries of a rate's table for the half bytes of a block's bits add up to its kept bits.
pub table_is_block : {rate : ℕ} → LegalRate rate → (bits : ℕ) → bits < 0x1000_0000
    → block_by (block_table rate) bits ≡ block_of rate bits
unfolding block_by
table_is_block {rate} legal bits small =
    table_low legal bits 7 (omega arith) ∙ ap (block_of rate) (let e : bits % 16 ^ 7 ≡ bits = omega arith in e)

pub bits_lt : {rate : ℕ} → LegalRate rate → (register : ℕ) (message : ℕ → ℕ) (s : ℕ)
    → block_bits rate register message s < 0x1000_0000
unfolding block_bits
bits_lt {rate} legal register message s =
    lt_of_lt_of_le (binary_lt (6 + packets_by_rate rate) _ (λ i. back_lt register message
    (packets_by_rate rate * s + i) 6))
    (pow_mono (let few = rate_most rate in let e : 6 + packets_by_rate rate ≤ 28 = omega arith in e))

-- With the table of a legal rate the bits of block s give kept bits 24 s to 24 s + 23.
pub block_by_table : {rate : ℕ} → LegalRate rate → (register : ℕ) (message : ℕ → ℕ) (s : ℕ)
    → block_by (block_table rate) (block_bits rate register message s) ≡ block_kept rate register message s
block_by_table {rate} legal register message s =
    table_is_block legal (block_bits rate register message s) (bits_lt legal register message s)
    ∙ block_is_kept legal register message s
