-- What the code that fills and reads the tables needs.
--     half_byte_exact                                     a half byte shifted to its place
--     four_entries, three_more                            the sum of seven entries
--     picked_lt, picked_small, picked_more, picked_all    for the loop that picks 24 bits
--     source_small, shift_lt                              the message bit of one of the first 24 kept bits
--     base_is, base_le                                    the rows of X
--     legal_of                                            a number with a pattern is a rate
--     entry_of_legal, table_of_none                       the table of a rate, and of a number that is no rate
--     code_few, shifts_few, bases_few                     bounds on the lists that the picking reads
use mathlib.Core.Path.{◌≡◌, refl, sym, ap, ap₂, ◌∙◌}
use mathlib.Core.Bool.{Bool, true, false, cond}
use mathlib.Core.List.{List, [], ◌∷◌}
use Prim.Native.Nat.{ℕ, zero, suc, ◌+◌, ◌-◌, ◌*◌, ◌/◌, ◌%◌, ◌^◌, ◌≤◌, ◌<◌}
use native.Mathlib.Nat.{mod-lt}
use native.Mathlib.Numerals.{add-one}
use native.Mathlib.Omega.{arith}
use lib.Bits.{bit_xor}
use lib.Dec.{T, eqb, eqb→eq}
use lib.ListN.{get_or, replicate}
use lib.Pow.{pow_mono, shl_exact}
use Rattle.lists.specs.Tests.{between}
use Rattle.lists.specs.Binary.{binary}
use Rattle.lists.specs.Tab.{tab}
use Rattle.lists.proofs.Betweens.{between_above}
use Rattle.lists.proofs.Binaries.{binary_lt}
use Rattle.lists.proofs.Every.{every, at}
use Rattle.settings.specs.Legal.{legal_rate}
use Rattle.settings.specs.Patterns.{pattern, pattern_length}
use Rattle.settings.specs.Sizes.{packets_by_rate}
use Rattle.settings.proofs.Frame.{rate_most}
use Rattle.settings.proofs.Patterns.{pattern_legal}
use Rattle.settings.proofs.LegalSettings.{LegalRate, half, two_thirds, three_quarters, five_sixths, seven_eighths}
use Rattle.lists.proofs.Tabs.{tab_lt}
use Rattle.convolutional_code.specs.CodeTable.{code_entry}
use Rattle.rules.proofs.CodeParity.{parity_lt}
use Rattle.puncturing.specs.Block.{block_of, block_entry, block_table, sum_of_entries, block_by}
use Rattle.puncturing.specs.Steps.{shift_of, base_of, picked_bit}
use Rattle.rules.proofs.Sources.{is_x, kept_is_x, source_is, source_in_block}
use Rattle.puncturing.proofs.Linear.{sixteen_power, legal_true}

pub half_byte_exact : (x j : ℕ) → x < 16 → j < 7 → x * 2 ^ (4 * j) % 0x1_0000_0000 ≡ x * 16 ^ j
half_byte_exact x j small few =
    shl_exact 4 (4 * j) 32 small (omega arith) ∙ ap (λ (p : ℕ). x * p) (sym (sixteen_power j))

module _ (t : List ℕ) (bits : ℕ) where
  entry : (m n : ℕ) → m ≡ n → get_or t m 0 ≡ get_or t n 0
  entry m n same = ap (λ (i : ℕ). get_or t i 0) same

  pub four_entries : (a b c d : ℕ) → a ≡ bits % 16 → b ≡ bits / 16 % 16 → c ≡ bits / 256 % 16 → d ≡ bits / 4096 % 16
      → bit_xor (bit_xor (bit_xor (get_or t a 0) (get_or t (16 + b) 0)) (get_or t (32 + c) 0)) (get_or t (48 + d) 0)
      ≡ sum_of_entries t bits 4
  unfolding sum_of_entries
  four_entries a b c d p q r s =
      ap₂ bit_xor (ap₂ bit_xor (ap₂ bit_xor (entry a _ (omega arith)) (entry (16 + b) _ (omega arith)))
      (entry (32 + c) _ (omega arith))) (entry (48 + d) _ (omega arith))

  pub three_more : (sum e f g : ℕ) → sum ≡ sum_of_entries t bits 4 → e ≡ bits / 65536 % 16 → f ≡ bits / 1048576 % 16
      → g ≡ bits / 16777216 % 16
      → bit_xor (bit_xor (bit_xor sum (get_or t (64 + e) 0)) (get_or t (80 + f) 0)) (get_or t (96 + g) 0)
      ≡ block_by t bits
  unfolding block_by sum_of_entries
  three_more sum e f g lower u v w =
      ap₂ bit_xor (ap₂ bit_xor (ap₂ bit_xor lower (entry (64 + e) _ (omega arith))) (entry (80 + f) _ (omega arith)))
      (entry (96 + g) _ (omega arith))

-- ---- picking

module _ (code shifts bases : List ℕ) (bits : ℕ) (few : (i : ℕ) → get_or code i 0 < 2) where
  pub picked_lt : (i : ℕ) → picked_bit code shifts bases bits i < 2
  picked_lt i = unfold picked_bit in few (get_or bases i 0 + bits / 2 ^ get_or shifts i 0 % 128)

  pub picked_small : (i kept : ℕ) → i < 24 → kept ≡ binary i (picked_bit code shifts bases bits) → kept < 0x80_0000
  picked_small i kept lt e =
      let least = binary_lt i (picked_bit code shifts bases bits) picked_lt in
      let most = pow_mono (let h : i ≤ 23 = omega arith in h) in
      omega arith

pub picked_more : (code shifts bases : List ℕ) (bits i kept : ℕ) → kept ≡ binary i (picked_bit code shifts bases bits)
    → kept * 2 + get_or code (get_or bases i 0 + bits / 2 ^ get_or shifts i 0 % 128) 0
    ≡ binary (i + 1) (picked_bit code shifts bases bits)
picked_more code shifts bases bits i kept e =
    unfold binary picked_bit in ap (λ (x : ℕ). x * 2 + picked_bit code shifts bases bits i) e ∙ rw add-one refl

pub picked_all : (i kept : ℕ) (digit : ℕ → ℕ) → kept ≡ binary i digit → i ≡ 24 → kept ≡ binary 24 digit
picked_all i kept digit e p = e ∙ ap (λ (n : ℕ). binary n digit) p

-- ---- the places of a block's kept bits

pub source_small : {rate : ℕ} → LegalRate rate → (i length : ℕ) → i < 24 → length ≡ pattern_length rate
    → i / (length + 1) * length + (i % (length + 1) - 1) < packets_by_rate rate
source_small {rate} legal i length lt e = rw (e, sym (source_is rate i)) (source_in_block legal i lt)

pub shift_is : (rate i length source count : ℕ) → length ≡ pattern_length rate → count ≡ packets_by_rate rate
    → source ≡ i % (length + 1) - 1 → count - 1 - (i / (length + 1) * length + source) ≡ shift_of rate i
shift_is rate i length source count e f g = unfold shift_of in rw (g, f, e, source_is rate i) refl

pub shift_lt : (rate i : ℕ) → shift_of rate i < 32
shift_lt rate i = unfold shift_of in let most = rate_most rate in omega arith

pub base_le : (rate i : ℕ) → base_of rate i < 129
unfolding base_of
base_le rate i = go (kept_is_x rate i)
  where
    go : (b : Bool) → cond b 128 0 < 129
    go true = omega arith
    go false = omega arith

-- the kept bits of each pattern that are X, the first lowest
abbrev rows : List ℕ
rows = 0 ∷ 0b01 ∷ 0b001 ∷ 0b1001 ∷ 0b101001 ∷ 0b10100001 ∷ []

test : ℕ → ℕ → Bool
test rate place = eqb (get_or rows rate 0 / 2 ^ place % 2 * 128) (cond (is_x (pattern rate) place) 128 0)

tested : {rate : ℕ} → LegalRate rate → T (every (test rate) (pattern_length rate + 1))
unfolding test pattern_length
tested half = tt
tested two_thirds = tt
tested three_quarters = tt
tested five_sixths = tt
tested seven_eighths = tt

pub base_is : {rate : ℕ} → LegalRate rate → (i length row : ℕ) → length ≡ pattern_length rate → row ≡ rate
    → get_or rows row 0 / 2 ^ (i % (length + 1)) % 2 * 128 ≡ base_of rate i
unfolding base_of kept_is_x test
base_is {rate} legal i length row e f =
    rw (e, f) (eqb→eq _ _
    (at (test rate) (pattern_length rate + 1) (tested legal) (i % (pattern_length rate + 1)) (mod-lt i (omega arith))))

pub legal_of : (rate : ℕ) → 0 < pattern_length rate → LegalRate rate
legal_of rate some = pattern_legal rate (λ e. absurd (omega (arith, e)))

pub rate_small : {rate : ℕ} → LegalRate rate → rate < 6
rate_small half = omega arith
rate_small two_thirds = omega arith
rate_small three_quarters = omega arith
rate_small five_sixths = omega arith
rate_small seven_eighths = omega arith

-- ---- the table

pub entry_of_legal : {rate : ℕ} → LegalRate rate → (place : ℕ)
    → block_of rate (place % 16 * 16 ^ (place / 16)) ≡ block_entry rate place
entry_of_legal legal place = unfold block_entry in rw (legal_true legal) refl

pub none_legal : (rate : ℕ) → pattern_length rate ≡ 0 → legal_rate rate ≡ false
unfolding pattern_length between
none_legal zero e = refl
none_legal (suc zero) e = absurd (omega arith)
none_legal (suc (suc zero)) e = absurd (omega arith)
none_legal (suc (suc (suc zero))) e = absurd (omega arith)
none_legal (suc (suc (suc (suc zero)))) e = absurd (omega arith)
none_legal (suc (suc (suc (suc (suc zero))))) e = absurd (omega arith)
none_legal (suc (suc (suc (suc (suc (suc rate)))))) e =
    between_above 1 5 (suc (suc (suc (suc (suc (suc rate)))))) (omega arith)

pub table_of_none : (rate : ℕ) → pattern_length rate ≡ 0 → replicate 112 0 ≡ block_table rate
table_of_none rate e = unfold block_table block_entry tab in rw (none_legal rate e) refl

-- ---- bounds on the lists that the picking reads

pub code_few : (code : List ℕ) → code ≡ tab 256 code_entry → (i : ℕ) → get_or code i 0 < 2
code_few code e i = unfold code_entry in rw e (tab_lt 256 code_entry 2 (omega arith) (λ k. parity_lt _ _) i)

pub shifts_few : (rate : ℕ) (shifts : List ℕ) → shifts ≡ tab 24 (shift_of rate) → (i : ℕ) → get_or shifts i 0 < 32
shifts_few rate shifts e i = rw e (tab_lt 24 (shift_of rate) 32 (omega arith) (shift_lt rate) i)

pub bases_few : (rate : ℕ) (bases : List ℕ) → bases ≡ tab 24 (base_of rate) → (i : ℕ) → get_or bases i 0 ≤ 128
bases_few rate bases e i =
    rw e (let few = tab_lt 24 (base_of rate) 129 (omega arith) (base_le rate) i in omega arith)
