-- The pairs from a block of a frame on, from a stretch of its carriers.
--     pair_same, pairs_few, blocks_at     pairs from their digits
--     blocks_kept, blocks_second          the kept bits of the whole blocks
--     Stretch, part_digit, stretch_digit  a digit of the stretch is one of the frame
--     Reach, reach, in_order              the numbers of a stretch
--     stretch_pairs                       so are the pairs
use mathlib.Core.Path.{◌≡◌, refl, sym, ap, ap₂, ◌∙◌}
use mathlib.Core.Bool.{Bool, true, false, cond}
use mathlib.Core.List.{List}
use mathlib.Core.Logic.{◌⊎◌, inl, inr}
use Prim.Native.Nat.{ℕ, ◌+◌, ◌-◌, ◌*◌, ◌/◌, ◌%◌, ◌<◌, ◌≤◌}
use native.Mathlib.Decide.{dec_lt}
use native.Mathlib.Omega.{arith}
use lib.Dec.{ltb}
use lib.ListN.{length, get_or, take, drop, length-drop}
use lib.Seq.{length-take-le, get_or-take, get_or-drop}
use borrow.Author.Tests.{lt-ltb, le-ltb}
use Rattle.lists.specs.Binary.{bit_of}
use Rattle.lists.specs.Tab.{tab}
use Rattle.lists.proofs.Tabs.{get_d_tab, tab_lt}
use Rattle.settings.specs.Patterns.{Kept, XY, X, Y, pattern_length, kept_below}
use Rattle.settings.specs.Sizes.{packets_by_rate}
use Rattle.settings.proofs.LegalSettings.{LegalBits, qpsk, qam16, qam64, LegalRate, half, two_thirds, three_quarters}
use Rattle.settings.proofs.LegalSettings.{five_sixths, seven_eighths}
use Rattle.settings.proofs.Patterns.{begun, kept_below_closed}
use Rattle.rules.specs.Puncturing.{pattern_at}
use Rattle.puncturing.proofs.Linear.{legal_true}
use Rattle.rules.specs.Bits.{line_of, line_delay, carrier_of}
use Rattle.rules.specs.Back.{line_digit, received_digit, pair_of, pair_at}
use Rattle.received_bits.specs.Received.{whole_blocks, pair_in_blocks, pairs_of}
use Rattle.received_bits.proofs.Blocks.{pattern_block, kept_block, kind_both}
use Rattle.received_bits.proofs.Whole.{received_few, bits_true}
use Rattle.receiver.specs.Steps.{PairsIn, FramePairs}

-- ---- pairs from their digits

of_same : (kept : Kept) (a b c d : ℕ) → a ≡ c → (kept ≡ XY → b ≡ d) → pair_of kept a b ≡ pair_of kept c d
of_same XY a b c d e f = ap₂ (λ (x y : ℕ). 3 * x + y) e (f refl)
of_same X a b c d e f = ap (λ (x : ℕ). 3 * x + 2) e
of_same Y a b c d e f = ap (λ (x : ℕ). 6 + x) e

pub pair_same : (rate : ℕ) (digit other : ℕ → ℕ) (n m : ℕ) → pattern_at rate n ≡ pattern_at rate m
    → digit (kept_below rate n) ≡ other (kept_below rate m)
    → (pattern_at rate n ≡ XY → digit (kept_below rate n + 1) ≡ other (kept_below rate m + 1))
    → pair_at rate digit n ≡ pair_at rate other m
pair_same rate digit other n m e first second =
    unfold pair_at in of_same (pattern_at rate n) _ _ _ _ first second
    ∙ ap (λ (k : Kept). pair_of k (other (kept_below rate m)) (other (kept_below rate m + 1))) e

of_few : (kept : Kept) (a b : ℕ) → a < 3 → b < 3 → pair_of kept a b < 9
of_few XY a b h g = omega arith
of_few X a b h g = omega arith
of_few Y a b h g = omega arith

cond_few : (b : Bool) (x y : ℕ) → x < 9 → y < 9 → cond b x y < 9
cond_few true x y h g = h
cond_few false x y h g = g

module _ (rate : ℕ) (digit : ℕ → ℕ) where
  in_few : ((c : ℕ) → digit c < 3) → (n : ℕ) → pair_in_blocks rate digit n < 9
  in_few few n =
      unfold pair_in_blocks pair_at in cond_few (ltb n (whole_blocks rate)) _ 8
      (of_few (pattern_at rate n) _ _ (few (kept_below rate n)) (few (kept_below rate n + 1))) (omega arith)

  pub pairs_few : (pairs : List ℕ) → pairs ≡ tab 1680 (pair_in_blocks rate digit) → ((c : ℕ) → digit c < 3)
      → PairsIn pairs
  pairs_few pairs e few =
      record { few = λ i. rw e (tab_lt 1680 (pair_in_blocks rate digit) 9 (omega arith) (in_few few) i) }

  pub blocks_at : (pairs : List ℕ) → pairs ≡ tab 1680 (pair_in_blocks rate digit) → (i : ℕ) → i < 1680
      → i < whole_blocks rate → get_or pairs i 0 ≡ pair_at rate digit i
  unfolding pair_in_blocks
  blocks_at pairs e i room lt =
      ap (λ (l : List ℕ). get_or l i 0) e ∙ get_d_tab 1680 (pair_in_blocks rate digit) i room
      ∙ rw (lt-ltb i (whole_blocks rate) lt) refl

-- ---- the whole blocks

pub blocks_room : {rate : ℕ} → LegalRate rate → whole_blocks rate ≤ 1680
unfolding whole_blocks packets_by_rate
blocks_room half = omega arith
blocks_room two_thirds = omega arith
blocks_room three_quarters = omega arith
blocks_room five_sixths = omega arith
blocks_room seven_eighths = omega arith

begun_kept : {rate : ℕ} → LegalRate rate → (n : ℕ) → n < 1680 → n + begun (pattern_length rate) n < 3360
unfolding pattern_length begun
begun_kept half n h = omega arith
begun_kept two_thirds n h = omega arith
begun_kept three_quarters n h = omega arith
begun_kept five_sixths n h = omega arith
begun_kept seven_eighths n h = omega arith

begun_second : {rate : ℕ} → LegalRate rate → (n : ℕ) → n < 1680 → n % pattern_length rate ≡ 0
    → n + begun (pattern_length rate) n + 1 < 3360
unfolding pattern_length begun
begun_second half n h e = omega arith
begun_second two_thirds n h e = omega arith
begun_second three_quarters n h e = omega arith
begun_second five_sixths n h e = omega arith
begun_second seven_eighths n h e = omega arith

pub blocks_kept : {rate : ℕ} → LegalRate rate → (n : ℕ) → n < 1680 → kept_below rate n < 3360
blocks_kept legal n h = let closed = kept_below_closed legal n in let few = begun_kept legal n h in omega arith

pub blocks_second : {rate : ℕ} → LegalRate rate → (n : ℕ) → n < 1680 → pattern_at rate n ≡ XY
    → kept_below rate n + 1 < 3360
blocks_second legal n h e =
    let closed = kept_below_closed legal n in
    let few = begun_second legal n h (kind_both legal n e) in
    omega arith

-- ---- a digit of the stretch

carrier_block : {v : ℕ} → LegalBits v → (s c : ℕ) → carrier_of v (24 * s + c) ≡ 24 / v * s + carrier_of v c
unfolding carrier_of line_delay
carrier_block qpsk s c = omega arith
carrier_block qam16 s c = omega arith
carrier_block qam64 s c = omega arith

line_block : {v : ℕ} → LegalBits v → (s c : ℕ) → line_of v (24 * s + c) ≡ line_of v c
line_block qpsk s c = omega arith
line_block qam16 s c = omega arith
line_block qam64 s c = omega arith

carrier_few : {v : ℕ} → LegalBits v → (c : ℕ) → c < 3360 → carrier_of v c < 3360 / v + 120
unfolding carrier_of line_delay
carrier_few qpsk c h = omega arith
carrier_few qam16 c h = omega arith
carrier_few qam64 c h = omega arith

-- where the stretch lies: it begins at `base`, and `reach` carriers of it are looked at, as far as there are so many
pub record Stretch (base reach long from end : ℕ) : Type 0 where
  pub starts : (from ≤ base) × (from ≤ long) × ((from ≡ base) ⊎ (from ≡ long))
  pub ends : (end ≤ from + reach) × (end ≤ long) × ((end ≡ from + reach) ⊎ (end ≡ long))

module _ (v : ℕ) (carriers : List ℕ) (base reach from end : ℕ)
    (lies : Stretch base reach (length carriers) from end) where
  abbrev part : List ℕ
  part = take (end - from) (drop from carriers)

  part_long : length part ≡ end - from
  part_long =
      length-take-le (end - from) (drop from carriers)
      (let room = lies.ends.1 in omega (arith, length-drop from carriers, room))

  begins : (k : ℕ) → k < end - from → (from ≡ base) ⊎ (from ≡ length carriers) → from ≡ base
  begins k h (inl e) = e
  begins k h (inr e) = let room = lies.ends.1 in absurd (omega (arith, room))

  stops : (k : ℕ) → k < reach → end - from ≤ k → (end ≡ from + reach) ⊎ (end ≡ length carriers)
      → length carriers ≤ base + k
  stops k h g (inl e) = absurd (omega arith)
  stops k h g (inr e) = let low = lies.starts.0 in omega (arith, low)

  pub part_digit : (k l : ℕ) → k < reach → line_digit v part k l ≡ line_digit v carriers (base + k) l
  part_digit k l h = unfold line_digit in elim (dec_lt k (end - from)) [
    | yes g ↦
        let first = begins k g lies.starts.2 in
        let room = lies.ends.1 in
        let byte : get_or part k 0 ≡ get_or carriers (base + k) 0 =
        get_or-take (end - from) (drop from carriers) k 0 g ∙ get_or-drop from carriers k 0
        ∙ ap (λ (i : ℕ). get_or carriers (i + k) 0) first in
        rw (lt-ltb k (length part) (omega (arith, part_long)), lt-ltb (base + k) (length carriers) (omega arith))
        (ap (λ (x : ℕ). bit_of v x l) byte)
    | no g ↦
        let none = stops k h (omega arith) lies.ends.2 in
        rw (le-ltb k (length part) (omega (arith, part_long)), le-ltb (base + k) (length carriers) none) refl
  ]

-- the numbers of a stretch, as `frame_pairs` has it
pub record Reach (v s : ℕ) : Type 0 where
  pub some : 0 < v
  pub base : 24 / v * s ≤ 12582912
  pub rows : 3360 / v ≤ 1680

pub reach : {v : ℕ} → LegalBits v → (s : ℕ) → s < 1048576 → Reach v s
reach qpsk s h = record { some = omega arith; base = omega arith; rows = omega arith }
reach qam16 s h = record { some = omega arith; base = omega arith; rows = omega arith }
reach qam64 s h = record { some = omega arith; base = omega arith; rows = omega arith }

pub in_order : (from long reach end : ℕ) → from ≤ long → (end ≡ from + reach) ⊎ (end ≡ long) → from ≤ end
in_order from long reach end h (inl e) = omega arith
in_order from long reach end h (inr e) = omega arith

module _ {v : ℕ} (bits : LegalBits v) (carriers : List ℕ) (s from end : ℕ)
    (lies : Stretch (24 / v * s) (3360 / v + 120) (length carriers) from end) where
  pub stretch_digit : (c : ℕ) → c < 3360
      → received_digit v (take (end - from) (drop from carriers)) c ≡ received_digit v carriers (24 * s + c)
  unfolding received_digit
  stretch_digit c h =
      part_digit v carriers (24 / v * s) (3360 / v + 120) from end lies (carrier_of v c) (line_of v c)
      (carrier_few bits c h)
      ∙ sym (ap₂ (λ (k l : ℕ). line_digit v carriers k l) (carrier_block bits s c) (line_block bits s c))

  module _ {rate : ℕ} (legal : LegalRate rate) (pairs : List ℕ)
      (e : pairs ≡ pairs_of v rate (take (end - from) (drop from carriers))) where
    made : pairs ≡ tab 1680 (pair_in_blocks rate (received_digit v (take (end - from) (drop from carriers))))
    made = unfold pairs_of in e ∙ rw (bits_true bits, legal_true legal) refl

    pub stretch_pairs : FramePairs v rate s carriers pairs
    stretch_pairs =
        record {
          few = pairs_few rate _ pairs made (received_few v _);
          at = λ i lt.
              let room : i < 1680 = omega (arith, blocks_room legal) in
              let kept = kept_block legal s i in
              blocks_at rate _ pairs made i room lt
              ∙ pair_same rate _ (received_digit v carriers) i (packets_by_rate rate * s + i)
              (sym (pattern_block legal s i))
              (stretch_digit (kept_below rate i) (blocks_kept legal i room) ∙ ap (received_digit v carriers) (sym kept))
              (λ both. stretch_digit (kept_below rate i + 1) (blocks_second legal i room both)
              ∙ ap (received_digit v carriers) (omega (arith, kept)));
        }
