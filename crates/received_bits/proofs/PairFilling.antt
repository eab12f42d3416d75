-- The pairs while they are filled in, and that the pairs from the planes are those of the digits.
--     pairs_none, pairs_more, pairs_all     before the first, after one more, after the last
--     in_block, turn                        the numbers of a turn
--     pair_read                             what a turn reads is the pair
--     from_planes                           the pairs from the planes are those of the digits
use mathlib.Core.Path.{◌≡◌, refl, sym, ap, ◌∙◌}
use mathlib.Core.List.{List}
use Prim.Native.Nat.{ℕ, ◌+◌, ◌*◌, ◌/◌, ◌%◌, ◌<◌, ◌≤◌}
use native.Mathlib.Omega.{arith}
use native.Mathlib.Decide.{dec_lt}
use lib.ListN.{get_or, set, replicate, length-replicate, get_or-replicate}
use borrow.Author.Tests.{lt-ltb, le-ltb}
use Rattle.lists.specs.Tab.{tab}
use Rattle.lists.proofs.Tabs.{get_d_tab, tab_cong}
use Rattle.lists.proofs.FillOver.{Over, over_start, over_step, over_at, over_end}
use Rattle.settings.specs.Patterns.{Kept, XY, X, Y, kept_below}
use Rattle.settings.specs.Sizes.{packets_by_rate}
use Rattle.settings.proofs.Frame.{rate_most}
use Rattle.settings.proofs.LegalSettings.{LegalBits, LegalRate, half, two_thirds, three_quarters, five_sixths}
use Rattle.settings.proofs.LegalSettings.{seven_eighths}
use Rattle.rules.specs.Puncturing.{pattern_at}
use Rattle.rules.specs.Back.{pair_of, pair_at}
use Rattle.received_bits.specs.Received.{whole_blocks, pair_in_blocks}
use Rattle.received_bits.specs.Steps.{plane_at, kept_place, place_x, place_y, digit_place, digit_in, pair_of_block}
use Rattle.received_bits.specs.Steps.{pair_in_planes}
use Rattle.received_bits.proofs.Blocks.{pattern_block, kept_block, kept_first, kept_second}
use Rattle.received_bits.proofs.Places.{plane_none, kept_inside, kept_digit, block_few, digit_x, digit_y}
use Rattle.received_bits.proofs.Places.{digit_x_inside, digit_y_inside}

abbrev pub Pairs : ℕ → ℕ → List ℕ → ℕ → List ℕ → Type 0
Pairs v rate planes n out = Over 1680 (pair_in_planes v rate planes) (replicate 1680 8) n out

pub pairs_none : (v rate : ℕ) (planes : List ℕ) (n : ℕ) → n ≡ 0 → Pairs v rate planes n (replicate 1680 8)
pairs_none v rate planes n e = over_start 1680 _ _ n (length-replicate {A = ℕ} 1680 8) (λ k h. absurd (omega arith))

-- block s of so many, and message bit i of it
pub record InBlock (rate s i : ℕ) : Type 0 where
  pub early : s < 140
  pub inside : packets_by_rate rate * s + i < 1680
  pub whole : packets_by_rate rate * s + i < whole_blocks rate
  pub block : (packets_by_rate rate * s + i) / packets_by_rate rate ≡ s
  pub bit : (packets_by_rate rate * s + i) % packets_by_rate rate ≡ i

pub in_block : {rate : ℕ} → LegalRate rate → (s i : ℕ) → s < 1680 / packets_by_rate rate → i < packets_by_rate rate
    → InBlock rate s i
unfolding packets_by_rate whole_blocks
in_block half s i h g =
    record { early = omega arith; inside = omega arith; whole = omega arith; block = omega arith; bit = omega arith }
in_block two_thirds s i h g =
    record { early = omega arith; inside = omega arith; whole = omega arith; block = omega arith; bit = omega arith }
in_block three_quarters s i h g =
    record { early = omega arith; inside = omega arith; whole = omega arith; block = omega arith; bit = omega arith }
in_block five_sixths s i h g =
    record { early = omega arith; inside = omega arith; whole = omega arith; block = omega arith; bit = omega arith }
in_block seven_eighths s i h g =
    record { early = omega arith; inside = omega arith; whole = omega arith; block = omega arith; bit = omega arith }

-- a turn of the loops: how large its numbers are
pub record Turn (v rate size s i : ℕ) (places : List ℕ) : Type 0 where
  pub at : InBlock rate s i
  pub few : i < 24
  pub rows : 24 / v * s < 1680
  pub x : get_or places i 0 + 24 / v * s < 5040
  pub y : get_or places (24 + i) 0 + 24 / v * s < 5040
  pub inside : size * s + i < 1680

pub turn : {v rate : ℕ} → LegalBits v → LegalRate rate → (size s i : ℕ) (places : List ℕ) → size ≡ packets_by_rate rate
    → places ≡ tab 48 (digit_place v rate) → s < 1680 / size → i < size → Turn v rate size s i places
turn {v} {rate} bits legal size s i places e f h g =
    let at = in_block legal s i (rw e at h) (rw e at g) in
    let most = rate_most rate in
    let few : i < 24 = omega arith in
    record {
      at = at;
      few = few;
      rows = block_few bits s at.early;
      x = rw (f, get_d_tab 48 (digit_place v rate) i (omega arith))
          (digit_x_inside bits s at.early legal i (rw e at g));
      y = rw (f, get_d_tab 48 (digit_place v rate) (24 + i) (omega arith))
          (digit_y_inside bits s at.early legal i (rw e at g));
      inside = rw e at.inside;
    }

pub pair_read : (v rate : ℕ) (planes places : List ℕ) (s i pair : ℕ) → places ≡ tab 48 (digit_place v rate) → i < 24
    → pair ≡ 3 * get_or planes (get_or places i 0 + 24 / v * s) 0 + get_or planes (get_or places (24 + i) 0 + 24 / v *
    s) 0
    → pair ≡ pair_of_block v rate planes s i
pair_read v rate planes places s i pair f few e =
    unfold pair_of_block digit_in in e
    ∙ rw (
      f,
      get_d_tab 48 (digit_place v rate) i (omega arith),
      get_d_tab 48 (digit_place v rate) (24 + i) (omega arith),
    ) refl

pub some_size : {rate : ℕ} → LegalRate rate → (size : ℕ) → size ≡ packets_by_rate rate → 0 < size
unfolding packets_by_rate
some_size half size e = omega arith
some_size two_thirds size e = omega arith
some_size three_quarters size e = omega arith
some_size five_sixths size e = omega arith
some_size seven_eighths size e = omega arith

pub blocks_few : {rate : ℕ} → LegalRate rate → (size : ℕ) → size ≡ packets_by_rate rate → 1680 / size ≤ 140
unfolding packets_by_rate
blocks_few half size e = rw e (omega arith)
blocks_few two_thirds size e = rw e (omega arith)
blocks_few three_quarters size e = rw e (omega arith)
blocks_few five_sixths size e = rw e (omega arith)
blocks_few seven_eighths size e = rw e (omega arith)

behind : {rate : ℕ} → LegalRate rate → (size s k : ℕ) → size ≡ packets_by_rate rate → 1680 / size ≤ s → size * s ≤ k
    → whole_blocks rate ≤ k
unfolding packets_by_rate whole_blocks
behind half size s k e last low = let f = rw e at last in let g = rw e at low in omega arith
behind two_thirds size s k e last low = let f = rw e at last in let g = rw e at low in omega arith
behind three_quarters size s k e last low = let f = rw e at last in let g = rw e at low in omega arith
behind five_sixths size s k e last low = let f = rw e at last in let g = rw e at low in omega arith
behind seven_eighths size s k e last low = let f = rw e at last in let g = rw e at low in omega arith

module _ (v : ℕ) {rate : ℕ} (planes : List ℕ) where
  pub pair_of_block_is : (s i : ℕ) → InBlock rate s i
      → pair_in_planes v rate planes (packets_by_rate rate * s + i) ≡ pair_of_block v rate planes s i
  pair_of_block_is s i at =
      unfold pair_in_planes in rw (lt-ltb _ _ at.whole)
      (ap (λ (k : ℕ). pair_of_block v rate planes k ((packets_by_rate rate * s + i) % packets_by_rate rate)) at.block
      ∙ ap (pair_of_block v rate planes s) at.bit)

  pub pairs_more : {out : List ℕ} (size s i place pair : ℕ) → size ≡ packets_by_rate rate → InBlock rate s i
      → place ≡ size * s + i → pair ≡ pair_of_block v rate planes s i
      → Pairs v rate planes (size * s + i) out → Pairs v rate planes (size * s + (i + 1)) (set out place pair)
  pairs_more size s i place pair e at f is o =
      let few = at.inside in
      over_at 1680 _ _ (over_step 1680 _ _ o place pair f (rw e few)
      (is ∙ sym (pair_of_block_is s i at) ∙ ap (pair_in_planes v rate planes) (sym (f ∙ ap (λ (k : ℕ). k * s + i) e))))
      (size * s + (i + 1)) (omega arith)

  pub pairs_all : (legal : LegalRate rate) {out : List ℕ} (size s : ℕ) → size ≡ packets_by_rate rate → 1680 / size ≤ s
      → Pairs v rate planes (size * s) out → out ≡ tab 1680 (pair_in_planes v rate planes)
  pairs_all legal size s e last o =
      unfold pair_in_planes in over_end 1680 _ _ o (λ k low high. get_or-replicate {A = ℕ} 1680 k 8 0 high
      ∙ sym (rw (le-ltb k (whole_blocks rate) (behind legal size s k e last low)) refl))

-- ---- the pairs from the planes are those of the stretch

module _ {v : ℕ} (bits : LegalBits v) (digit : ℕ → ℕ) where
  abbrev received : List ℕ
  received = tab 5040 (plane_at v digit)

  at_place : (place value : ℕ) → place < 5040 → plane_at v digit place ≡ value → get_or received place 0 ≡ value
  at_place place value h e = get_d_tab 5040 (plane_at v digit) place h ∙ e

  module _ (s : ℕ) (g : s < 140) where
    some : (kept : ℕ) → kept < 24 → get_or received (kept_place v kept + 24 / v * s) 0 ≡ digit (24 * s + kept)
    some kept h =
        let few = kept_inside bits s kept h g in
        at_place (kept_place v kept + 24 / v * s) _ (omega arith) (kept_digit bits s kept h g digit)

    none : get_or received (3360 + 24 / v * s) 0 ≡ 2
    none =
        let few = block_few bits s g in
        at_place (3360 + 24 / v * s) 2 (omega arith) (sym (plane_none v digit (3360 + 24 / v * s) (omega arith)))

    two_digits : (kept : Kept) (first : ℕ) → first < 24 → (kept ≡ XY → first + 1 < 24)
        → 3 * get_or received (place_x kept (kept_place v first) (kept_place v (first + 1)) + 24 / v * s) 0
        + get_or received (place_y kept (kept_place v first) (kept_place v (first + 1)) + 24 / v * s) 0
        ≡ pair_of kept (digit (24 * s + first)) (digit (24 * s + (first + 1)))
    two_digits XY first h k = let x = some first h in let y = some (first + 1) (k refl) in omega arith
    two_digits X first h k = let x = some first h in let y = none in omega arith
    two_digits Y first h k = let x = none in let y = some first h in omega arith

    pub block_received : {rate : ℕ} (legal : LegalRate rate) (i : ℕ) → i < packets_by_rate rate
        → pair_of_block v rate received s i ≡ pair_at rate digit (packets_by_rate rate * s + i)
    unfolding pair_of_block digit_in pair_at
    block_received {rate} legal i h =
        rw (digit_x bits s g legal i h, digit_y bits s g legal i h, pattern_block legal s i, kept_block legal s i)
        (two_digits (pattern_at rate i) (kept_below rate i) (kept_first legal i h) (kept_second legal i h)
        ∙ ap (λ (c : ℕ). pair_of (pattern_at rate i) (digit (24 * s + kept_below rate i)) (digit c)) (omega arith))

late_none : (v rate : ℕ) (planes : List ℕ) (n : ℕ) → whole_blocks rate ≤ n → pair_in_planes v rate planes n ≡ 8
late_none v rate planes n h = unfold pair_in_planes in rw (le-ltb n (whole_blocks rate) h) refl

whole_at : {rate : ℕ} → LegalRate rate → (n : ℕ) → n < whole_blocks rate
    → (n / packets_by_rate rate < 1680 / packets_by_rate rate) × (n % packets_by_rate rate < packets_by_rate rate)
    × (n ≡ packets_by_rate rate * (n / packets_by_rate rate) + n % packets_by_rate rate)
unfolding packets_by_rate whole_blocks
whole_at half n h = (omega arith, omega arith, omega arith)
whole_at two_thirds n h = (omega arith, omega arith, omega arith)
whole_at three_quarters n h = (omega arith, omega arith, omega arith)
whole_at five_sixths n h = (omega arith, omega arith, omega arith)
whole_at seven_eighths n h = (omega arith, omega arith, omega arith)

pub from_planes : {v rate : ℕ} → LegalBits v → LegalRate rate → (digit : ℕ → ℕ)
    → tab 1680 (pair_in_planes v rate (tab 5040 (plane_at v digit))) ≡ tab 1680 (pair_in_blocks rate digit)
unfolding pair_in_blocks
from_planes {v} {rate} bits legal digit = tab_cong 1680 _ _ (λ n h. elim (dec_lt n (whole_blocks rate)) [
  | yes early ↦
      let at = whole_at legal n early in
      ap (pair_in_planes v rate (tab 5040 (plane_at v digit))) at.2
      ∙ pair_of_block_is v (tab 5040 (plane_at v digit)) (n / packets_by_rate rate) (n % packets_by_rate rate)
      (in_block legal _ _ at.0 at.1)
      ∙ block_received bits digit (n / packets_by_rate rate) (in_block legal _ _ at.0 at.1).early legal
      (n % packets_by_rate rate) at.1 ∙ ap (pair_at rate digit) (sym at.2) ∙ rw (lt-ltb _ _ early) refl
  | no late ↦ late_none v rate _ n (omega arith) ∙ rw (le-ltb n (whole_blocks rate) (omega arith)) refl
])
