-- Where digits stand in the planes.
--     plane_inside, plane_digit     row k of plane l is what is received of kept bit v × k + l
--     plane_short                   and nothing behind the carriers
--     kept_digit, plane_none        what stands at the place of a block's kept bit, and behind the planes
--     kept_inside                   these places are inside
--     place_x_is, place_y_is, ..    the place of each digit of a pattern, by what is kept
--     digit_x, digit_y              so the two digits of a pair are found there
use mathlib.Core.Path.{◌≡◌, refl, sym, ap, ◌∙◌}
use mathlib.Core.List.{List}
use Prim.Native.Nat.{ℕ, ◌+◌, ◌-◌, ◌*◌, ◌/◌, ◌%◌, ◌^◌, ◌<◌, ◌≤◌}
use native.Mathlib.Omega.{arith}
use lib.ListN.{length, get_or}
use borrow.Author.Tests.{lt-ltb, le-ltb}
use Rattle.settings.specs.Patterns.{Kept, XY, X, Y, kept_below}
use Rattle.settings.specs.Sizes.{packets_by_rate}
use Rattle.settings.proofs.LegalSettings.{LegalBits, LegalRate, qpsk, qam16, qam64}
use Rattle.settings.proofs.Frame.{rate_most}
use Rattle.rules.specs.Bits.{line_delay, carrier_of}
use Rattle.rules.specs.Puncturing.{pattern_at}
use Rattle.rules.specs.Back.{line_digit, received_digit}
use Rattle.received_bits.specs.Steps.{plane_at, kept_place, kind_of, place_x, place_y, digit_place}
use Rattle.received_bits.proofs.Blocks.{kept_first, kept_second}

pub plane_inside : {v : ℕ} → LegalBits v → (l k : ℕ) → l < v → k < 3360 / v → 3360 / v * l + k < 3360
plane_inside qpsk l k h g = omega arith
plane_inside qam16 l k h g = omega arith
plane_inside qam64 l k h g = omega arith

-- a row of a plane and the kept bit there
plane_row : {v : ℕ} → LegalBits v → (l k : ℕ) → l < v → k < 3360 / v → (3360 / v * l + k) % (3360 / v) ≡ k
plane_row qpsk l k h g = omega arith
plane_row qam16 l k h g = omega arith
plane_row qam64 l k h g = omega arith

plane_line : {v : ℕ} → LegalBits v → (l k : ℕ) → l < v → k < 3360 / v → (3360 / v * l + k) / (3360 / v) ≡ l
plane_line qpsk l k h g = omega arith
plane_line qam16 l k h g = omega arith
plane_line qam64 l k h g = omega arith

module _ {v : ℕ} (legal : LegalBits v) (digit : ℕ → ℕ) (l k : ℕ) (h : l < v) (g : k < 3360 / v) where
  pub plane_kept : plane_at v digit (3360 / v * l + k) ≡ digit (k * v + l)
  unfolding plane_at
  plane_kept = rw (lt-ltb _ _ (plane_inside legal l k h g), plane_row legal l k h g, plane_line legal l k h g) refl

pub kept_line : {v : ℕ} → LegalBits v → (l k : ℕ) → l < v → (k * v + l) % v ≡ l
kept_line qpsk l k h = omega arith
kept_line qam16 l k h = omega arith
kept_line qam64 l k h = omega arith

pub kept_row : {v : ℕ} → LegalBits v → (l k : ℕ) → l < v → (k * v + l) / v ≡ k
kept_row qpsk l k h = omega arith
kept_row qam16 l k h = omega arith
kept_row qam64 l k h = omega arith

carrier_is : {v : ℕ} → LegalBits v → (l k : ℕ) → l < v → carrier_of v (k * v + l) ≡ l * (120 / (v - 1)) + k
unfolding carrier_of line_delay
carrier_is {v} legal l k h = rw (kept_line legal l k h, kept_row legal l k h) (omega arith)

module _ {v : ℕ} (legal : LegalBits v) (carriers : List ℕ) (l k : ℕ) (h : l < v) where
  pub plane_digit : l * (120 / (v - 1)) + k < length carriers
      → get_or carriers (l * (120 / (v - 1)) + k) 0 / 2 ^ (v - 1 - l) % 2 ≡ received_digit v carriers (k * v + l)
  unfolding received_digit line_digit
  plane_digit few = sym (rw (carrier_is legal l k h, lt-ltb _ _ few, kept_line legal l k h) refl)

  pub plane_short : length carriers ≤ l * (120 / (v - 1)) + k → 2 ≡ received_digit v carriers (k * v + l)
  plane_short few = unfold received_digit line_digit in sym (rw (carrier_is legal l k h, le-ltb _ _ few) refl)

pub plane_none : (v : ℕ) (digit : ℕ → ℕ) (place : ℕ) → 3360 ≤ place → 2 ≡ plane_at v digit place
plane_none v digit place h = unfold plane_at in rw (le-ltb _ _ h) refl

-- ---- the kept bits of block s

kept_place_row : {v : ℕ} → LegalBits v → (s kept : ℕ) → kept < 24 → s < 140
    → kept_place v kept + 24 / v * s ≡ 3360 / v * (kept % v) + (kept / v + 24 / v * s)
unfolding kept_place
kept_place_row qpsk s kept h g = omega arith
kept_place_row qam16 s kept h g = omega arith
kept_place_row qam64 s kept h g = omega arith

kept_line_lt : {v : ℕ} → LegalBits v → (kept : ℕ) → kept % v < v
kept_line_lt qpsk kept = omega arith
kept_line_lt qam16 kept = omega arith
kept_line_lt qam64 kept = omega arith

kept_row_lt : {v : ℕ} → LegalBits v → (s kept : ℕ) → kept < 24 → s < 140 → kept / v + 24 / v * s < 3360 / v
kept_row_lt qpsk s kept h g = omega arith
kept_row_lt qam16 s kept h g = omega arith
kept_row_lt qam64 s kept h g = omega arith

kept_of_row : {v : ℕ} → LegalBits v → (s kept : ℕ) → (kept / v + 24 / v * s) * v + kept % v ≡ 24 * s + kept
kept_of_row qpsk s kept = omega arith
kept_of_row qam16 s kept = omega arith
kept_of_row qam64 s kept = omega arith

module _ {v : ℕ} (legal : LegalBits v) (s kept : ℕ) (h : kept < 24) (g : s < 140) where
  pub kept_inside : kept_place v kept + 24 / v * s < 3360
  kept_inside =
      let e = kept_place_row legal s kept h g in
      let few = plane_inside legal (kept % v) (kept / v + 24 / v * s) (kept_line_lt legal kept)
      (kept_row_lt legal s kept h g) in
      omega arith

  pub kept_digit : (digit : ℕ → ℕ) → plane_at v digit (kept_place v kept + 24 / v * s) ≡ digit (24 * s + kept)
  kept_digit digit =
      ap (plane_at v digit) (kept_place_row legal s kept h g)
      ∙ plane_kept legal digit (kept % v) (kept / v + 24 / v * s) (kept_line_lt legal kept)
      (kept_row_lt legal s kept h g) ∙ ap digit (kept_of_row legal s kept)

pub block_few : {v : ℕ} → LegalBits v → (s : ℕ) → s < 140 → 24 / v * s < 1680
block_few qpsk s h = omega arith
block_few qam16 s h = omega arith
block_few qam64 s h = omega arith

-- how large the numbers of a line get
pub record Small (v l : ℕ) : Type 0 where
  pub least : 2 ≤ v
  pub most : v ≤ 6
  pub rows : 3360 / v ≤ 1680
  pub delay : l * (120 / (v - 1)) ≤ 120
  pub plane : 3360 / v * l ≤ 3360

pub small : {v : ℕ} → LegalBits v → (l : ℕ) → l < v → Small v l
small qpsk l h =
    record { least = omega arith; most = omega arith; rows = omega arith; delay = omega arith; plane = omega arith }
small qam16 l h =
    record { least = omega arith; most = omega arith; rows = omega arith; delay = omega arith; plane = omega arith }
small qam64 l h =
    record { least = omega arith; most = omega arith; rows = omega arith; delay = omega arith; plane = omega arith }

pub some_bits : {v : ℕ} → LegalBits v → 0 < v
some_bits qpsk = omega arith
some_bits qam16 = omega arith
some_bits qam64 = omega arith

pub kept_place_few : {v : ℕ} → LegalBits v → (kept : ℕ) → kept < 64 → kept % v * (3360 / v) + kept / v < 4000
kept_place_few qpsk kept h = omega arith
kept_place_few qam16 kept h = omega arith
kept_place_few qam64 kept h = omega arith

-- ---- where the digits of a message bit stand

x_none : (kept : Kept) (first second : ℕ) → kind_of kept ≡ 2 → 3360 ≡ place_x kept first second
x_none XY first second e = absurd (omega arith)
x_none X first second e = absurd (omega arith)
x_none Y first second e = refl

x_some : (kept : Kept) (first second : ℕ) → (kind_of kept ≡ 2 → ⊥) → first ≡ place_x kept first second
x_some XY first second e = refl
x_some X first second e = refl
x_some Y first second e = absurd (e refl)

y_none : (kept : Kept) (first second : ℕ) → kind_of kept ≡ 1 → 3360 ≡ place_y kept first second
y_none XY first second e = absurd (omega arith)
y_none X first second e = refl
y_none Y first second e = absurd (omega arith)

y_alone : (kept : Kept) (first second : ℕ) → kind_of kept ≡ 2 → first ≡ place_y kept first second
y_alone XY first second e = absurd (omega arith)
y_alone X first second e = absurd (omega arith)
y_alone Y first second e = refl

y_second : (kept : Kept) (first second : ℕ) → (kind_of kept ≡ 1 → ⊥) → (kind_of kept ≡ 2 → ⊥)
    → second ≡ place_y kept first second
y_second XY first second e f = refl
y_second X first second e f = absurd (e refl)
y_second Y first second e f = absurd (f refl)

module _ (v rate i kind kept : ℕ) (is : kind ≡ kind_of (pattern_at rate (i % 24)))
    (below : kept ≡ kept_below rate (i % 24)) where
  pub place_no_x : i < 24 → kind ≡ 2 → 3360 ≡ digit_place v rate i
  place_no_x h e = unfold digit_place in rw (lt-ltb i 24 h) (x_none (pattern_at rate (i % 24)) _ _ (sym is ∙ e))

  pub place_x_is : (place : ℕ) → i < 24 → (kind ≡ 2 → ⊥) → place ≡ kept_place v kept → place ≡ digit_place v rate i
  unfolding digit_place
  place_x_is place h e at =
      at ∙ ap (kept_place v) below ∙ rw (lt-ltb i 24 h) (x_some (pattern_at rate (i % 24)) _ _ (λ f. e (is ∙ f)))

  pub place_no_y : 24 ≤ i → kind ≡ 1 → 3360 ≡ digit_place v rate i
  place_no_y h e = unfold digit_place in rw (le-ltb i 24 h) (y_none (pattern_at rate (i % 24)) _ _ (sym is ∙ e))

  pub place_y_alone : (place : ℕ) → 24 ≤ i → kind ≡ 2 → place ≡ kept_place v kept → place ≡ digit_place v rate i
  unfolding digit_place
  place_y_alone place h e at =
      at ∙ ap (kept_place v) below ∙ rw (le-ltb i 24 h) (y_alone (pattern_at rate (i % 24)) _ _ (sym is ∙ e))

  pub place_y_is : (place : ℕ) → 24 ≤ i → (kind ≡ 1 → ⊥) → (kind ≡ 2 → ⊥) → place ≡ kept_place v (kept + 1)
      → place ≡ digit_place v rate i
  place_y_is place h e f at =
      unfold digit_place in at ∙ ap (λ (k : ℕ). kept_place v (k + 1)) below
      ∙ rw (le-ltb i 24 h) (y_second (pattern_at rate (i % 24)) _ _ (λ g. e (is ∙ g)) (λ g. f (is ∙ g)))

-- ---- and they are inside

module _ {v : ℕ} (bits : LegalBits v) (s : ℕ) (g : s < 140) where
  x_inside : (kept : Kept) (first second : ℕ) → first < 24
      → place_x kept (kept_place v first) (kept_place v second) + 24 / v * s < 5040
  x_inside XY first second h = let few = kept_inside bits s first h g in omega arith
  x_inside X first second h = let few = kept_inside bits s first h g in omega arith
  x_inside Y first second h = let few = block_few bits s g in omega arith

  y_inside : (kept : Kept) (first second : ℕ) → first < 24 → (kept ≡ XY → second < 24)
      → place_y kept (kept_place v first) (kept_place v second) + 24 / v * s < 5040
  y_inside XY first second h k = let few = kept_inside bits s second (k refl) g in omega arith
  y_inside X first second h k = let few = block_few bits s g in omega arith
  y_inside Y first second h k = let few = kept_inside bits s first h g in omega arith

  module _ {rate : ℕ} (legal : LegalRate rate) (i : ℕ) (h : i < packets_by_rate rate) where
    few : i < 24
    few = let most = rate_most rate in omega arith

    pub digit_x : digit_place v rate i
        ≡ place_x (pattern_at rate i) (kept_place v (kept_below rate i)) (kept_place v (kept_below rate i + 1))
    unfolding digit_place
    digit_x =
        rw (lt-ltb i 24 few) (ap (λ (n : ℕ). place_x (pattern_at rate n) (kept_place v (kept_below rate n))
        (kept_place v (kept_below rate n + 1))) (let f = few in omega arith))

    pub digit_y : digit_place v rate (24 + i)
        ≡ place_y (pattern_at rate i) (kept_place v (kept_below rate i)) (kept_place v (kept_below rate i + 1))
    digit_y =
        unfold digit_place in rw (le-ltb (24 + i) 24 (omega arith))
        (ap (λ (n : ℕ). place_y (pattern_at rate n) (kept_place v (kept_below rate n))
        (kept_place v (kept_below rate n + 1))) (let f = few in omega arith))

    pub digit_x_inside : digit_place v rate i + 24 / v * s < 5040
    digit_x_inside = rw digit_x (x_inside (pattern_at rate i) _ _ (kept_first legal i h))

    pub digit_y_inside : digit_place v rate (24 + i) + 24 / v * s < 5040
    digit_y_inside = rw digit_y (y_inside (pattern_at rate i) _ _ (kept_first legal i h) (kept_second legal i h))
