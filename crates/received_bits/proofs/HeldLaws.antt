-- What is held of a frame's last word, and the lines behind it.
--     too_many, too_far, no_row, row    whether it fits
--     Held, held_fits_is                the numbers where it does
--     first_none, first_more, first_most where the entries of a line begin
--     entry_inside                       and that they are inside
--     digit_there, digit_none            the digit of a carrier
--     shown_early, shown_late            what a line shows
--     last_lead, last_held, last_shown   the digit of a kept bit of the word
--     last_none                          and behind it
--     last_few                           it is 0, 1 or 2
--     known_few, row_inside, row_behind  the rows whose digits may be known
--     shown_row                          the row and the line of a digit that is shown
--     held_all, held_not, held_legal     the pairs of the word, and what is answered for one that does not fit
--     held_no_rate, held_no_bits         and for settings that are not legal
use mathlib.Core.Path.{◌≡◌, refl, sym, ap, ◌∙◌}
use mathlib.Core.Bool.{true, false, cond, ◌&&◌}
use mathlib.Core.List.{List}
use Prim.Native.Nat.{ℕ, zero, suc, ◌+◌, ◌-◌, ◌*◌, ◌/◌, ◌%◌, ◌^◌, ◌<◌, ◌≤◌}
use native.Mathlib.Omega.{arith}
use lib.Dec.{eqb, leb, ltb}
use lib.ListN.{length, get_or, replicate}
use borrow.Author.Tests.{lt-ltb, le-ltb, lt-leb, le-leb, ne_eqb, eq-eqb, leb-true, eqb-true}
use Rattle.puncturing.proofs.Tables.{none_legal}
use Rattle.lists.proofs.Bools.{and_both, and_no}
use Rattle.lists.specs.Tab.{piece_start, tab}
use Rattle.lists.proofs.Pieces.{start_more, start_mono}
use Rattle.settings.specs.Legal.{legal_bits}
use Rattle.settings.specs.Patterns.{pattern_length}
use Rattle.settings.proofs.LegalSettings.{LegalBits, LegalRate, qpsk, qam16, qam64}
use Rattle.puncturing.proofs.Linear.{legal_true}
use Rattle.rules.specs.Bits.{line_delay, wait_of}
use Rattle.rules.proofs.Widths.{fits_two, fits_four, fits_six}
use Rattle.rules.specs.Back.{line_digit, shown_by, shown_digit, held_digit}
use Rattle.received_bits.specs.Received.{pair_in_blocks, held_fits, last_digit, held_pairs_of}
use Rattle.received_bits.specs.Steps.{plane_at, pair_in_planes}
use Rattle.received_bits.proofs.PairFilling.{from_planes}
use Rattle.received_bits.proofs.Whole.{cond_few, bit_few, digit_few, bits_true}

module _ (v lead count : ℕ) where
  pub too_many : 3072 < count → false ≡ held_fits v lead count
  too_many h = unfold held_fits in sym (rw (lt-leb count 3072 h) refl)

  pub too_far : 3360 < lead → false ≡ held_fits v lead count
  too_far h =
      unfold held_fits in sym (rw (
        lt-leb (lead + count + 120 * v) 3360 (omega arith),
        and_no (leb count 3072 && eqb ((lead + count) % v) 0),
      ) refl)

  pub no_row : ((lead + count) % v ≡ 0 → ⊥) → false ≡ held_fits v lead count
  no_row h = unfold held_fits in sym (rw (ne_eqb ((lead + count) % v) 0 h, and_no (leb count 3072)) refl)

  pub row : count ≤ 3072 → (lead + count) % v ≡ 0 → leb (lead + count + 120 * v) 3360 ≡ held_fits v lead count
  unfolding held_fits
  row h e = sym (rw (le-leb count 3072 h, eq-eqb ((lead + count) % v) 0 e) refl)

pub record Held (v lead count : ℕ) : Type 0 where
  pub few : count ≤ 3072
  pub whole : (lead + count) % v ≡ 0
  pub room : lead + count + 120 * v ≤ 3360

pub held_fits_is : (v lead count : ℕ) → held_fits v lead count ≡ true → Held v lead count
unfolding held_fits
held_fits_is v lead count e =
    let one = and_both (leb count 3072 && eqb ((lead + count) % v) 0) (leb (lead + count + 120 * v) 3360) e in
    let two = and_both (leb count 3072) (eqb ((lead + count) % v) 0) one.0 in
    record {
      few = leb-true count 3072 two.0;
      whole = eqb-true ((lead + count) % v) 0 two.1;
      room = leb-true (lead + count + 120 * v) 3360 one.1;
    }

-- ---- the lines

wait_is : (v l : ℕ) → 120 - l * (120 / (v - 1)) ≡ wait_of v l
wait_is v l = unfold wait_of line_delay in refl

pub first_none : (v : ℕ) → 0 ≡ piece_start (wait_of v) 0
first_none v = unfold piece_start in refl

pub first_more : (v first i : ℕ) → first ≡ piece_start (wait_of v) i
    → first + (120 - i * (120 / (v - 1))) ≡ piece_start (wait_of v) (i + 1)
first_more v first i e =
    let more = start_more (wait_of v) i in
    let step : piece_start (wait_of v) (i + 1) ≡ piece_start (wait_of v) (suc i) =
    ap (piece_start (wait_of v)) {x = i + 1} {y = suc i} (omega arith) in
    let is = wait_is v i in
    omega arith

pub first_most : (v i : ℕ) → piece_start (wait_of v) i ≤ 120 * i
first_most v zero = let none = first_none v in omega arith
first_most v (suc i) =
    let more = start_more (wait_of v) i in
    let before = first_most v i in
    let is = wait_is v i in
    omega arith

-- the entries of a line are inside
pub entry_inside : {v : ℕ} → LegalBits v → (l k : ℕ) → l < v → k < 120 - l * (120 / (v - 1))
    → piece_start (wait_of v) l + k < 360
entry_inside {v} legal l k h g =
    let mono = start_mono (wait_of v) l v h in
    let is = wait_is v l in
    let room = waits_room legal in
    omega arith
  where
    waits_room : {v : ℕ} → LegalBits v → piece_start (wait_of v) v ≤ 360
    waits_room qpsk = (fits_two true).room
    waits_room qam16 = (fits_four true).room
    waits_room qam64 = (fits_six true).room

module _ (v : ℕ) (carriers : List ℕ) (k l : ℕ) where
  pub digit_there : k < length carriers → get_or carriers k 0 / 2 ^ (v - 1 - l) % 2 ≡ line_digit v carriers k l
  digit_there h = unfold line_digit in sym (rw (lt-ltb k (length carriers) h) refl)

  pub digit_none : length carriers ≤ k → 2 ≡ line_digit v carriers k l
  digit_none h = unfold line_digit in sym (rw (le-ltb k (length carriers) h) refl)

module _ (v : ℕ) (lines carriers : List ℕ) (k l : ℕ) where
  pub shown_early : (first : ℕ) → k < 120 - l * (120 / (v - 1)) → first ≡ piece_start (wait_of v) l
      → get_or lines (first + k) 0 % 2 ≡ shown_by v lines carriers k l
  unfolding shown_by
  shown_early first h e = sym (rw (lt-ltb k (wait_of v l) (rw (wait_is v l) at h), sym e) refl)

  pub shown_late : (digit : ℕ) → 120 - l * (120 / (v - 1)) ≤ k
      → digit ≡ line_digit v carriers (k - (120 - l * (120 / (v - 1)))) l → digit ≡ shown_by v lines carriers k l
  unfolding shown_by
  shown_late digit h e = e ∙ sym (rw (le-ltb k (wait_of v l) (rw (wait_is v l) at h), sym (wait_is v l)) refl)

-- ---- the digits of the word

module _ (v lead count : ℕ) (held lines carriers : List ℕ) (c : ℕ) where
  pub last_lead : c < lead + count + 120 * v → c < lead → 2 ≡ last_digit v lead count held lines carriers c
  unfolding last_digit held_digit
  last_lead inside h = sym (rw (lt-ltb c (lead + count + 120 * v) inside, lt-ltb c lead h) refl)

  pub last_held : c < lead + count + 120 * v → lead ≤ c → c < lead + count
      → get_or held (c - lead) 0 % 2 ≡ last_digit v lead count held lines carriers c
  unfolding last_digit held_digit
  last_held inside h g =
      sym (rw (lt-ltb c (lead + count + 120 * v) inside, le-ltb c lead h, lt-ltb c (lead + count) g) refl)

  pub last_shown : (digit : ℕ) → c < lead + count + 120 * v → lead + count ≤ c
      → digit ≡ shown_by v lines carriers ((c - (lead + count)) / v) ((c - (lead + count)) % v)
      → digit ≡ last_digit v lead count held lines carriers c
  last_shown digit inside h e =
      unfold last_digit held_digit shown_digit in e
      ∙ sym (rw (lt-ltb c (lead + count + 120 * v) inside, le-ltb c lead (omega arith), le-ltb c (lead + count) h) refl)

  pub last_none : lead + count + 120 * v ≤ c → 2 ≡ last_digit v lead count held lines carriers c
  last_none h = unfold last_digit in sym (rw (le-ltb c (lead + count + 120 * v) h) refl)

  shown_few : (k l : ℕ) → shown_by v lines carriers k l < 3
  unfolding shown_by
  shown_few k l = cond_few (ltb k (wait_of v l)) _ _ (bit_few (get_or lines (piece_start (wait_of v) l + k) 0))
      (digit_few v carriers (k - wait_of v l) l)

  pub last_few : last_digit v lead count held lines carriers c < 3
  unfolding last_digit held_digit shown_digit
  last_few =
      cond_few (ltb c (lead + count + 120 * v)) _ 2 (cond_few (ltb c lead) 2 _ (omega arith)
      (cond_few (ltb c (lead + count)) _ _ (bit_few (get_or held (c - lead) 0))
      (shown_few ((c - (lead + count)) / v) ((c - (lead + count)) % v)))) (omega arith)

-- ---- rows of it

known_rows : {v : ℕ} → LegalBits v → (sum : ℕ) → sum + 120 * v ≤ 3360 → sum / v + 120 ≤ 3360 / v
known_rows qpsk sum h = omega arith
known_rows qam16 sum h = omega arith
known_rows qam64 sum h = omega arith

pub known_few : {v : ℕ} → LegalBits v → (lead count : ℕ) → Held v lead count → (lead + count) / v + 120 ≤ 3360 / v
known_few legal lead count fits = known_rows legal (lead + count) fits.room

pub row_inside : {v : ℕ} → LegalBits v → (sum k l : ℕ) → sum % v ≡ 0 → l < v → k < sum / v + 120
    → k * v + l < sum + 120 * v
row_inside qpsk sum k l e h g = omega arith
row_inside qam16 sum k l e h g = omega arith
row_inside qam64 sum k l e h g = omega arith

pub row_behind : {v : ℕ} → LegalBits v → (sum k l : ℕ) → sum / v + 120 ≤ k → sum % v ≡ 0 → sum + 120 * v ≤ k * v + l
row_behind qpsk sum k l h e = omega arith
row_behind qam16 sum k l h e = omega arith
row_behind qam64 sum k l h e = omega arith

pub shown_row : {v : ℕ} → LegalBits v → (shown : ℕ) → shown < 120 * v → (shown / v < 120) × (shown % v < v)
shown_row qpsk shown h = (omega arith, omega arith)
shown_row qam16 shown h = (omega arith, omega arith)
shown_row qam64 shown h = (omega arith, omega arith)

-- ---- the pairs of the word

module _ (lead count : ℕ) (held lines carriers : List ℕ) where
  pub held_all : {v rate : ℕ} → LegalBits v → LegalRate rate → (planes out : List ℕ) → held_fits v lead count ≡ true
      → planes ≡ tab 5040 (plane_at v (last_digit v lead count held lines carriers))
      → out ≡ tab 1680 (pair_in_planes v rate planes)
      → out ≡ cond (held_fits v lead count) (tab 1680 (pair_in_blocks rate (last_digit v lead count held lines
      carriers)))
      (replicate 1680 8)
  held_all {v} {rate} bits legal planes out fits e f =
      rw fits (f ∙ ap (λ (list : List ℕ). tab 1680 (pair_in_planes v rate list)) e
      ∙ from_planes bits legal (last_digit v lead count held lines carriers))

  pub held_not : (v rate : ℕ) → held_fits v lead count ≡ false → replicate 1680 8
      ≡ cond (held_fits v lead count) (tab 1680 (pair_in_blocks rate (last_digit v lead count held lines carriers)))
      (replicate 1680 8)
  held_not v rate e = rw e refl

  pub held_legal : {v rate : ℕ} → LegalBits v → LegalRate rate → (given : ℕ) (out : List ℕ) → given ≡ v
      → out ≡ cond (held_fits v lead count) (tab 1680 (pair_in_blocks rate (last_digit v lead count held lines
      carriers)))
      (replicate 1680 8) → out ≡ held_pairs_of given rate lead count held lines carriers
  unfolding held_pairs_of
  held_legal {v} {rate} bits legal given out e f = rw e (f ∙ rw (bits_true bits, legal_true legal) refl)

  pub held_no_rate : (v rate : ℕ) → pattern_length rate ≡ 0
      → replicate 1680 8 ≡ held_pairs_of v rate lead count held lines carriers
  held_no_rate v rate e = unfold held_pairs_of in rw (none_legal rate e, and_no (legal_bits v)) refl

  pub held_no_bits : (v rate : ℕ) → (v ≡ 6 → ⊥) → (v ≡ 4 → ⊥) → (v ≡ 2 → ⊥)
      → replicate 1680 8 ≡ held_pairs_of v rate lead count held lines carriers
  unfolding held_pairs_of
  held_no_bits v rate six four two = rw (ne_eqb v 2 two, ne_eqb v 4 four, ne_eqb v 6 six) refl
