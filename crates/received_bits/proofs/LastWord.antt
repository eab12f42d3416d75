-- The numbers of a frame's last word.
--     Sized, sized                      the block of a rate
--     kept_more, kept_both              more message bits keep more bits
--     Last, last_of                     where the last word begins, and how many of its bits are held
--     Counted, counted                  the same, as `held_count` has it
--     packets_few, first_is             the frame's packets, and the word's first kept bit
--     bit_few, bit_inside               the carrier of a held bit is in the frame
--     held_at, held_there, held_none    the bits held
--     Bit, bit_of, bit_is               a kept bit of a frame, as `kept_bit` reads it
use mathlib.Core.Path.{◌≡◌, refl, sym, ap, ◌∙◌}
use mathlib.Core.Bool.{cond}
use mathlib.Core.List.{List}
use Prim.Native.Nat.{ℕ, ◌+◌, ◌-◌, ◌*◌, ◌/◌, ◌%◌, ◌^◌, ◌<◌, ◌≤◌}
use native.Mathlib.Nat.{mod-lt, div-add-mod, mul-le-mul}
use native.Mathlib.Omega.{arith}
use lib.Dec.{ltb}
use lib.ListN.{length, get_or, replicate, get_or-replicate}
use borrow.Author.Tests.{lt-ltb, le-ltb, eq-eqb}
use Rattle.settings.specs.declared.Settings.{Settings}
use Rattle.settings.specs.Legal.{starting}
use Rattle.settings.specs.Patterns.{XY, pattern_length, kept_below}
use Rattle.settings.specs.Sizes.{packets_by_rate, P, C, packets_of, carriers_of}
use Rattle.settings.proofs.LegalSettings.{LegalBits, qpsk, qam16, qam64, legal_settings, LegalRate, half, two_thirds}
use Rattle.settings.proofs.LegalSettings.{three_quarters, five_sixths, seven_eighths}
use Rattle.settings.proofs.Patterns.{begun, kept_below_closed}
use Rattle.settings.proofs.Frame.{frame_of_is}
use Rattle.rules.specs.Puncturing.{pattern_at}
use Rattle.rules.specs.Bits.{line_delay, carrier_of}
use Rattle.received_bits.specs.Received.{whole_blocks}
use Rattle.rules.specs.Back.{received_digit, last_kept, held_count}
use Rattle.received_bits.proofs.Blocks.{kept_block, kind_both, begun_most}
use Rattle.received_bits.proofs.HeldLaws.{digit_there}

-- ---- numbers of a rate

pub record Sized (rate : ℕ) : Type 0 where
  pub some : 12 ≤ packets_by_rate rate
  pub most : packets_by_rate rate ≤ 21
  pub room : (left : ℕ) → left < packets_by_rate rate → left + 1632 ≤ whole_blocks rate

pub sized : {rate : ℕ} → LegalRate rate → Sized rate
unfolding whole_blocks packets_by_rate
sized half = record { some = omega arith; most = omega arith; room = λ left h. omega arith }
sized two_thirds = record { some = omega arith; most = omega arith; room = λ left h. omega arith }
sized three_quarters = record { some = omega arith; most = omega arith; room = λ left h. omega arith }
sized five_sixths = record { some = omega arith; most = omega arith; room = λ left h. omega arith }
sized seven_eighths = record { some = omega arith; most = omega arith; room = λ left h. omega arith }

begun_more : {rate : ℕ} → LegalRate rate → (n k : ℕ)
    → (begun (pattern_length rate) n ≤ begun (pattern_length rate) (n + k))
    × (begun (pattern_length rate) (n + k) ≤ begun (pattern_length rate) n + k)
unfolding pattern_length begun
begun_more half n k = (omega arith, omega arith)
begun_more two_thirds n k = (omega arith, omega arith)
begun_more three_quarters n k = (omega arith, omega arith)
begun_more five_sixths n k = (omega arith, omega arith)
begun_more seven_eighths n k = (omega arith, omega arith)

begun_first : {rate : ℕ} → LegalRate rate → (n k : ℕ) → n % pattern_length rate ≡ 0 → 0 < k
    → begun (pattern_length rate) n + 1 ≤ begun (pattern_length rate) (n + k)
unfolding pattern_length begun
begun_first half n k e h = omega arith
begun_first two_thirds n k e h = omega arith
begun_first three_quarters n k e h = omega arith
begun_first five_sixths n k e h = omega arith
begun_first seven_eighths n k e h = omega arith

pub kept_more : {rate : ℕ} → LegalRate rate → (n k : ℕ)
    → (kept_below rate n + k ≤ kept_below rate (n + k)) × (kept_below rate (n + k) ≤ kept_below rate n + 2 * k)
kept_more legal n k =
    let less = kept_below_closed legal n in
    let more = kept_below_closed legal (n + k) in
    let grows = begun_more legal n k in
    (omega (arith, grows.0), omega (arith, grows.1))

pub kept_both : {rate : ℕ} → LegalRate rate → (n k : ℕ) → pattern_at rate n ≡ XY → 0 < k
    → kept_below rate n + 1 < kept_below rate (n + k)
kept_both legal n k e h =
    let less = kept_below_closed legal n in
    let more = kept_below_closed legal (n + k) in
    let grows = begun_first legal n k (kind_both legal n e) h in
    omega arith

kept_least : {rate : ℕ} → LegalRate rate → (n : ℕ) → kept_below rate n ≤ 2 * n
kept_least legal n =
    let closed = kept_below_closed legal n in
    let most = begun_most legal n in
    omega arith

-- ---- a frame's last word

row_whole : {v : ℕ} → LegalBits v → (carriers s sum : ℕ) → 24 * s + sum + 120 * v ≡ carriers * v → sum % v ≡ 0
row_whole qpsk carriers s sum e = omega arith
row_whole qam16 carriers s sum e = omega arith
row_whole qam64 carriers s sum e = omega arith

pub bits_most : {v : ℕ} → LegalBits v → (2 ≤ v) × (v ≤ 6)
bits_most qpsk = (omega arith, omega arith)
bits_most qam16 = (omega arith, omega arith)
bits_most qam64 = (omega arith, omega arith)

-- it begins `left` message bits after block s, and `lead` kept bits
pub record Last (settings : Settings) (s left : ℕ) : Type 0 where
  pub begins : last_kept settings ≡ 24 * s + kept_below settings.rate left
  pub inside : last_kept settings + 120 * settings.v ≤ C settings * settings.v
  pub count : last_kept settings + held_count settings + 120 * settings.v ≡ C settings * settings.v
  pub ends : kept_below settings.rate left + held_count settings + 120 * settings.v
      ≡ kept_below settings.rate (left + 1632)
  pub few : held_count settings ≤ 3072
  pub whole : (kept_below settings.rate left + held_count settings) % settings.v ≡ 0
  pub room : kept_below settings.rate (left + 1632) ≤ 3360

module _ (settings : Settings) (start : starting settings ≡ 0) where
  abbrev size : ℕ
  size = packets_by_rate settings.rate

  pub last_of : (s left : ℕ) → 1632 * (P settings - 1) ≡ size * s + left → left < size → Last settings s left
  last_of s left e small =
      unfold last_kept held_count in let legal = legal_settings settings start in
      let frame = frame_of_is settings start in
      let rate = legal.rate in
      let sizes = sized rate in
      let all : 1632 * P settings ≡ size * s + (left + 1632) = omega (arith, frame.packets_least) in
      let first : kept_below settings.rate (1632 * (P settings - 1)) ≡ 24 * s + kept_below settings.rate left =
      ap (kept_below settings.rate) e ∙ kept_block rate s left in
      let behind : C settings * settings.v ≡ 24 * s + kept_below settings.rate (left + 1632) =
      sym frame.kept ∙ ap (kept_below settings.rate) all ∙ kept_block rate s (left + 1632) in
      let grows = kept_more rate left 1632 in
      let most = kept_least rate (left + 1632) in
      let bits = bits_most legal.bits in
      let low = grows.0 in
      let high = grows.1 in
      let six = bits.1 in
      let two = bits.0 in
      let few = sizes.most in
      record {
        begins = first;
        inside = omega arith;
        count = omega arith;
        ends = omega arith;
        few = omega arith;
        whole = row_whole legal.bits (C settings) s _ (omega arith);
        room = omega arith;
      }

-- the same, from the numbers that `held_count` has
pub record Counted (settings : Settings) (last carriers : ℕ) : Type 0 where
  pub fits : carriers * settings.v ≤ 6110208
  pub first : last ≤ carriers * settings.v
  pub second : 120 * settings.v ≤ carriers * settings.v - last
  pub is : carriers * settings.v - last - 120 * settings.v ≡ held_count settings
  pub few : carriers * settings.v - last - 120 * settings.v ≤ 3072

module _ (settings : Settings) (start : starting settings ≡ 0) where
  pub packets_are : packets_of settings ≡ P settings
  packets_are = unfold packets_of in rw (eq-eqb (starting settings) 0 start) refl

  pub carriers_are : carriers_of settings ≡ C settings
  carriers_are = unfold carriers_of in rw (eq-eqb (starting settings) 0 start) refl

  pub last_here : Last settings (1632 * (P settings - 1) / packets_by_rate settings.rate)
      (1632 * (P settings - 1) % packets_by_rate settings.rate)
  last_here =
      let some = (sized (legal_settings settings start).rate).some in
      last_of settings start _ _ (sym (div-add-mod (1632 * (P settings - 1)) (packets_by_rate settings.rate)))
      (mod-lt (1632 * (P settings - 1)) (omega arith))

  pub packets_few : (packets : ℕ) → packets ≡ packets_of settings → (12 ≤ packets) × (packets ≤ 3276)
  packets_few packets e =
      let frame = frame_of_is settings start in
      let same = e ∙ packets_are in
      (omega (arith, frame.packets_least), omega (arith, frame.packets_most))

  pub first_is : (packets last : ℕ) → packets ≡ packets_of settings
      → last ≡ kept_below settings.rate (1632 * (packets - 1)) → last ≡ last_kept settings
  unfolding last_kept
  first_is packets last e f = f ∙ ap (λ (n : ℕ). kept_below settings.rate (1632 * (n - 1))) (e ∙ packets_are)

  pub counted : (packets last carriers : ℕ) → packets ≡ packets_of settings
      → last ≡ kept_below settings.rate (1632 * (packets - 1)) → carriers ≡ carriers_of settings
      → Counted settings last carriers
  counted packets last carriers e f g =
      let here = last_here in
      let first = first_is packets last e f in
      let bits : carriers * settings.v ≡ C settings * settings.v =
      ap (λ (n : ℕ). n * settings.v) (g ∙ carriers_are) in
      let frame = frame_of_is settings start in
      let most : C settings * settings.v ≤ 1018368 * 6 =
      mul-le-mul frame.carriers_most (bits_most (legal_settings settings start).bits).1 in
      let inside = here.inside in
      let count = here.count in
      let few = here.few in
      record {
        fits = omega arith;
        first = omega arith;
        second = omega arith;
        is = omega arith;
        few = omega arith;
      }

  -- ---- the bits that are held

  pub bit_few : (first count i : ℕ) → first ≡ last_kept settings → count ≡ held_count settings → i < count
      → first + i < 6110208
  bit_few first count i e f h =
      let whole = last_here.count in
      let most : C settings * settings.v ≤ 1018368 * 6 =
      mul-le-mul (frame_of_is settings start).carriers_most (bits_most (legal_settings settings start).bits).1 in
      omega arith

  pub bit_inside : (first count i : ℕ) → first ≡ last_kept settings → count ≡ held_count settings → i < count
      → (first + i) / settings.v + 120 < C settings
  bit_inside first count i e f h =
      let whole = last_here.count in
      row_below (legal_settings settings start).bits (C settings) (first + i) (omega arith)
    where
      row_below : {v : ℕ} → LegalBits v → (carriers c : ℕ) → c + 120 * v < carriers * v → c / v + 120 < carriers
      row_below qpsk carriers c h = omega arith
      row_below qam16 carriers c h = omega arith
      row_below qam64 carriers c h = omega arith

-- bit i of the unfinished word, as the state holds it
abbrev pub held_at : Settings → List ℕ → ℕ → ℕ
held_at settings carriers i =
    cond (ltb i (held_count settings)) (received_digit settings.v carriers (last_kept settings + i)) 0

module _ (settings : Settings) (carriers : List ℕ) where
  pub held_there : (first count i bit : ℕ) → first ≡ last_kept settings → count ≡ held_count settings → i < count
      → bit ≡ received_digit settings.v carriers (first + i) → bit ≡ held_at settings carriers i
  held_there first count i bit e f h is =
      is ∙ ap (λ (n : ℕ). received_digit settings.v carriers (n + i)) e
      ∙ rw (lt-ltb i (held_count settings) (omega arith)) refl

  pub held_none : (count : ℕ) → count ≡ held_count settings → (k : ℕ) → count ≤ k → k < 3072
      → get_or (replicate 3072 0) k 0 ≡ held_at settings carriers k
  held_none count e k h lt =
      get_or-replicate {A = ℕ} 3072 k 0 0 lt ∙ rw (le-ltb k (held_count settings) (omega arith)) refl

pub record Bit (v c : ℕ) : Type 0 where
  pub some : 2 ≤ v
  pub few : v ≤ 6
  pub line : c % v < v
  pub delay : c % v * (120 / (v - 1)) ≤ 120

pub bit_of : {v : ℕ} → LegalBits v → (c : ℕ) → Bit v c
bit_of qpsk c = record { some = omega arith; few = omega arith; line = omega arith; delay = omega arith }
bit_of qam16 c = record { some = omega arith; few = omega arith; line = omega arith; delay = omega arith }
bit_of qam64 c = record { some = omega arith; few = omega arith; line = omega arith; delay = omega arith }

pub bit_is : (v : ℕ) (carriers : List ℕ) (c : ℕ) → c / v + c % v * (120 / (v - 1)) < length carriers
    → get_or carriers (c / v + c % v * (120 / (v - 1))) 0 / 2 ^ (v - 1 - c % v) % 2 ≡ received_digit v carriers c
unfolding received_digit carrier_of line_delay
bit_is v carriers c h = digit_there v carriers (c / v + c % v * (120 / (v - 1))) (c % v) h
