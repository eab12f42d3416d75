-- The pairs of a word.
--     Numbered, numbered      its numbers
--     held_are, frame_are     the pairs of a word of a call
--     word_is                 and the word that goes in
use mathlib.Core.Path.{◌≡◌, refl, sym, ap, ap₂, ◌∙◌}
use mathlib.Core.Bool.{Bool, true, false, cond}
use mathlib.Core.List.{List}
use Prim.Native.Nat.{ℕ, ◌+◌, ◌-◌, ◌*◌, ◌/◌, ◌%◌, ◌<◌, ◌≤◌}
use native.Mathlib.Nat.{mod-lt, div-add-mod, mul-le-mul}
use native.Mathlib.Decide.{dec_lt}
use native.Mathlib.Omega.{arith}
use lib.Dec.{ltb}
use lib.ListN.{get_or}
use borrow.Author.Tests.{lt-ltb, le-ltb, le-leb, eq-eqb}
use Rattle.lists.specs.Tab.{tab}
use Rattle.lists.proofs.Tabs.{tab_cong}
use Rattle.settings.specs.declared.Settings.{Settings}
use Rattle.settings.specs.Legal.{starting}
use Rattle.settings.specs.Patterns.{kept_below}
use Rattle.settings.specs.Sizes.{packets_by_rate, P}
use Rattle.settings.proofs.LegalSettings.{Legal, legal_settings}
use Rattle.settings.proofs.Frame.{frame_of_is}
use Rattle.rules.specs.Puncturing.{pattern_at}
use Rattle.puncturing.proofs.Linear.{legal_true}
use Rattle.rules.specs.Back.{shown_digit, held_digit, pair_at, received_digit, last_kept, held_count}
use Rattle.received_bits.specs.Received.{last_digit, held_fits, held_pairs_of, pair_in_blocks}
use Rattle.received_bits.proofs.Blocks.{pattern_block, kept_block}
use Rattle.received_bits.proofs.Whole.{bits_true}
use Rattle.received_bits.proofs.HeldLaws.{last_few}
use Rattle.receiver.specs.Steps.{word_of_pairs, FramePairs, digit_by, PairsOfCall, pairs_by}
use Rattle.received_bits.proofs.LastWord.{sized, kept_more, kept_both, Last, last_of}
use Rattle.receiver.proofs.Stretch.{pair_same, pairs_few, blocks_at, blocks_room}

-- ---- its digits

module _ (v lead count : ℕ) (held lines carriers : List ℕ) where
  last_is : (c : ℕ) → c < lead + count + 120 * v
      → last_digit v lead count held lines carriers c ≡ held_digit v lead count held lines carriers c
  last_is c h = unfold last_digit in rw (lt-ltb c (lead + count + 120 * v) h) refl

  -- counted from the frame's start
  held_on : (more c : ℕ) → held_digit v lead count held lines carriers c
      ≡ held_digit v (more + lead) count held lines carriers (more + c)
  unfolding held_digit
  held_on more c = go (dec_lt c lead) (dec_lt c (lead + count))
    where
      go : Dec (c < lead) → Dec (c < lead + count) → cond (ltb c lead) 2
          (cond (ltb c (lead + count)) (get_or held (c - lead) 0 % 2)
          (shown_digit v lines carriers (c - (lead + count))))
          ≡ cond (ltb (more + c) (more + lead)) 2
          (cond (ltb (more + c) (more + lead + count)) (get_or held (more + c - (more + lead)) 0 % 2)
          (shown_digit v lines carriers (more + c - (more + lead + count))))
      go (yes h) g = rw (lt-ltb c lead h, lt-ltb (more + c) (more + lead) (omega arith)) refl
      go (no h) (yes g) =
          let place : more + c - (more + lead) ≡ c - lead = omega arith in
          rw (
            le-ltb c lead (omega arith),
            le-ltb (more + c) (more + lead) (omega arith),
            lt-ltb c (lead + count) g,
            lt-ltb (more + c) (more + lead + count) (omega arith),
            place,
          ) refl
      go (no h) (no g) =
          let place : more + c - (more + lead + count) ≡ c - (lead + count) = omega arith in
          rw (
            le-ltb c lead (omega arith),
            le-ltb (more + c) (more + lead) (omega arith),
            le-ltb c (lead + count) (omega arith),
            le-ltb (more + c) (more + lead + count) (omega arith),
            place,
          ) refl

-- ---- the pairs of a word

-- the numbers of a word, as `call_pairs` has them
pub record Numbered (number size : ℕ) : Type 0 where
  pub some : 0 < size
  pub bits : 1632 * number ≤ 5346432
  pub left : 1632 * number % size ≤ 20
  pub block : 1632 * number / size < 1048576

pub numbered : (settings : Settings) → starting settings ≡ 0 → (number size : ℕ) → number < P settings
    → size ≡ packets_by_rate settings.rate → Numbered number size
numbered settings start number size h e =
    let sizes = sized (legal_settings settings start).rate in
    let low = sizes.some in
    let high = sizes.most in
    let most = (frame_of_is settings start).packets_most in
    let left : 1632 * number % size < size = mod-lt (1632 * number) (omega arith) in
    let whole = div-add-mod (1632 * number) size in
    let twelve : 12 ≤ size = omega arith in
    let same : 1632 * number / size ≤ 1632 * number / size = omega arith in
    let least : 12 * (1632 * number / size) ≤ size * (1632 * number / size) = mul-le-mul twelve same in
    record { some = omega arith; bits = omega arith; left = omega arith; block = omega arith }

module _ (settings : Settings) (start : starting settings ≡ 0) (number : ℕ) (held lines carriers pairs : List ℕ) where
  abbrev rate : ℕ
  rate = settings.rate

  abbrev v : ℕ
  v = settings.v

  abbrev left : ℕ
  left = 1632 * number % packets_by_rate rate

  abbrev s : ℕ
  s = 1632 * number / packets_by_rate rate

  legal : Legal settings
  legal = legal_settings settings start

  split : 1632 * number ≡ packets_by_rate rate * s + left
  split = sym (div-add-mod (1632 * number) (packets_by_rate rate))

  small : left < packets_by_rate rate
  small = let some = (sized legal.rate).some in mod-lt (1632 * number) (omega arith)

  bit_split : (i : ℕ) → 1632 * number + i ≡ packets_by_rate rate * s + (left + i)
  bit_split i = omega (arith, split)

  pub frame_are : (last : Bool) (block : ℕ) → last ≡ false → block ≡ s → FramePairs v rate block carriers pairs
      → PairsOfCall settings last number held lines carriers pairs
  frame_are last block e f at =
      unfold digit_by in record {
        few = at.few;
        at = λ i lt.
            let room = (sized legal.rate).room left small in
            at.at (left + i) (omega arith) ∙ ap (pair_at rate (received_digit v carriers))
            (ap (λ (k : ℕ). packets_by_rate rate * k + (left + i)) f ∙ sym (bit_split i)) ∙ rw e refl;
      }

  module _ (ends : number ≡ P settings - 1) where
    lastly : Last settings s left
    lastly = last_of settings start s left (ap (λ (n : ℕ). 1632 * n) (sym ends) ∙ split) small

    abbrev lead : ℕ
    lead = kept_below rate left

    fits : held_fits v lead (held_count settings) ≡ true
    unfolding held_fits
    fits =
        let room = lastly.room in
        let end = lastly.ends in
        rw (
          le-leb (held_count settings) 3072 lastly.few,
          eq-eqb ((lead + held_count settings) % v) 0 lastly.whole,
          le-leb (lead + held_count settings + 120 * v) 3360 (omega arith),
        ) refl

    here : (c : ℕ) → c < kept_below rate (left + 1632)
        → last_digit v lead (held_count settings) held lines carriers c
        ≡ held_digit v (last_kept settings) (held_count settings) held lines carriers (24 * s + c)
    here c h =
        let end = lastly.ends in
        last_is v lead (held_count settings) held lines carriers c (omega arith)
        ∙ held_on v lead (held_count settings) held lines carriers (24 * s) c
        ∙ ap (λ (k : ℕ). held_digit v k (held_count settings) held lines carriers (24 * s + c)) (sym lastly.begins)

    module _ (made : pairs ≡ tab 1680
        (pair_in_blocks rate (last_digit v lead (held_count settings) held lines carriers))) where
      pair_at_is : (i : ℕ) → i < 1632 → get_or pairs (left + i) 0
          ≡ pair_at rate (held_digit v (last_kept settings) (held_count settings) held lines carriers)
          (1632 * number + i)
      pair_at_is i lt =
          let room = (sized legal.rate).room left small in
          let most = blocks_room legal.rate in
          let kept : kept_below rate (1632 * number + i) ≡ 24 * s + kept_below rate (left + i) =
          ap (kept_below rate) (bit_split i) ∙ kept_block legal.rate s (left + i) in
          let same : left + i + (1632 - i) ≡ left + 1632 = omega arith in
          let below = (kept_more legal.rate (left + i) (1632 - i)).0 in
          let end = ap (kept_below rate) same in
          blocks_at rate _ pairs made (left + i) (omega arith) (omega arith)
          ∙ pair_same rate _ (held_digit v (last_kept settings) (held_count settings) held lines carriers) (left + i)
          (1632 * number + i)
          (sym (ap (pattern_at rate) (bit_split i) ∙ pattern_block legal.rate s (left + i)))
          (here (kept_below rate (left + i)) (omega arith)
          ∙ ap (held_digit v (last_kept settings) (held_count settings) held lines carriers) (sym kept)) (λ both.
          let second = kept_both legal.rate (left + i) (1632 - i) both (omega arith) in
          here (kept_below rate (left + i) + 1) (omega arith)
          ∙ ap (held_digit v (last_kept settings) (held_count settings) held lines carriers) (omega (arith, kept)))

    pub held_are : (last : Bool) (first count : ℕ) → last ≡ true → first ≡ lead → count ≡ held_count settings
        → pairs ≡ held_pairs_of v rate first count held lines carriers
        → PairsOfCall settings last number held lines carriers pairs
    unfolding held_pairs_of digit_by
    held_are last first count e f g are =
        let made : pairs ≡ tab 1680 (pair_in_blocks rate (last_digit v lead (held_count settings) held lines carriers))
        =
        are ∙ ap₂ (λ (a b : ℕ). held_pairs_of v rate a b held lines carriers) f g
        ∙ rw (bits_true legal.bits, legal_true legal.rate, fits) refl in
        record {
          few = pairs_few rate _ pairs made (last_few v lead (held_count settings) held lines carriers);
          at = λ i lt. rw e (pair_at_is made i lt);
        }

  -- the word that begins there
  pub word_is : (last : Bool) (place : ℕ) → place ≡ left → PairsOfCall settings last number held lines carriers pairs
      → word_of_pairs pairs place ≡ pairs_by settings last number held lines carriers
  unfolding word_of_pairs pairs_by
  word_is last place e at = tab_cong 1632 _ _ (λ i lt. ap (λ (k : ℕ). get_or pairs (k + i) 0) e ∙ at.at i lt)
