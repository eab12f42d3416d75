-- The list is no larger than it must be: equal packets list nothing, and, whatever packet was coded, each carrier that
-- a byte of its word reaches is altered by some replacement of it.
--     equal_packets_list_nothing      two equal packets list no carrier
--     none_listed_stays               where no carrier is listed, no carrier alters
--     equal_packets_alter_nothing     so equal packets alter none
--     each_can_alter                  each carrier that a byte of 0 to 202 reaches is altered by some replacement
use mathlib.Core.Path.{◌≡◌, refl, sym, ap, ◌∙◌}
use mathlib.Core.Bool.{true}
use mathlib.Core.List.{List}
use Prim.Native.Nat.{ℕ, suc, ◌+◌, ◌-◌, ◌*◌, ◌/◌, ◌%◌, ◌^◌, ◌<◌, ◌≤◌}
use native.Mathlib.Nat.{zero-div}
use native.Mathlib.Decide.{ℕ_discrete}
use native.Mathlib.Omega.{arith}
use lib.Bits.{bit_xor, xor_self, xor_lt}
use lib.Dec.{ltb, ltb→lt}
use lib.ListN.{length, get_or}
use lib.Pow.{pow_pos}
use lib.Seq.{ext_get_or}
use borrow.Author.Tests.{eq-eqb, eqb-true}
use Rattle.lists.proofs.Every.{at}
use Rattle.lists.proofs.Tabs.{length_tab, get_d_tab}
use Rattle.settings.specs.declared.Settings.{Settings}
use Rattle.settings.specs.Legal.{starting}
use Rattle.settings.specs.Sizes.{C}
use Rattle.settings.proofs.LegalSettings.{LegalBits, qpsk, qam16, qam64, legal_settings}
use Rattle.rules.specs.Word.{codeword_of, sent_word}
use Rattle.rules.specs.Bytes.{waits_there, memory_at_start, stream_byte, comes_out_at}
use Rattle.rules.specs.Frame.{Frame, message_bit, kept_bit_of, carrier_value}
use Rattle.rules.proofs.Added.{added_to, kept_bits}
use Rattle.rules.proofs.OneByte.{OneByte, one_byte}
use Rattle.rules.proofs.ParityLinear.{entry_added, packets_added}
use Rattle.rules.proofs.Shown.{carrier_shows}
use Rattle.rules.proofs.Stream.{stream_late}
use Rattle.rules.proofs.Words.{sent_at}
use Rattle.coding_answers.specs.Listed.{Reached, Listed}
use Rattle.coding_answers.specs.Replacement.{difference_byte, difference_frame, replaced_carriers, begins}
use Rattle.coding_answers.specs.Calls.{AlteredBy}
use Rattle.coding_answers.proofs.Again.{difference_entries}
use Rattle.coding_answers.proofs.Difference.{add_difference, nothing_added, difference_own}
use Rattle.coding_answers.proofs.OneBit.{Spot, spot, kept_is_1}
use Rattle.coding_answers.proofs.Outside.{outside_stays}
use Rattle.coding_answers.proofs.Quiet.{stream_quiet}
use Rattle.coding_answers.proofs.Replacements.{length_replaced}

-- ---- equal packets

module _ (settings : Settings) (number : ℕ) where
  -- "For each byte of 0 to 202 in which the two words differ": there is none.
  pub equal_packets_list_nothing : (packet : List ℕ) (carrier : ℕ) → Listed settings number packet packet carrier → ⊥
  equal_packets_list_nothing packet carrier listed = listed.differs refl

  module _ (start : starting settings ≡ 0) (carriers : List ℕ) (long : length carriers ≡ C settings) where
    pub none_listed_stays : (old new : List ℕ)
        → ((carrier : ℕ) → carrier < C settings → Listed settings number old new carrier → ⊥)
        → replaced_carriers settings number old new carriers ≡ carriers
    none_listed_stays old new none =
        ext_get_or 0 (replaced_carriers settings number old new carriers) carriers
        (length_replaced settings number old new carriers) (λ k lt.
        let less : k < C settings = omega (arith, length_replaced settings number old new carriers) in
        outside_stays settings start number old new k less (none k less) carriers long)

    -- "Old equal to new flips nothing."
    pub equal_packets_alter_nothing : (packet : List ℕ)
        → replaced_carriers settings number packet packet carriers ≡ carriers
    equal_packets_alter_nothing packet =
        none_listed_stays packet packet (λ carrier less. equal_packets_list_nothing packet carrier)

-- ---- each carrier can alter

-- the branches of two bytes of the stream, one behind the other
data Neighbours (a b : ℕ) : Type 0 where
  next : b ≡ a + 1 → a < 11 → Neighbours a b
  around : a ≡ 11 → b ≡ 0 → Neighbours a b

neighbours : (t : ℕ) → Neighbours (t % 12) (suc t % 12)
neighbours t = elim (ℕ_discrete (t % 12) 11) [
  | yes e ↦ around e (omega arith)
  | no ne ↦ next (omega arith) (omega arith)
]

module _ (number byte : ℕ) (few : byte ≤ 202) where
  abbrev place : ℕ
  place = comes_out_at waits_there (204 * number + byte)

  place_is : place ≡ 204 * (number + byte % 12) + byte
  place_is = unfold comes_out_at waits_there in omega arith

  place_branch : place % 12 ≡ byte % 12
  place_branch = let is = place_is in omega arith

  -- the bytes beside it come from other words
  before_other : (t : ℕ) → suc t ≡ place → 204 * (t % 12) ≤ t → (t - 204 * (t % 12)) / 204 ≡ number → ⊥
  before_other t e le same =
      let is = place_is in
      let branch : suc t % 12 ≡ byte % 12 = ap (λ (p : ℕ). p % 12) e ∙ place_branch in
      elim (neighbours t) [
        | next one more ↦ omega arith
        | around last first ↦ omega arith
      ]

  after_other : 204 * (suc place % 12) ≤ suc place → (suc place - 204 * (suc place % 12)) / 204 ≡ number → ⊥
  after_other le same =
      let is = place_is in
      let branch = place_branch in
      elim (neighbours place) [
        | next one more ↦ omega arith
        | around last first ↦ omega arith
      ]

  module _ (settings : Settings) (old new : List ℕ) where
    abbrev stream : ℕ → ℕ
    stream = stream_byte waits_there memory_at_start (difference_byte number old new)

    stream_own : stream place ≡ bit_xor (get_or (sent_word old) byte 0) (get_or (sent_word new) byte 0)
    unfolding waits_there
    stream_own =
        let is = place_is in
        let branch = place_branch in
        let from : place - 204 * (place % 12) ≡ 204 * number + byte = omega arith in
        let word : (204 * number + byte) / 204 ≡ number = omega arith in
        let rest : (204 * number + byte) % 204 ≡ byte = omega arith in
        stream_late waits_there memory_at_start (difference_byte number old new) place (place % 12) refl (omega arith)
        ∙ ap (difference_byte number old new) from ∙ difference_own number old new (204 * number + byte) word
        ∙ ap (λ (j : ℕ). bit_xor (get_or (sent_word old) j 0) (get_or (sent_word new) j 0)) rest

    stream_before : (t : ℕ) → suc t ≡ place → stream t ≡ 0
    stream_before t e = stream_quiet settings number old new t (before_other t e)

    stream_after : stream (suc place) ≡ 0
    stream_after = stream_quiet settings number old new (suc place) after_other

-- ---- the new packet

some_bits : {v : ℕ} → LegalBits v → 0 < v
some_bits qpsk = omega arith
some_bits qam16 = omega arith
some_bits qam64 = omega arith

-- one bit of a byte
bit_lt : (i : ℕ) → i < 8 → 2 ^ (7 - i) < 256
bit_lt i few = ltb→lt (2 ^ (7 - i)) 256 (at (λ (i : ℕ). ltb (2 ^ (7 - i)) 256) 8 tt i few)

module _ (settings : Settings) (start : starting settings ≡ 0) (number byte : ℕ) (few : byte ≤ 202) (carrier : ℕ)
    (reached : Reached settings (comes_out_at waits_there (204 * number + byte)) carrier)
    (old : List ℕ) (old_long : length old ≡ 188) (old_begins : begins old ≡ true)
    (old-bytes : (k : ℕ) → get_or old k 0 < 256) where
  here : Spot (place number byte few) reached.message
  here = spot (place number byte few) reached.message reached.first reached.last

  abbrev value : ℕ
  value = 2 ^ (7 - here.bit % 8)

  -- the words are to differ by that bit in this byte
  chosen : OneByte (byte + 1) value
  chosen = one_byte (byte + 1) value (bit_lt (here.bit % 8) (omega arith)) (omega arith) (omega arith)

  abbrev new : List ℕ
  new = added_to 188 old chosen.message

  new_at : (k : ℕ) → get_or new k 0 ≡ bit_xor (get_or old k 0) (get_or chosen.message k 0)
  new_at = entry_added 188 old chosen.message old_long chosen.long

  words_differ : bit_xor (get_or (sent_word old) byte 0) (get_or (sent_word new) byte 0) ≡ value
  words_differ =
      rw (sent_at old byte (omega arith), sent_at new byte (omega arith))
      (ap (λ (word : List ℕ). bit_xor (get_or (codeword_of old) (byte + 1) 0) (get_or word (byte + 1) 0))
      (packets_added old chosen.message old_long chosen.long)
      ∙ ap (bit_xor (get_or (codeword_of old) (byte + 1) 0)) (get_d_tab 204 _ (byte + 1) (omega arith))
      ∙ add_difference (get_or (codeword_of old) (byte + 1) 0) (get_or (codeword_of chosen.message) (byte + 1) 0)
      ∙ chosen.is)

  abbrev difference : Frame
  difference = difference_frame settings number old new

  kept_1 : kept_bit_of difference reached.kept ≡ 1
  unfolding kept_bit_of message_bit difference_frame
  kept_1 =
      kept_is_1 (stream number byte few settings old new) (place number byte few) reached.message here
      (stream_own number byte few settings old new ∙ words_differ) (stream_before number byte few settings old new)
      (stream_after number byte few settings old new) (legal_settings settings start).rate reached.kept
      reached.kept_first reached.kept_last

  carrier_some : carrier_value difference carrier ≡ 0 → ⊥
  unfolding carrier_value difference_frame
  carrier_some none =
      let v = settings.v in
      let line = v - 1 - reached.kept % v in
      let shows = carrier_shows v difference.lines (kept_bit_of difference)
      (difference_entries settings number old new) (kept_bits difference) reached.kept
      (some_bits (legal_settings settings start).bits) in
      let zero : 0 / 2 ^ line % 2 ≡ 1
      = sym (ap (λ (x : ℕ). x / 2 ^ line % 2) (ap (carrier_value difference) reached.carrier_is ∙ none))
      ∙ shows ∙ kept_1 in
      let none-there : 0 / 2 ^ line % 2 ≡ 0 = ap (λ (x : ℕ). x % 2) (zero-div (2 ^ line)) in
      omega arith

  -- a list with the difference's carriers added is another there
  carrier_alters : (carriers : List ℕ) → carrier < length carriers
      → get_or (replaced_carriers settings number old new carriers) carrier 0 ≡ get_or carriers carrier 0 → ⊥
  unfolding replaced_carriers
  carrier_alters carriers lt same =
      carrier_some (nothing_added (get_or carriers carrier 0) (carrier_value difference carrier)
      (sym (get_d_tab (length carriers) _ carrier lt) ∙ same))

  -- Each carrier that a byte of the word reaches is altered by a replacement that lists it.
  pub each_can_alter : AlteredBy settings number old carrier
  each_can_alter =
      record {
        new = new;
        long = length_tab 188 _;
        begun = eq-eqb (get_or new 0 0) 0x47
            (new_at 0 ∙ rw (eqb-true (get_or old 0 0) 0x47 old_begins, chosen.begins_0) refl);
        bytes = λ k.
            rw (new_at k) (xor_lt 8 (get_or old k 0) (get_or chosen.message k 0) (old-bytes k) (chosen.bytes k));
        listed = record {
          byte = byte;
          few = few;
          differs = λ same. differs (ap (λ (x : ℕ). bit_xor x (get_or (sent_word new) byte 0)) same);
          reached = reached;
        };
        alters = carrier_alters;
      }
    where
      differs : bit_xor (get_or (sent_word old) byte 0) (get_or (sent_word new) byte 0)
          ≡ bit_xor (get_or (sent_word new) byte 0) (get_or (sent_word new) byte 0) → ⊥
      differs same =
          let zero : value ≡ 0 = sym words_differ ∙ same ∙ xor_self (get_or (sent_word new) byte 0) in
          omega (arith, pow_pos (7 - here.bit % 8))
