-- The letter: "the difference of old and new packet fell on another packet. The sum of two codewords is a codeword, so
-- every receiver in the valley took the spoiled guide as good." A replacement that names a wrong packet as old is
-- accepted, and leaves the frame in which that place holds the sum of what was coded there, of old and of new.
--     length_sum, sum_at            the sum of three packets: its length, and its bytes
--     sum_begins                    it begins with 47
--     codeword_of_sum               its codeword is the sum of their codewords: the parity is right
--     differs_alike                 what was coded and the sum differ as old and new do
--     wrong_old_codes_the_sum       the carriers and the state are those of the frame coded with the sum
--     new_exactly_for_the_coded     the sum is the new packet exactly if old is the one that was coded
use mathlib.Core.Path.{◌≡◌, refl, sym, ap, ◌∙◌}
use mathlib.Core.Bool.{true}
use mathlib.Core.Logic.{◌↔◌}
use mathlib.Core.List.{List}
use Prim.Native.Nat.{ℕ, ◌+◌, ◌<◌}
use native.Mathlib.Decide.{dec_lt}
use native.Mathlib.Omega.{arith}
use lib.Bits.{bit_xor, xor_self, xor_zero_r}
use lib.ListN.{length, get_or}
use lib.Seq.{ext_get_or}
use borrow.Author.Tests.{eq-eqb, eqb-true}
use Rattle.lists.proofs.Tabs.{length_tab, get_d_tab, tab_cong}
use Rattle.lists.proofs.Xor.{xor_assoc, xor_cancel}
use Rattle.settings.specs.Sizes.{packets_of}
use Rattle.rules.specs.Word.{packet_at, codeword_of, sent_word}
use Rattle.rules.proofs.Packets.{length_packet}
use Rattle.rules.proofs.Words.{sent_at, sent_sync}
use Rattle.rules.proofs.ParityLinear.{entry_added, packets_added}
use Rattle.coding_state.specs.declared.State.{State}
use Rattle.coding_answers.specs.Coding.{coding, coded_into, state_coded}
use Rattle.coding_answers.specs.Packets.{with_packet, sum_of_three}
use Rattle.coding_answers.specs.Replacement.{added_to, difference_word, begins}
use Rattle.coding_answers.specs.Calls.{Sized, Replaces}
use Rattle.coding_answers.proofs.Codings.{accepted_of}
use Rattle.coding_answers.proofs.Demand.{packet_begins}
use Rattle.coding_answers.proofs.Difference.{add_difference}
use Rattle.coding_answers.proofs.Flips.{carriers_alike, state_alike}
use Rattle.coding_answers.proofs.NewPacket.{replacing_by_a_new_packet}
use Rattle.coding_answers.proofs.Replacements.{accepted_of as replacing-accepted, accepted_with, answers_0}
use Rattle.coding_answers.proofs.Replacements.{replaces}

-- ---- the sum of three packets

module _ (coded old new : List ℕ) (coded_long : length coded ≡ 188) (old_long : length old ≡ 188)
    (new_long : length new ≡ 188) where
  abbrev two : List ℕ
  two = added_to 188 coded old

  two_long : length two ≡ 188
  two_long = length_tab 188 (λ k. bit_xor (get_or coded k 0) (get_or old k 0))

  pub length_sum : length (sum_of_three coded old new) ≡ 188
  length_sum = unfold sum_of_three in length_tab 188 _

  pub sum_at : (k : ℕ)
      → get_or (sum_of_three coded old new) k 0 ≡ bit_xor (bit_xor (get_or coded k 0) (get_or old k 0)) (get_or new k 0)
  unfolding sum_of_three
  sum_at k =
      entry_added 188 two new two_long new_long k
      ∙ ap (λ (x : ℕ). bit_xor x (get_or new k 0)) (entry_added 188 coded old coded_long old_long k)

  -- 47 and 47 and 47 are 47
  pub sum_begins : begins coded ≡ true → begins old ≡ true → begins new ≡ true
      → begins (sum_of_three coded old new) ≡ true
  sum_begins one two three =
      eq-eqb (get_or (sum_of_three coded old new) 0 0) 0x47
      (sum_at 0 ∙ rw (
        eqb-true (get_or coded 0 0) 0x47 one,
        eqb-true (get_or old 0 0) 0x47 two,
        eqb-true (get_or new 0 0) 0x47 three,
      ) refl)

  -- The codeword of the sum is the sum of the codewords.
  pub codeword_of_sum : codeword_of (sum_of_three coded old new)
      ≡ added_to 204 (added_to 204 (codeword_of coded) (codeword_of old)) (codeword_of new)
  unfolding sum_of_three
  codeword_of_sum =
      packets_added two new two_long new_long
      ∙ ap (λ (l : List ℕ). added_to 204 l (codeword_of new)) (packets_added coded old coded_long old_long)

  -- a byte of the codeword of the sum
  codeword_at : (k : ℕ) → k < 204 → get_or (codeword_of (sum_of_three coded old new)) k 0
      ≡ bit_xor (bit_xor (get_or (codeword_of coded) k 0) (get_or (codeword_of old) k 0)) (get_or (codeword_of new) k 0)
  codeword_at k lt =
      ap (λ (l : List ℕ). get_or l k 0) codeword_of_sum ∙ get_d_tab 204 _ k lt
      ∙ ap (λ (x : ℕ). bit_xor x (get_or (codeword_of new) k 0)) (get_d_tab 204 _ k lt)

  word_alike : (j : ℕ) → j < 204 → Dec (j < 203)
      → bit_xor (get_or (sent_word coded) j 0) (get_or (sent_word (sum_of_three coded old new)) j 0)
      ≡ bit_xor (get_or (sent_word old) j 0) (get_or (sent_word new) j 0)
  word_alike j lt (yes h) =
      rw (
        sent_at coded j h,
        sent_at old j h,
        sent_at new j h,
        sent_at (sum_of_three coded old new) j h,
        codeword_at (j + 1) (omega arith),
        xor_assoc (get_or (codeword_of coded) (j + 1) 0) (get_or (codeword_of old) (j + 1) 0)
            (get_or (codeword_of new) (j + 1) 0),
      )
      (add_difference (get_or (codeword_of coded) (j + 1) 0) _)
  word_alike j lt (no h) =
      let last : j ≡ 203 = omega arith in
      rw (last, sent_sync coded, sent_sync old, sent_sync new, sent_sync (sum_of_three coded old new)) refl

  pub differs_alike : difference_word coded (sum_of_three coded old new) ≡ difference_word old new
  unfolding difference_word
  differs_alike = tab_cong 204 _ _ (λ j lt. word_alike j lt (dec_lt j 203))

  -- The sum is the new packet exactly if the packet named as old is the one that was coded.
  pub new_exactly_for_the_coded : (sum_of_three coded old new ≡ new) ↔ (old ≡ coded)
  new_exactly_for_the_coded = (named, summed)
    where
      -- what was coded and old differ by nothing
      nothing : (k : ℕ) → sum_of_three coded old new ≡ new → bit_xor (get_or coded k 0) (get_or old k 0) ≡ 0
      nothing k same =
          let both = bit_xor (get_or coded k 0) (get_or old k 0) in
          sym (xor_cancel both (get_or new k 0))
          ∙ ap (λ (x : ℕ). bit_xor x (get_or new k 0)) (sym (sum_at k) ∙ ap (λ (l : List ℕ). get_or l k 0) same)
          ∙ xor_self (get_or new k 0)

      named : sum_of_three coded old new ≡ new → old ≡ coded
      named same =
          ext_get_or 0 old coded (old_long ∙ sym coded_long) (λ k lt.
          sym (add_difference (get_or coded k 0) (get_or old k 0)) ∙ ap (bit_xor (get_or coded k 0)) (nothing k same)
          ∙ xor_zero_r (get_or coded k 0))

      summed : old ≡ coded → sum_of_three coded old new ≡ new
      summed same =
          ext_get_or 0 (sum_of_three coded old new) new (length_sum ∙ sym new_long) (λ k lt.
          sum_at k ∙ rw (same, xor_self (get_or coded k 0)) refl)

-- ---- the calls

module _ (state : State) (sized : Sized state) (packets carriers : List ℕ) (first : coding state packets carriers ≡ 0)
    (number : ℕ) (less : number < packets_of state.settings) (old new : List ℕ)
    (old_long : length old ≡ 188) (new_long : length new ≡ 188)
    (old_begins : begins old ≡ true) (new_begins : begins new ≡ true) where
  abbrev coded : List ℕ
  coded = packet_at packets number

  abbrev sum : List ℕ
  sum = sum_of_three coded old new

  abbrev left : State
  left = state_coded state packets carriers

  abbrev shown : List ℕ
  shown = coded_into state packets carriers

  -- naming what was coded, and the sum as the new packet
  by_the_sum : Replaces left shown number coded sum (coded_into state (with_packet packets number sum) carriers)
      (state_coded state (with_packet packets number sum) carriers)
  by_the_sum =
      let long = length_packet packets number in
      let begun = packet_begins (packets_of state.settings) packets
      (accepted_of state packets carriers first).begun number less in
      replacing_by_a_new_packet state packets carriers first number less sum
      (length_sum coded old new long old_long new_long)
      (sum_begins coded old new long old_long new_long begun old_begins new_begins) sized

  -- Whatever is named as old, the call is done, and leaves the carriers and the state of the frame that holds the sum
  -- at that place, with right parity.
  pub wrong_old_codes_the_sum
      : Replaces (state_coded state packets carriers) (coded_into state packets carriers) number old new
      (coded_into state (with_packet packets number (sum_of_three (packet_at packets number) old new)) carriers)
      (state_coded state (with_packet packets number (sum_of_three (packet_at packets number) old new)) carriers)
  wrong_old_codes_the_sum =
      let all = replacing-accepted left shown number coded sum by_the_sum.done in
      let alike = differs_alike coded old new (length_packet packets number) old_long new_long in
      let is = replaces left shown number coded sum by_the_sum.done in
      let named = replaces left shown number old new (answers_0 left shown number old new
      (accepted_with left shown number coded sum all old new old_long new_long old_begins new_begins)) in
      record {
        done = named.done;
        carriers_are = named.carriers_are ∙ sym (carriers_alike number old new coded sum alike left.settings shown)
            ∙ sym is.carriers_are ∙ by_the_sum.carriers_are;
        state_is = named.state_is ∙ sym (state_alike number old new coded sum alike left) ∙ sym is.state_is
            ∙ by_the_sum.state_is;
      }
