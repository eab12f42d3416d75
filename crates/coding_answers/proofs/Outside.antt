-- "no carrier outside the list in document 01 has altered"
--     carrier_quiet     the difference frame has no bit on such a carrier
--     outside_stays     so a replacement leaves it as it was
use mathlib.Core.Path.{◌≡◌, refl, sym, ap, ap₂, ◌∙◌}
use mathlib.Core.List.{List}
use Prim.Native.Nat.{ℕ, ◌+◌, ◌-◌, ◌*◌, ◌/◌, ◌%◌, ◌^◌, ◌<◌, ◌≤◌}
use native.Mathlib.Nat.{zero-div}
use native.Mathlib.Decide.{ℕ_discrete, dec_lt}
use native.Mathlib.Omega.{arith}
use lib.Arith.{digits_div, digits_mod}
use lib.Bits.{bit_xor, xor_self, xor_zero_r}
use lib.ListN.{length, get_or}
use Rattle.lists.specs.Binary.{binary}
use Rattle.lists.proofs.Binaries.{binary_cong, binary_xor}
use Rattle.lists.proofs.Tabs.{get_d_tab}
use Rattle.settings.specs.declared.Settings.{Settings}
use Rattle.settings.specs.Legal.{starting}
use Rattle.settings.specs.Sizes.{P, C}
use Rattle.settings.proofs.LegalSettings.{LegalRate, legal_settings}
use Rattle.settings.proofs.Frame.{frame_of_is}
use Rattle.rules.specs.Bytes.{waits_there, memory_at_start, stream_byte, comes_out_at}
use Rattle.rules.proofs.Stream.{stream_start, stream_late}
use Rattle.rules.specs.Code.{bit_back, window}
use Rattle.rules.proofs.CodeWindows.{back_cong}
use Rattle.rules.specs.Puncturing.{kept_bit}
use Rattle.rules.proofs.Kept.{kept_same, kept_xor}
use Rattle.rules.proofs.Sources.{source_of, source_lt, source_from, source_to}
use Rattle.rules.specs.Bits.{delay_of, lines_at_start, line_bit, carrier_at, carrier_of}
use Rattle.rules.proofs.Shown.{kept_below_is, line_start, line_late}
use Rattle.rules.specs.Word.{sent_word}
use Rattle.rules.specs.Frame.{Frame, message_bit, kept_bit_of, carrier_value}
use Rattle.coding_answers.specs.Replacement.{difference_byte, difference_frame, replaced_carriers}
use Rattle.coding_answers.specs.Listed.{Listed}
use Rattle.coding_answers.proofs.Difference.{difference_own, difference_other}

-- ---- zeros

-- the code gives zeros from zeros
zeros_kept : (rate c : ℕ) → kept_bit rate 0 (λ i. 0) c ≡ 0
zeros_kept rate c = kept_xor rate 0 0 (λ i. 0) (λ i. 0) c ∙ xor_self (kept_bit rate 0 (λ i. 0) c)

pub zeros_binary : (n : ℕ) → binary n (λ l. 0) ≡ 0
zeros_binary n =
    sym (binary_xor n (λ l. 0) (λ l. 0) (λ l. omega arith) (λ l. omega arith)) ∙ xor_self (binary n (λ l. 0))

-- a kept bit looks at seven message bits
pub kept_quiet : {rate : ℕ} → LegalRate rate → (message : ℕ → ℕ) (c : ℕ)
    → ((i : ℕ) → source_of rate c ≤ i + 6 → i ≤ source_of rate c → message i ≡ 0) → kept_bit rate 0 message c ≡ 0
unfolding window
kept_quiet {rate} legal message c none =
    kept_same legal 0 0 message (λ i. 0) c c refl (binary_cong 7 (bit_back 0 message n) (bit_back 0 (λ i. 0) n)
    (λ k lt. back_cong 0 message (λ i. 0) n k (λ le. ap (λ (b : ℕ). b % 2) (none (n - k) (omega arith) (omega arith)))))
    ∙ zeros_kept rate c
  where
    n : ℕ
    n = source_of rate c

-- ---- where the bytes of the stream come from

-- byte 203 of every word is 47
last_alike : (old new : List ℕ) → get_or (sent_word old) 203 0 ≡ get_or (sent_word new) 203 0
unfolding sent_word
last_alike old new = get_d_tab 204 _ 203 (omega arith) ∙ sym (get_d_tab 204 _ 203 (omega arith))

module _ (number : ℕ) (old new : List ℕ) where
  record Differing (x : ℕ) : Type 0 where
    own : x / 204 ≡ number
    few : x % 204 ≤ 202
    differs : get_or (sent_word old) (x % 204) 0 ≡ get_or (sent_word new) (x % 204) 0 → ⊥

  no_difference : (x : ℕ) → x / 204 ≡ number → get_or (sent_word old) (x % 204) 0 ≡ get_or (sent_word new) (x % 204) 0
      → difference_byte number old new x ≡ 0
  no_difference x e same =
      difference_own number old new x e ∙ ap (λ (y : ℕ). bit_xor y (get_or (sent_word new) (x % 204) 0)) same
      ∙ xor_self (get_or (sent_word new) (x % 204) 0)

  -- a byte of the difference that isn't zero is one in which the words differ
  differing : (x : ℕ) → (difference_byte number old new x ≡ 0 → ⊥) → Differing x
  differing x some = elim (ℕ_discrete (x / 204) number) [
    | no ne ↦ absurd (some (difference_other number old new x ne))
    | yes e ↦ record {
      own = e;
      few = elim (ℕ_discrete (x % 204) 203) [
        | yes last ↦
            absurd (some (no_difference x e (ap (λ (j : ℕ). get_or (sent_word old) j 0) last ∙ last_alike old new
            ∙ sym (ap (λ (j : ℕ). get_or (sent_word new) j 0) last))))
        | no ne ↦ omega arith
      ];
      differs = λ same. some (no_difference x e same);
    }
  ]

  -- the byte of the word that comes out at byte b of the stream
  record Found (b : ℕ) : Type 0 where
    byte : ℕ
    few : byte ≤ 202
    differs : get_or (sent_word old) byte 0 ≡ get_or (sent_word new) byte 0 → ⊥
    place : comes_out_at waits_there (204 * number + byte) ≡ b

  found : (b : ℕ) → (stream_byte waits_there memory_at_start (difference_byte number old new) b ≡ 0 → ⊥) → Found b
  found b some = unfold waits_there comes_out_at in elim (dec_lt (b / 12) (17 * (b % 12))) [
    | yes early ↦ absurd (some (stream_start waits_there (difference_byte number old new) b early))
    | no late ↦
        let x : ℕ = b - 204 * (b % 12) in
        let from = stream_late waits_there memory_at_start (difference_byte number old new) b (b % 12) refl
        (omega arith) in
        let is : Differing x = differing x (λ z. some (from ∙ z)) in
        let own : x / 204 ≡ number = is.own in
        let whole : 204 * number + x % 204 ≡ x = omega arith in
        let out : x + 204 * (x % 12) ≡ b = omega arith in
        record {
          byte = x % 204;
          few = is.few;
          differs = is.differs;
          place = ap (comes_out_at waits_there) whole ∙ out;
        }
  ]

-- ---- a carrier that isn't in the list

module _ (settings : Settings) (start : starting settings ≡ 0) (number : ℕ) (old new : List ℕ)
    (k : ℕ) (less : k < C settings) (outside : Listed settings number old new k → ⊥) where
  abbrev difference : Frame
  difference = difference_frame settings number old new

  -- the message bits that a kept bit of the carrier looks at
  message_quiet : (c : ℕ) → c < C settings * settings.v → carrier_of settings.v c ≡ k
      → (i : ℕ) → source_of settings.rate c ≤ i + 6 → i ≤ source_of settings.rate c → message_bit difference i ≡ 0
  unfolding message_bit difference_frame
  message_quiet c lt is i after before =
      elim (ℕ_discrete (stream_byte waits_there memory_at_start (difference_byte number old new) (i / 8)) 0) [
        | yes z ↦ ap (λ (x : ℕ). x / 2 ^ (7 - i % 8) % 2) z ∙ ap (λ (x : ℕ). x % 2) (zero-div (2 ^ (7 - i % 8)))
        | no some ↦
            let from = found number old new (i / 8) some in
            absurd (outside (record {
              byte = from.byte;
              few = from.few;
              differs = from.differs;
              reached = record {
                message = source_of settings.rate c;
                first = rw from.place (omega arith);
                last = rw from.place (omega arith);
                inside =
                    source_lt (legal_settings settings start).rate c (1632 * P settings)
                    (rw (frame_of_is settings start).kept lt);
                kept = c;
                kept_first = source_from (legal_settings settings start).rate c;
                kept_last = source_to (legal_settings settings start).rate c;
                carrier_is = is;
              };
            }))
      ]

  bit_quiet : (c : ℕ) → c < C settings * settings.v → carrier_of settings.v c ≡ k → kept_bit_of difference c ≡ 0
  unfolding kept_bit_of difference_frame
  bit_quiet c lt is = kept_quiet (legal_settings settings start).rate (message_bit difference) c (message_quiet c lt is)

  line_quiet : (l : ℕ) → l < settings.v → line_bit settings.v lines_at_start (kept_bit_of difference) k l ≡ 0
  line_quiet l lt = unfold carrier_of in elim (dec_lt k (delay_of settings.v l)) [
    | yes early ↦ line_start settings.v (kept_bit_of difference) k l early
    | no late ↦
        let v = settings.v in
        let s : ℕ = k - delay_of v l in
        let back : s + delay_of v l ≡ k = omega arith in
        line_late v lines_at_start (kept_bit_of difference) k l (omega arith)
        ∙ bit_quiet (s * v + l) (kept_below_is v (C settings) s l (omega arith) lt)
        (ap₂ (λ (q r : ℕ). q + delay_of v r) (digits_div s lt) (digits_mod s lt) ∙ back)
  ]

  pub carrier_quiet : carrier_value (difference_frame settings number old new) k ≡ 0
  unfolding carrier_value carrier_at difference_frame
  carrier_quiet =
      binary_cong settings.v (line_bit settings.v lines_at_start (kept_bit_of difference) k) (λ l. 0) line_quiet
      ∙ zeros_binary settings.v

  pub outside_stays : (carriers : List ℕ) → length carriers ≡ C settings
      → get_or (replaced_carriers settings number old new carriers) k 0 ≡ get_or carriers k 0
  unfolding replaced_carriers
  outside_stays carriers long =
      get_d_tab (length carriers) (λ k. bit_xor (get_or carriers k 0) (carrier_value difference k)) k (rw long less)
      ∙ ap (bit_xor (get_or carriers k 0)) carrier_quiet ∙ xor_zero_r (get_or carriers k 0)
