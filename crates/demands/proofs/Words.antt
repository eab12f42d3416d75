-- Words received as they were sent.
--     PairsOf             received pairs are those of a stream's words, as they were sent
--     Agrees              a message is that of a stream's word, from a bit on
--     message_found       chosen from the stream's register, it is so from the first bit on
--     message_settles     of the stream's first word, chosen from any register, from bit 48 on
--     Taken               the bytes received are those that arrive, but for the stream's first ones, and the register
--                         behind them is the stream's
--     taken_on            words taken from the stream's register on
--     taken_joining       from the stream's first word on, and from any register: six bytes may be wrong
use mathlib.Core.Path.{◌≡◌, sym, ap, ap₂, ◌∙◌, subst, fun_ext}
use mathlib.Core.List.{List}
use Prim.Native.Nat.{ℕ, zero, suc, ◌+◌, ◌-◌, ◌*◌, ◌/◌, ◌%◌, ◌^◌, ◌<◌, ◌≤◌}
use native.Mathlib.Omega.{arith}
use lib.Dec.{T}
use lib.ListN.{length, get_or}
use Rattle.lists.proofs.Binaries.{binary_cong, binary_digits}
use Rattle.lists.proofs.Tabs.{get_d_tab}
use Rattle.settings.specs.Patterns.{Kept}
use Rattle.settings.proofs.LegalSettings.{LegalRate}
use Rattle.rules.specs.Bytes.{waits_there, stream_byte}
use Rattle.rules.specs.Code.{parity, coded_x, coded_y, register_after}
use Rattle.rules.specs.Puncturing.{pattern_at}
use Rattle.rules.proofs.CodeWindows.{back_message, window_from, register_lt}
use Rattle.fewest.proofs.Exact.{pair_sent, Whole, exact}
use Rattle.fewest.proofs.Joining.{joins, pattern_joins}
use Rattle.fewest.proofs.Settles.{settles}
use Rattle.rules.specs.Back.{message_byte, register_of}
use Rattle.rules.specs.Frame.{Frame, message_bit, register_behind}
use Rattle.receiving_answers.specs.Words.{message_of, register_before, received_byte}
use Rattle.demands.specs.InStep.{arriving}

-- `pairs n` are those of word `word + n`, for so many words
pub record PairsOf (stream : Frame) (word count : ℕ) (pairs : ℕ → List ℕ) : Type 0 where
  pub long : (n : ℕ) → n < count → length (pairs n) ≡ 1632
  pub right : (n i : ℕ) → n < count → i < 1632
      → get_or (pairs n) i 0
      ≡ pair_sent (pattern_at stream.rate (1632 * (word + n) + i))
      (coded_x stream.register (message_bit stream) (1632 * (word + n) + i))
      (coded_y stream.register (message_bit stream) (1632 * (word + n) + i))

-- `wrong` counts the stream's first bytes that may be others
pub record Taken (stream : Frame) (wrong word count : ℕ) (pairs : ℕ → List ℕ) (register : ℕ) : Type 0 where
  pub bytes_are : (b : ℕ) → wrong ≤ 204 * word + b → b < 204 * count
      → received_byte pairs register b ≡ arriving stream (204 * word + b)
  pub behind_is : register_before pairs register count ≡ register_behind stream (word + count)

bit_twice : (x : ℕ) → x % 2 % 2 ≡ x % 2
bit_twice x = omega arith

-- ---- the message of one word

abbrev pub Agrees : Frame → ℕ → ℕ → List ℕ → Type 0
Agrees stream word from message =
    (i : ℕ) → from ≤ i → i < 1632 → get_or message i 0 ≡ message_bit stream (1632 * word + i) % 2

module _ (stream : Frame) (word from : ℕ) (message : List ℕ) (agrees : Agrees stream word from message) where
  register_of_is : from ≤ 1626 → register_of message ≡ register_behind stream (suc word)
  register_of_is early =
      unfold register_of register_behind register_after in binary_cong 6 _ _ (λ k lt.
      let place : 1632 * word + (1631 - k) ≡ 1632 * suc word - suc k = omega arith in
      ap (λ (x : ℕ). x % 2) (agrees (1631 - k) (omega arith) (omega arith))
      ∙ bit_twice (message_bit stream (1632 * word + (1631 - k)))
      ∙ ap (λ (m : ℕ). message_bit stream m % 2) place
      ∙ sym (back_message stream.register (message_bit stream) (1632 * suc word) (suc k) (omega arith)))

  byte_of : (j : ℕ) → j < 204 → from ≤ 8 * j → message_byte message j ≡ arriving stream (204 * word + j)
  unfolding message_byte arriving message_bit
  byte_of j lt late =
      let byte = stream_byte waits_there stream.memory stream.sent (204 * word + j) in
      binary_cong 8 _ (λ i. byte / 2 ^ (8 - 1 - i) % 2) (λ i less.
      let m = 1632 * word + (8 * j + i) in
      let place : m / 8 ≡ 204 * word + j = omega arith in
      let bit : 7 - m % 8 ≡ 8 - 1 - i = omega arith in
      ap (λ (x : ℕ). x % 2) (agrees (8 * j + i) (omega arith) (omega arith))
      ∙ bit_twice (message_bit stream m)
      ∙ bit_twice (stream_byte waits_there stream.memory stream.sent (m / 8) / 2 ^ (7 - m % 8))
      ∙ ap₂ (λ (b e : ℕ). stream_byte waits_there stream.memory stream.sent b / 2 ^ e % 2) place bit)
      ∙ binary_digits 8 byte

-- ---- the words that are taken

module _ (stream : Frame) (word count : ℕ) (pairs : ℕ → List ℕ) (are : PairsOf stream word count pairs) where
  -- what is kept of the message bits of the n-th word
  abbrev kept_of : ℕ → ℕ → Kept
  kept_of n i = pattern_at stream.rate (1632 * (word + n) + i)

  whole_at : (n : ℕ) → n < count
      → Whole (kept_of n) (pairs n) (register_behind stream (word + n)) (λ i. message_bit stream (1632 * (word + n) +
      i))
  whole_at n h i lt =
      unfold register_behind coded_x coded_y in let a = 1632 * (word + n) in
      are.right n i h (omega (arith, are.long n h))
      ∙ ap (λ (w : ℕ). pair_sent (kept_of n i) (parity 0o171 w) (parity 0o133 w))
      (sym (window_from stream.register (message_bit stream) a i))

  register_small : (n : ℕ) → register_behind stream (word + n) < 64
  register_small n = unfold register_behind in register_lt stream.register (message_bit stream) (1632 * (word + n))

  pub message_found : (n : ℕ) → n < count
      → Agrees stream (word + n) 0 (message_of (pairs n) (register_behind stream (word + n)))
  message_found n h i late lt =
      unfold message_of in let message : ℕ → ℕ = λ i. message_bit stream (1632 * (word + n) + i) in
      ap (λ (l : List ℕ). get_or l i 0) (exact (kept_of n) (pairs n) (register_behind stream (word + n)) message
      (register_small n) (whole_at n h)).1
      ∙ get_d_tab (length (pairs n)) (λ i. message i % 2) i (omega (arith, are.long n h))

  -- a pattern begins with the stream
  pub message_settles : LegalRate stream.rate → word ≡ 0 → 0 < count → (register : ℕ) → register < 64
      → Agrees stream (word + 0) 48 (message_of (pairs 0) register)
  message_settles legal begins some register small i late lt =
      unfold message_of in let kept : pattern_at stream.rate ≡ kept_of 0 =
      fun_ext (λ i. ap (pattern_at stream.rate) {x = i} {y = 1632 * (word + 0) + i} (omega arith)) in
      settles (kept_of 0) (subst (λ (k : ℕ → Kept). T (joins k)) kept (pattern_joins legal)) (pairs 0) register
      (register_behind stream (word + 0)) (λ i. message_bit stream (1632 * (word + 0) + i)) small (register_small 0)
      (whole_at 0 some) (omega (arith, are.long 0 some)) i late (omega (arith, are.long 0 some))

  -- where the first word's message is right from a byte on
  module _ (register skipped : ℕ) (few : skipped ≤ 203) (some : 0 < count)
      (first : Agrees stream (word + 0) (8 * skipped) (message_of (pairs 0) register)) where
    registers_follow : (n : ℕ) → n < count
        → register_before pairs register (suc n) ≡ register_behind stream (word + suc n)
    unfolding register_before
    registers_follow zero h =
        register_of_is stream (word + 0) (8 * skipped) (message_of (pairs 0) register) first (omega arith)
        ∙ ap (register_behind stream) {x = suc (word + 0)} {y = word + 1} (omega arith)
    registers_follow (suc n) h =
        ap (λ (r : ℕ). register_of (message_of (pairs (suc n)) r)) (registers_follow n (omega arith))
        ∙ register_of_is stream (word + suc n) 0 _ (message_found (suc n) h) (omega arith)
        ∙ ap (register_behind stream) {x = suc (word + suc n)} {y = word + suc (suc n)} (omega arith)

    agrees_at : (n : ℕ) → n < count
        → Agrees stream (word + n) (8 * (skipped - 204 * n)) (message_of (pairs n) (register_before pairs register n))
    unfolding register_before
    agrees_at zero h i late lt = first i (omega arith) lt
    agrees_at (suc n) h i late lt =
        ap (λ (r : ℕ). get_or (message_of (pairs (suc n)) r) i 0) (registers_follow n (omega arith))
        ∙ message_found (suc n) h i (omega arith) lt

    bytes_arrive : (b : ℕ) → skipped ≤ b → b < 204 * count
        → received_byte pairs register b ≡ arriving stream (204 * word + b)
    unfolding received_byte
    bytes_arrive b late lt =
        byte_of stream (word + b / 204) (8 * (skipped - 204 * (b / 204))) _ (agrees_at (b / 204) (omega arith))
        (b % 204) (omega arith) (omega arith) ∙ ap (arriving stream) (omega arith)

    taken_from : (wrong : ℕ) → ((b : ℕ) → wrong ≤ 204 * word + b → skipped ≤ b)
        → Taken stream wrong word count pairs register
    taken_from wrong late =
        let last : count ≡ suc (count - 1) = omega arith in
        record {
          bytes_are = λ b from lt. bytes_arrive b (late b from) lt;
          behind_is = ap (register_before pairs register) last ∙ registers_follow (count - 1) (omega arith)
              ∙ ap (λ (n : ℕ). register_behind stream (word + n)) (sym last);
        }

  pub taken_on : (wrong register : ℕ) → 0 < count → register ≡ register_behind stream word
      → Taken stream wrong word count pairs register
  taken_on wrong register some right =
      let here : register_behind stream (word + 0) ≡ register =
      ap (register_behind stream) {x = word + 0} {y = word} (omega arith) ∙ sym right in
      taken_from register 0 (omega arith) some (subst (λ (r : ℕ). Agrees stream (word + 0) 0 (message_of (pairs 0) r))
      here (message_found 0 some)) wrong (λ b from. omega arith)

  pub taken_joining : LegalRate stream.rate → word ≡ 0 → 0 < count → (register : ℕ) → register < 64
      → Taken stream 6 word count pairs register
  taken_joining legal begins some register small =
      taken_from register 6 (omega arith) some (message_settles legal begins some register small) 6
      (λ b from. omega arith)
