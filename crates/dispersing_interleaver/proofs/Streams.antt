-- The stream and the memory from word to word of a frame: the bits that come out are the frame's message bits.
--     StreamAt        what they hold before word p
--     MessageIn       the stream with word p
--     WordAt          word p goes in
--     message_in      the walk of word p gives its stream
--     stream_more     and what holds before word p + 1
use mathlib.Core.Path.{◌≡◌, refl, sym, ap, ap₂, ◌∙◌, subst}
use mathlib.Core.Bool.{cond}
use mathlib.Core.List.{List}
use Prim.Native.Nat.{ℕ, ◌+◌, ◌-◌, ◌*◌, ◌/◌, ◌%◌, ◌^◌, ◌<◌, ◌≤◌}
use native.Mathlib.Decide.{dec_lt}
use native.Mathlib.Omega.{arith}
use lib.Dec.{ltb}
use lib.ListN.{get_or}
use borrow.Author.Tests.{lt-ltb, le-ltb}
use Rattle.lists.proofs.Tabs.{get_d_tab}
use Rattle.rules.specs.Bytes.{waits_there, stream_byte, word_out, memory_after}
use Rattle.rules.specs.Code.{bit_back}
use Rattle.rules.specs.Frame.{Frame, message_bit, memory_behind}
use Rattle.rules.proofs.Ways.{there_fits}
use Rattle.rules.proofs.Memory.{word_more, memory_more}
use Rattle.rules.proofs.CodeWindows.{back_message}
use Rattle.dispersing_interleaver.specs.Stream.{stream_after, stream_bit}

-- before word p: the memory, and the last four bytes of the stream as far as it has begun (bit 26 of them and those
-- behind it are the register's before the first word)
pub record StreamAt (frame : Frame) (p : ℕ) (memory stream : List ℕ) : Type 0 where
  pub memory_is : memory ≡ memory_behind frame p
  pub past_is : (i : ℕ) → i < 32 → 26 ≤ 1632 * p + i
      → stream_bit stream (1632 + i) ≡ bit_back frame.register (message_bit frame) (1632 * p + i - 26) 6

-- the stream with word p: bit i of it is six places before message bit 1632 p + i - 26
pub record MessageIn (frame : Frame) (p : ℕ) (stream : List ℕ) : Type 0 where
  pub bit_is : (i : ℕ) → i < 1664 → 26 ≤ 1632 * p + i
      → stream_bit stream i ≡ bit_back frame.register (message_bit frame) (1632 * p + i - 26) 6

-- the word that goes in is the frame's word p
abbrev pub WordAt : Frame → ℕ → List ℕ → Type 0
WordAt frame p word = (k : ℕ) → k < 204 → get_or word k 0 ≡ frame.sent (204 * p + k)

module _ (frame : Frame) (p : ℕ) (memory stream : List ℕ) (at : StreamAt frame p memory stream) (word : List ℕ)
    (goes_in : WordAt frame p word) where
  abbrev out : List ℕ
  out = word_out waits_there memory word

  abbrev after : List ℕ
  after = stream_after stream out

  abbrev message : ℕ → ℕ
  message = message_bit frame

  -- ---- the word that comes out

  out_byte : (j : ℕ) → j < 204 → get_or out j 0 ≡ stream_byte waits_there frame.memory frame.sent (204 * p + j)
  out_byte j lt =
      unfold memory_behind in ap (λ (l : List ℕ). get_or (word_out waits_there l word) j 0) at.memory_is
      ∙ ap (λ (l : List ℕ). get_or l j 0) (word_more waits_there there_fits frame.memory frame.sent p word goes_in)
      ∙ get_d_tab 204 (λ j. stream_byte waits_there frame.memory frame.sent (204 * p + j)) j lt

  -- bit i of it is message bit 1632 p + i
  out_bit : (i : ℕ) → i < 1632 → stream_bit out i ≡ message (1632 * p + i)
  out_bit i lt =
      unfold stream_bit message_bit in let byte : 204 * p + i / 8 ≡ (1632 * p + i) / 8 = omega arith in
      let bit : i % 8 ≡ (1632 * p + i) % 8 = omega arith in
      ap (λ (x : ℕ). x / 2 ^ (7 - i % 8) % 2) (out_byte (i / 8) (omega arith))
      ∙ ap₂ (λ (b l : ℕ). stream_byte waits_there frame.memory frame.sent b / 2 ^ (7 - l) % 2) byte bit

  -- a message bit is a bit
  message_bit_is : (n : ℕ) → message n % 2 ≡ message n
  unfolding message_bit
  message_bit_is n = let x = stream_byte waits_there frame.memory frame.sent (n / 8) / 2 ^ (7 - n % 8) in omega arith

  -- bit i of it, from six bits further on
  out_back : (i : ℕ) → i < 1632 → stream_bit out i ≡ bit_back frame.register message (1632 * p + i + 6) 6
  out_back i lt =
      let place : 1632 * p + i ≡ 1632 * p + i + 6 - 6 = omega arith in
      out_bit i lt ∙ sym (message_bit_is (1632 * p + i)) ∙ ap (λ (n : ℕ). message n % 2) place
      ∙ sym (back_message frame.register message (1632 * p + i + 6) 6 (omega arith))

  -- ---- the stream with it

  abbrev byte_after : ℕ → ℕ
  byte_after k =
      cond (ltb k 4) (get_or stream (204 + k) 0) (cond (ltb k 208) (get_or out (k - 4) 0) (get_or stream k 0))

  early_byte : (k : ℕ) → k < 4 → get_or after k 0 ≡ get_or stream (204 + k) 0
  unfolding stream_after
  early_byte k lt = get_d_tab 212 byte_after k (omega arith) ∙ rw (lt-ltb k 4 lt) refl

  late_byte : (k : ℕ) → 4 ≤ k → k < 208 → get_or after k 0 ≡ get_or out (k - 4) 0
  unfolding stream_after
  late_byte k le lt = get_d_tab 212 byte_after k (omega arith) ∙ rw (le-ltb k 4 le, lt-ltb k 208 lt) refl

  early_bit : (i : ℕ) → i < 32 → stream_bit after i ≡ stream_bit stream (1632 + i)
  early_bit i h =
      unfold stream_bit in let byte : 204 + i / 8 ≡ (1632 + i) / 8 = omega arith in
      let bit : i % 8 ≡ (1632 + i) % 8 = omega arith in
      ap (λ (x : ℕ). x / 2 ^ (7 - i % 8) % 2) (early_byte (i / 8) (omega arith))
      ∙ ap₂ (λ (b l : ℕ). get_or stream b 0 / 2 ^ (7 - l) % 2) byte bit

  late_bit : (i : ℕ) → 32 ≤ i → i < 1664 → stream_bit after i ≡ stream_bit out (i - 32)
  late_bit i le lt =
      unfold stream_bit in let byte : i / 8 - 4 ≡ (i - 32) / 8 = omega arith in
      let bit : i % 8 ≡ (i - 32) % 8 = omega arith in
      ap (λ (x : ℕ). x / 2 ^ (7 - i % 8) % 2) (late_byte (i / 8) (omega arith) (omega arith))
      ∙ ap₂ (λ (b l : ℕ). get_or out b 0 / 2 ^ (7 - l) % 2) byte bit

  after_bit : (i : ℕ) → i < 1664 → 26 ≤ 1632 * p + i
      → stream_bit after i ≡ bit_back frame.register message (1632 * p + i - 26) 6
  after_bit i lt begun = elim (dec_lt i 32) [
    | yes h ↦ early_bit i h ∙ at.past_is i h begun
    | no h ↦
        let place : 1632 * p + (i - 32) + 6 ≡ 1632 * p + i - 26 = omega arith in
        late_bit i (omega arith) lt ∙ out_back (i - 32) (omega arith)
        ∙ ap (λ (n : ℕ). bit_back frame.register message n 6) place
  ]

  pub message_in : (stream' : List ℕ) → stream' ≡ stream_after stream (word_out waits_there memory word)
      → MessageIn frame p stream'
  message_in stream' e = subst (MessageIn frame p) (sym e) (record { bit_is = after_bit })

  -- ---- before the next word

  -- its last four bytes are those before the next word
  past_more : (i : ℕ) → i < 32
      → stream_bit after (1632 + i) ≡ bit_back frame.register message (1632 * (p + 1) + i - 26) 6
  past_more i lt =
      let place : 1632 * p + (1632 + i) - 26 ≡ 1632 * (p + 1) + i - 26 = omega arith in
      after_bit (1632 + i) (omega arith) (omega arith) ∙ ap (λ (n : ℕ). bit_back frame.register message n 6) place

  memory_next : memory_after waits_there memory (λ b. get_or word b 0) 1 ≡ memory_behind frame (p + 1)
  unfolding memory_behind
  memory_next =
      ap (λ (l : List ℕ). memory_after waits_there l (λ b. get_or word b 0) 1) at.memory_is
      ∙ memory_more waits_there there_fits frame.memory frame.sent p word goes_in

  pub stream_more : (memory' stream' : List ℕ) → memory' ≡ memory_after waits_there memory (λ b. get_or word b 0) 1
      → stream' ≡ stream_after stream (word_out waits_there memory word) → StreamAt frame (p + 1) memory' stream'
  stream_more memory' stream' m s =
      record {
        memory_is = m ∙ memory_next;
        past_is = λ i lt begun. ap (λ (l : List ℕ). stream_bit l (1632 + i)) s ∙ past_more i lt;
      }
