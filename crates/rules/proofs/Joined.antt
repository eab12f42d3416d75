-- Two frames coded one after the other are one long frame: "What runs past the frame's end is in the state and comes
-- out in the next frame."
--     next, both                                the frame that follows one, and the two as one long frame
--     InBlocks, frame_in_blocks                 a whole number of blocks, which every frame of legal settings is
--     kept_from                                 the kept bits behind so many blocks
--     carriers_first, carriers_next             the long frame's carriers are those of the first frame, and then of
--                                           the next
--     memory_next, register_next, lines_next    what the state holds after the next frame it holds after the long one
use mathlib.Core.Path.{◌≡◌, refl, sym, ap, ap₂, ◌∙◌}
use mathlib.Core.Bool.{cond}
use mathlib.Core.List.{List}
use Prim.Native.Nat.{ℕ, ◌+◌, ◌-◌, ◌*◌, ◌/◌, ◌%◌, ◌^◌, ◌<◌}
use native.Mathlib.Nat.{mul_assoc, mul_comm, mul-add}
use native.Mathlib.Omega.{arith}
use lib.Dec.{ltb}
use borrow.Author.Tests.{lt-ltb, le-ltb}
use Rattle.settings.specs.declared.Settings.{Settings}
use Rattle.settings.specs.Patterns.{pattern_length}
use Rattle.settings.specs.Sizes.{packets_by_rate, P, C}
use Rattle.settings.proofs.LegalSettings.{Legal, LegalRate, half, two_thirds, three_quarters, five_sixths}
use Rattle.settings.proofs.LegalSettings.{seven_eighths}
use Rattle.rules.specs.Bytes.{waits_there, stream_byte, memory_after}
use Rattle.rules.proofs.Ways.{there_fits}
use Rattle.rules.proofs.Stream.{stream_cong}
use Rattle.rules.proofs.Memory.{stream_after, memory_add, memory_cong}
use Rattle.rules.specs.Code.{window, register_after}
use Rattle.rules.proofs.CodeWindows.{window_from, register_cong, register_from}
use Rattle.rules.specs.Puncturing.{kept_bit}
use Rattle.rules.proofs.Kept.{kept_same, kept_cong}
use Rattle.rules.proofs.Sources.{source_of, source_is, source_block, is_x_block}
use Rattle.rules.specs.Bits.{carrier_at, lines_after}
use Rattle.rules.proofs.Shown.{carrier_cong}
use Rattle.rules.proofs.BitsAfter.{carriers_after, lines_after_add, lines_after_cong}
use Rattle.rules.proofs.Counts.{per_block, whole_blocks, each}
use Rattle.rules.specs.Frame.{Frame, message_bit, kept_bit_of, carrier_value, memory_behind, register_behind}
use Rattle.rules.specs.Frame.{lines_behind}
use Rattle.rules.proofs.Sizes.{packets_times, frame_symbols}

-- after so many words and carriers of the first frame: the bytes `sent` from the state that it leaves
abbrev pub next : Frame → ℕ → ℕ → (ℕ → ℕ) → Frame
next first words carriers sent =
    record {
      v = first.v;
      rate = first.rate;
      memory = memory_behind first words;
      register = register_behind first words;
      lines = lines_behind first carriers;
      sent = sent;
    }

-- so many words of the first frame, and behind them the bytes `sent`
abbrev pub both : Frame → ℕ → (ℕ → ℕ) → Frame
both first words sent =
    record {
      v = first.v;
      rate = first.rate;
      memory = first.memory;
      register = first.register;
      lines = first.lines;
      sent = λ b. cond (ltb b (204 * words)) (first.sent b) (sent (b - 204 * words));
    }

-- ---- a frame of whole blocks

-- the words' message bits are so many blocks, and so are the carriers' kept bits
pub record InBlocks (rate v words carriers : ℕ) : Type 0 where
  pub rate_legal : LegalRate rate
  pub blocks : ℕ
  pub message_bits : 1632 * words ≡ packets_by_rate rate * blocks
  pub kept_bits : carriers * v ≡ 24 * blocks

-- P is so many times the packets of its rate: the message bits of all are whole blocks
blocks_whole : {rate : ℕ} → LegalRate rate → (times : ℕ) → 1632 * (packets_by_rate rate * times)
    ≡ packets_by_rate rate * whole_blocks (packets_by_rate rate) (packets_by_rate rate * times)
unfolding packets_by_rate
blocks_whole half times = omega arith
blocks_whole two_thirds times = omega arith
blocks_whole three_quarters times = omega arith
blocks_whole five_sixths times = omega arith
blocks_whole seven_eighths times = omega arith

-- The P words and the C carriers of legal settings are as many blocks.
pub frame_in_blocks : (settings : Settings) → Legal settings
    → InBlocks settings.rate settings.v (P settings) (C settings)
frame_in_blocks settings legal =
    record {
      rate_legal = legal.rate;
      blocks = whole_blocks (packets_by_rate settings.rate) (P settings);
      message_bits = rw (packets_times settings legal) (blocks_whole legal.rate _);
      kept_bits =
          let v = settings.v in
          let blocks = whole_blocks (packets_by_rate settings.rate) (P settings) in
          ap (λ (n : ℕ). n * v) (sym (frame_symbols settings legal) ∙ mul_comm (per_block v) blocks)
          ∙ mul_assoc blocks (per_block v) v ∙ ap (λ (n : ℕ). blocks * n) (each legal.bits).whole
          ∙ mul_comm blocks 24;
    }

-- the kept bits of so many blocks are of their message bits
source_within : {rate : ℕ} → LegalRate rate → (blocks c : ℕ) → c < 24 * blocks
    → source_of rate c < packets_by_rate rate * blocks
unfolding pattern_length packets_by_rate
source_within half blocks c h = rw source_is (omega arith)
source_within two_thirds blocks c h = rw source_is (omega arith)
source_within three_quarters blocks c h = rw source_is (omega arith)
source_within five_sixths blocks c h = rw source_is (omega arith)
source_within seven_eighths blocks c h = rw source_is (omega arith)

-- The kept bits behind so many blocks are those that the register then and the message bits from there on give.
pub kept_from : {rate : ℕ} → LegalRate rate → (register : ℕ) (message : ℕ → ℕ) (blocks c : ℕ)
    → kept_bit rate (register_after register message (packets_by_rate rate * blocks))
    (λ i. message (packets_by_rate rate * blocks + i)) c ≡ kept_bit rate register message (24 * blocks + c)
kept_from {rate} legal register message blocks c =
    let bits = packets_by_rate rate * blocks in
    kept_same legal (register_after register message bits) register (λ i. message (bits + i)) message c
    (24 * blocks + c)
    (sym (is_x_block legal blocks c)) (window_from register message bits (source_of rate c)
    ∙ ap (window register message) (sym (source_block legal blocks c)))

module _ (first : Frame) (words carriers : ℕ) (sent : ℕ → ℕ) where
  abbrev later : Frame
  later = next first words carriers sent

  abbrev long : Frame
  long = both first words sent

  -- ---- what goes in

  sent_first : (b : ℕ) → b < 204 * words → long.sent b ≡ first.sent b
  sent_first b lt = rw (lt-ltb b (204 * words) lt) refl

  sent_later : (b : ℕ) → long.sent (204 * words + b) ≡ sent b
  sent_later b =
      let back : 204 * words + b - 204 * words ≡ b = omega arith in
      rw (le-ltb (204 * words + b) (204 * words) (omega arith)) (ap sent back)

  -- ---- rule 3

  memory_first : memory_behind first words ≡ memory_behind long words
  unfolding memory_behind
  memory_first =
      memory_cong waits_there there_fits first.memory first.sent long.sent words (λ k lt. sym (sent_first k lt))

  pub memory_next : (m : ℕ) → memory_behind later m ≡ memory_behind long (words + m)
  memory_next m =
      unfold memory_behind in ap (λ (l : List ℕ). memory_after waits_there l sent m) memory_first
      ∙ memory_cong waits_there there_fits (memory_behind long words) sent (λ k. long.sent (204 * words + k)) m
      (λ k lt. sym (sent_later k)) ∙ memory_add waits_there there_fits first.memory long.sent words m

  message_first : (n : ℕ) → n < 1632 * words → message_bit first n ≡ message_bit long n
  message_first n lt =
      unfold message_bit in ap (λ (x : ℕ). x / 2 ^ (7 - n % 8) % 2)
      (stream_cong waits_there first.memory first.sent long.sent (n / 8)
      (λ k le. sym (sent_first k (omega arith))))

  message_later : (n : ℕ) → message_bit later n ≡ message_bit long (1632 * words + n)
  unfolding message_bit memory_behind
  message_later n =
      let byte : 204 * words + n / 8 ≡ (1632 * words + n) / 8 = omega arith in
      let bit : n % 8 ≡ (1632 * words + n) % 8 = omega arith in
      ap₂ (λ (x r : ℕ). x / 2 ^ (7 - r) % 2)
      (ap (λ (l : List ℕ). stream_byte waits_there l sent (n / 8)) memory_first
      ∙ stream_cong waits_there (memory_behind long words) sent (λ k. long.sent (204 * words + k)) (n / 8)
      (λ k le. sym (sent_later k))
      ∙ stream_after waits_there there_fits first.memory long.sent words (n / 8)
      ∙ ap (stream_byte waits_there first.memory long.sent) byte) bit

  -- ---- rule 4

  register_first : register_behind first words ≡ register_behind long words
  unfolding register_behind
  register_first =
      register_cong first.register (message_bit first) (message_bit long) (1632 * words)
      (λ i lt. ap (λ (b : ℕ). b % 2) (message_first i lt))

  pub register_next : (m : ℕ) → register_behind later m ≡ register_behind long (words + m)
  register_next m =
      unfold register_behind in ap (λ (r : ℕ). register_after r (message_bit later) (1632 * m)) register_first
      ∙ register_cong (register_behind long words) (message_bit later) (λ i. message_bit long (1632 * words + i))
      (1632 * m) (λ i lt. ap (λ (b : ℕ). b % 2) (message_later i))
      ∙ register_from first.register (message_bit long) (1632 * words) (1632 * m)
      ∙ ap (register_after first.register (message_bit long)) (sym (mul-add 1632 words m))

  module _ (whole : InBlocks first.rate first.v words carriers) where
    -- ---- rule 5

    kept_first : (c : ℕ) → c < carriers * first.v → kept_bit_of first c ≡ kept_bit_of long c
    unfolding kept_bit_of
    kept_first c lt =
        let few = source_within whole.rate_legal whole.blocks c (omega (arith, whole.kept_bits)) in
        kept_cong whole.rate_legal first.register (message_bit first) (message_bit long) c
        (λ i le. ap (λ (b : ℕ). b % 2) (message_first i (omega (arith, whole.message_bits))))

    kept_later : (c : ℕ) → kept_bit_of later c ≡ kept_bit_of long (carriers * first.v + c)
    kept_later c =
        unfold kept_bit_of register_behind in let rate = first.rate in
        let bits = packets_by_rate rate * whole.blocks in
        let register = register_after first.register (message_bit long) bits in
        ap (λ (r : ℕ). kept_bit rate r (message_bit later) c)
        (register_first ∙ ap (register_after first.register (message_bit long)) whole.message_bits)
        ∙ kept_cong whole.rate_legal register (message_bit later) (λ i. message_bit long (bits + i)) c
        (λ i le. ap (λ (b : ℕ). b % 2)
        (message_later i ∙ ap (λ (n : ℕ). message_bit long (n + i)) whole.message_bits))
        ∙ kept_from whole.rate_legal first.register (message_bit long) whole.blocks c
        ∙ ap (λ (n : ℕ). kept_bit rate first.register (message_bit long) (n + c)) (sym whole.kept_bits)

    -- ---- rule 6

    lines_first : lines_behind first carriers ≡ lines_behind long carriers
    unfolding lines_behind
    lines_first = lines_after_cong first.v first.lines (kept_bit_of first) (kept_bit_of long) carriers kept_first

    pub lines_next : (n : ℕ) → lines_behind later n ≡ lines_behind long (carriers + n)
    lines_next n =
        unfold lines_behind in ap (λ (l : List ℕ). lines_after first.v l (kept_bit_of later) n) lines_first
        ∙ lines_after_cong first.v (lines_behind long carriers) (kept_bit_of later)
        (λ c. kept_bit_of long (carriers * first.v + c)) n (λ c lt. kept_later c)
        ∙ lines_after_add first.v first.lines (kept_bit_of long) carriers n

    -- Before the first frame's end the long frame's carriers are its own.
    pub carriers_first : (k : ℕ) → k < carriers → carrier_value long k ≡ carrier_value first k
    unfolding carrier_value
    carriers_first k lt =
        carrier_cong first.v first.lines (kept_bit_of long) (kept_bit_of first) carriers
        (λ c less. sym (kept_first c less)) k lt

    -- From there on they are those of the frame that follows it.
    pub carriers_next : (k : ℕ) → carrier_value long (carriers + k) ≡ carrier_value later k
    unfolding carrier_value lines_behind
    carriers_next k =
        sym (ap (λ (l : List ℕ). carrier_at first.v l (kept_bit_of later) k) lines_first
        ∙ carrier_cong first.v (lines_behind long carriers) (kept_bit_of later)
        (λ c. kept_bit_of long (carriers * first.v + c)) (k + 1) (λ c lt. kept_later c) k (omega arith)
        ∙ carriers_after first.v first.lines (kept_bit_of long) carriers k)
