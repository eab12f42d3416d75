-- What the state holds after a frame depends on that frame alone: what it held before counts no more.
--     elsewhere                                     the same words sent from another state
--     memory_alone, register_alone, lines_alone     so are the memory, the register and the lines behind the frame
--     register_known                                the register is 56: byte 203 of the word eleven before the last
--                                                   is 47
use mathlib.Core.Path.{◌≡◌, refl, sym, ap, ap₂, ◌∙◌}
use mathlib.Core.List.{List}
use Prim.Native.Nat.{ℕ, suc, ◌+◌, ◌-◌, ◌*◌, ◌/◌, ◌%◌, ◌^◌, ◌<◌, ◌≤◌}
use native.Mathlib.Nat.{mul-le-mul_right, add-mul}
use native.Mathlib.Omega.{arith}
use Rattle.lists.specs.Binary.{binary}
use Rattle.lists.proofs.Binaries.{binary_cong}
use Rattle.settings.specs.Patterns.{pattern_length, kept_below}
use Rattle.settings.proofs.LegalSettings.{LegalRate, half, two_thirds, three_quarters, five_sixths, seven_eighths}
use Rattle.settings.proofs.Patterns.{kept_below_closed, begun}
use Rattle.rules.specs.Bytes.{waits_there, stream_byte}
use Rattle.rules.proofs.Ways.{there_fits}
use Rattle.rules.proofs.Stream.{stream_forgets, stream_late}
use Rattle.rules.proofs.Memory.{memory_forgets}
use Rattle.rules.specs.Code.{bit_back, window, register_after}
use Rattle.rules.proofs.CodeWindows.{back_message}
use Rattle.rules.proofs.Sources.{source_of, source_is}
use Rattle.rules.proofs.Kept.{kept_same}
use Rattle.rules.specs.Bits.{delay_of, line_bit, lines_after}
use Rattle.rules.proofs.Entries.{in_lines_cong}
use Rattle.rules.proofs.Shown.{line_late}
use Rattle.rules.proofs.Widths.{delay_most}
use Rattle.rules.specs.Frame.{Frame, message_bit, kept_bit_of, memory_behind, register_behind, lines_behind}

abbrev pub elsewhere : Frame → List ℕ → ℕ → List ℕ → Frame
elsewhere frame memory register lines =
    record {
      v = frame.v;
      rate = frame.rate;
      memory = memory;
      register = register;
      lines = lines;
      sent = frame.sent;
    }

-- seven bits back, and six, in two messages that agree there
module _ (r s : ℕ) (f g : ℕ → ℕ) (n : ℕ) (some : 6 ≤ n) (same : (i : ℕ) → n ≤ i + 6 → i ≤ n → f i ≡ g i) where
  back_same : (k : ℕ) → k ≤ 6 → bit_back r f n k ≡ bit_back s g n k
  back_same k few =
      back_message r f n k (omega arith) ∙ ap (λ (b : ℕ). b % 2) (same (n - k) (omega arith) (omega arith))
      ∙ sym (back_message s g n k (omega arith))

  window_same : window r f n ≡ window s g n
  unfolding window
  window_same = binary_cong 7 (bit_back r f n) (bit_back s g n) (λ k lt. back_same k (omega arith))

-- the last 720 kept bits are of the last word's message bits, less six
source_last : {rate : ℕ} → LegalRate rate → (words c : ℕ) → 12 ≤ words → kept_below rate (1632 * words) ≤ c + 720
    → 17958 ≤ source_of rate c
unfolding pattern_length begun
source_last half words c h k = rw source_is (omega (arith, kept_below_closed half (1632 * words)))
source_last two_thirds words c h k = rw source_is (omega (arith, kept_below_closed two_thirds (1632 * words)))
source_last three_quarters words c h k = rw source_is (omega (arith, kept_below_closed three_quarters (1632 * words)))
source_last five_sixths words c h k = rw source_is (omega (arith, kept_below_closed five_sixths (1632 * words)))
source_last seven_eighths words c h k = rw source_is (omega (arith, kept_below_closed seven_eighths (1632 * words)))

-- the last 120 symbols are at most 720 bits
last_bits : (v carriers s l : ℕ) → v ≤ 6 → carriers ≤ s + 120 → carriers * v ≤ s * v + l + 720
last_bits v carriers s l few near =
    let less : carriers * v ≤ (s + 120) * v = mul-le-mul_right v near in
    let split : (s + 120) * v ≡ s * v + 120 * v = add-mul s 120 v in
    omega arith

module _ (frame : Frame) (memory : List ℕ) (register : ℕ) (lines : List ℕ) where
  abbrev other : Frame
  other = elsewhere frame memory register lines

  pub memory_alone : (words : ℕ) → 11 ≤ words → memory_behind frame words ≡ memory_behind other words
  unfolding memory_behind
  memory_alone words h = memory_forgets waits_there there_fits frame.memory memory frame.sent words h

  -- from byte 2244 on every branch's wait is over
  message_alone : (n : ℕ) → 17952 ≤ n → message_bit frame n ≡ message_bit other n
  message_alone n h =
      unfold message_bit waits_there in ap (λ (x : ℕ). x / 2 ^ (7 - n % 8) % 2)
      (stream_forgets waits_there frame.memory memory frame.sent (n / 8) (omega arith))

  -- the last six message bits of the frame are as much its own
  pub register_alone : (words : ℕ) → 12 ≤ words → register_behind frame words ≡ register_behind other words
  unfolding register_behind register_after
  register_alone words h =
      binary_cong 6 (λ k. bit_back frame.register (message_bit frame) (1632 * words) (suc k))
      (λ k. bit_back register (message_bit other) (1632 * words) (suc k)) (λ k lt.
      back_message frame.register (message_bit frame) (1632 * words) (suc k) (omega arith)
      ∙ ap (λ (b : ℕ). b % 2) (message_alone (1632 * words - suc k) (omega arith))
      ∙ sym (back_message register (message_bit other) (1632 * words) (suc k) (omega arith)))

  -- ---- the lines: the frame's last 120 carriers

  module _ (rate_legal : LegalRate frame.rate) (few : frame.v ≤ 6) (words carriers : ℕ) (enough : 12 ≤ words)
      (whole : kept_below frame.rate (1632 * words) ≡ carriers * frame.v) where
    kept_alone : (c : ℕ) → carriers * frame.v ≤ c + 720 → kept_bit_of frame c ≡ kept_bit_of other c
    kept_alone c h =
        unfold kept_bit_of in let from = source_last rate_legal words c enough (omega arith) in
        kept_same rate_legal frame.register register (message_bit frame) (message_bit other) c c refl
        (window_same frame.register register (message_bit frame) (message_bit other) (source_of frame.rate c)
        (omega arith) (λ i lo hi. message_alone i (omega arith)))

    pub lines_alone : 120 ≤ carriers → lines_behind frame carriers ≡ lines_behind other carriers
    unfolding lines_behind lines_after
    lines_alone long =
        in_lines_cong frame.v (λ l e. line_bit frame.v frame.lines (kept_bit_of frame) (carriers + e) l)
        (λ l e. line_bit frame.v lines (kept_bit_of other) (carriers + e) l) (λ l e less lt.
        let v = frame.v in
        let most = delay_most v l less in
        let late : delay_of v l ≤ carriers + e = omega arith in
        line_late v frame.lines (kept_bit_of frame) (carriers + e) l late
        ∙ kept_alone ((carriers + e - delay_of v l) * v + l)
        (last_bits v carriers (carriers + e - delay_of v l) l few (omega arith))
        ∙ sym (line_late v lines (kept_bit_of other) (carriers + e) l late))

-- ---- the register is known

-- "Starting branch 0 at the sync byte: it falls on branch 11": the last byte that comes out is the sync byte of the
-- word eleven before.
pub register_known : (frame : Frame) (words : ℕ) → 12 ≤ words → frame.sent (204 * (words - 12) + 203) ≡ 0x47
    → register_behind frame words ≡ 56
unfolding register_behind register_after binary waits_there message_bit
register_known frame words h sync =
    binary_cong 6 (λ k. bit_back frame.register (message_bit frame) (1632 * words) (suc k)) (λ k. 0x47 / 2 ^ k % 2) bit
  where
    last : stream_byte waits_there frame.memory frame.sent (204 * words - 1) ≡ 0x47
    last =
        stream_late waits_there frame.memory frame.sent (204 * words - 1) 11 (omega arith) (omega arith)
        ∙ ap frame.sent (let e : 204 * words - 1 - 204 * 11 ≡ 204 * (words - 12) + 203 = omega arith in e)
        ∙ sync

    bit : (k : ℕ) → k < 6 → bit_back frame.register (message_bit frame) (1632 * words) (suc k) ≡ 0x47 / 2 ^ k % 2
    bit k lt =
        let byte : (1632 * words - suc k) / 8 ≡ 204 * words - 1 = omega arith in
        let below : 7 - (1632 * words - suc k) % 8 ≡ k = omega arith in
        back_message frame.register (message_bit frame) (1632 * words) (suc k) (omega arith)
        ∙ ap (λ (b : ℕ). b % 2)
        (ap₂ (λ (b e : ℕ). stream_byte waits_there frame.memory frame.sent b / 2 ^ e % 2) byte below
        ∙ ap (λ (x : ℕ). x / 2 ^ k % 2) last)
        ∙ (let x = 0x47 / 2 ^ k in let e : x % 2 % 2 ≡ x % 2 = omega arith in e)
