-- Rules 3 to 6 are linear over a whole frame: the carriers of a sum of two frames are the sums of their carriers, and
-- so is what the state holds behind them.
--     added_to                                     two lists of so many entries added, entry by entry
--     added                                        the sum of two frames of one v and rate
--     message_added, kept_added, carrier_added     its message bits, kept bits and carriers
--     memory_added, register_added, lines_added    the memory, the register and the lines behind it
--     kept_bits, carrier_bound                     the kept bits are 0 or 1, and the carriers below 2^v
use mathlib.Core.Path.{◌≡◌, sym, ap, ◌∙◌, fun_ext}
use mathlib.Core.List.{List}
use Prim.Native.Nat.{ℕ, ◌-◌, ◌*◌, ◌/◌, ◌%◌, ◌^◌, ◌<◌, ◌≤◌}
use lib.Bits.{bit_xor}
use lib.ListN.{get_or}
use Rattle.lists.specs.Tab.{tab}
use Rattle.rules.specs.Bytes.{waits_there}
use Rattle.rules.proofs.Ways.{there_fits}
use Rattle.rules.proofs.BytesLinear.{stream_xor, memory_xor}
use Rattle.rules.specs.Code.{register_after}
use Rattle.rules.proofs.CodeLinear.{digit_xor, register_xor}
use Rattle.rules.specs.Puncturing.{kept_bit}
use Rattle.rules.proofs.Kept.{kept_lt, kept_xor}
use Rattle.rules.specs.Bits.{first_entry, carrier_at, lines_after}
use Rattle.rules.proofs.Shown.{carrier_lt}
use Rattle.rules.proofs.BitsLinear.{carrier_xor, lines_after_xor}
use Rattle.rules.specs.Frame.{Frame, message_bit, kept_bit_of, carrier_value, memory_behind, register_behind}
use Rattle.rules.specs.Frame.{lines_behind}

abbrev pub added_to : ℕ → List ℕ → List ℕ → List ℕ
added_to size one two = tab size (λ k. bit_xor (get_or one k 0) (get_or two k 0))

-- the 1,122 bytes, the register, the 360 entries and the bytes that are sent, each added without carries
abbrev pub added : Frame → Frame → Frame
added one two =
    record {
      v = one.v;
      rate = one.rate;
      memory = added_to 1122 one.memory two.memory;
      register = bit_xor one.register two.register;
      lines = added_to 360 one.lines two.lines;
      sent = λ b. bit_xor (one.sent b) (two.sent b);
    }

module _ (frame : Frame) where
  pub kept_bits : (c : ℕ) → kept_bit_of frame c < 2
  kept_bits c = unfold kept_bit_of in kept_lt frame.rate frame.register (message_bit frame) c

  pub carrier_bound : ((k : ℕ) → get_or frame.lines k 0 < 2) → (k : ℕ) → carrier_value frame k < 2 ^ frame.v
  unfolding carrier_value
  carrier_bound bits k = carrier_lt frame.v frame.lines (kept_bit_of frame) bits kept_bits k

module _ (one two : Frame) where
  -- ---- the bytes and the register

  pub memory_added : (words : ℕ)
      → memory_behind (added one two) words ≡ added_to 1122 (memory_behind one words) (memory_behind two words)
  unfolding memory_behind
  memory_added words = memory_xor waits_there there_fits one.memory two.memory one.sent two.sent words

  pub message_added : (n : ℕ) → message_bit (added one two) n ≡ bit_xor (message_bit one n) (message_bit two n)
  message_added n =
      unfold message_bit in ap (λ (x : ℕ). x / 2 ^ (7 - n % 8) % 2)
      (stream_xor waits_there there_fits one.memory two.memory one.sent two.sent (n / 8))
      ∙ digit_xor _ _ (7 - n % 8)

  messages : message_bit (added one two) ≡ (λ n. bit_xor (message_bit one n) (message_bit two n))
  messages = fun_ext message_added

  pub register_added : (words : ℕ)
      → register_behind (added one two) words ≡ bit_xor (register_behind one words) (register_behind two words)
  unfolding register_behind
  register_added words =
      ap (λ (m : ℕ → ℕ). register_after (bit_xor one.register two.register) m (1632 * words)) messages
      ∙ register_xor one.register two.register (message_bit one) (message_bit two) (1632 * words)

  -- ---- the kept bits

  module _ (one-rate : two.rate ≡ one.rate) where
    pub kept_added : (c : ℕ) → kept_bit_of (added one two) c ≡ bit_xor (kept_bit_of one c) (kept_bit_of two c)
    unfolding kept_bit_of
    kept_added c =
        ap (λ (m : ℕ → ℕ). kept_bit one.rate (bit_xor one.register two.register) m c) messages
        ∙ kept_xor one.rate one.register two.register (message_bit one) (message_bit two) c
        ∙ ap (λ (rate : ℕ). bit_xor (kept_bit_of one c) (kept_bit rate two.register (message_bit two) c)) (sym one-rate)

    kepts : kept_bit_of (added one two) ≡ (λ c. bit_xor (kept_bit_of one c) (kept_bit_of two c))
    kepts = fun_ext kept_added

    -- ---- the carriers and the lines

    module _ (one-v : two.v ≡ one.v) (fits : first_entry one.v one.v ≤ 360) where
      pub carrier_added : ((k : ℕ) → get_or one.lines k 0 < 2) → ((k : ℕ) → get_or two.lines k 0 < 2) → (k : ℕ)
          → carrier_value (added one two) k ≡ bit_xor (carrier_value one k) (carrier_value two k)
      unfolding carrier_value
      carrier_added bits-one bits-two k =
          ap (λ (kept : ℕ → ℕ). carrier_at one.v (added_to 360 one.lines two.lines) kept k) kepts
          ∙ carrier_xor one.v fits one.lines two.lines (kept_bit_of one) (kept_bit_of two) bits-one bits-two
          (kept_bits one) (kept_bits two) k
          ∙ ap (λ (v : ℕ). bit_xor (carrier_value one k) (carrier_at v two.lines (kept_bit_of two) k)) (sym one-v)

      pub lines_added : (carriers : ℕ)
          → lines_behind (added one two) carriers ≡ added_to 360 (lines_behind one carriers) (lines_behind two carriers)
      unfolding lines_behind
      lines_added carriers =
          ap (λ (kept : ℕ → ℕ). lines_after one.v (added_to 360 one.lines two.lines) kept carriers) kepts
          ∙ lines_after_xor one.v fits one.lines two.lines (kept_bit_of one) (kept_bit_of two) carriers
          ∙ ap (λ (v : ℕ). added_to 360 (lines_behind one carriers)
          (lines_after v two.lines (kept_bit_of two) carriers))
          (sym one-v)
