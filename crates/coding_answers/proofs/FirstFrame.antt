-- The first frame, from the zero lists of a start: its carriers from the settings and the packets alone.
--     first_stream, first_message    rule 3: the bytes that come out, and their bits
--     first_carrier                  rules 4 to 6: a carrier of them
--     first_frame                    the carriers of a frame coded from a fresh state
use mathlib.Core.Path.{◌≡◌, ap, ◌∙◌}
use mathlib.Core.Bool.{cond}
use mathlib.Core.List.{List}
use Prim.Native.Nat.{ℕ, ◌+◌, ◌-◌, ◌*◌, ◌/◌, ◌%◌, ◌<◌}
use native.Mathlib.Decide.{dec_lt}
use native.Mathlib.Omega.{arith}
use lib.Dec.{ltb}
use lib.ListN.{get_or}
use borrow.Author.Tests.{lt-ltb, le-ltb}
use Rattle.lists.specs.Binary.{binary, bit_of}
use Rattle.lists.proofs.Binaries.{binary_cong}
use Rattle.lists.proofs.Tabs.{get_d_tab}
use Rattle.settings.specs.declared.Settings.{Settings}
use Rattle.settings.specs.Sizes.{C}
use Rattle.rules.specs.Bytes.{branch_of, turn_of}
use Rattle.rules.specs.Puncturing.{kept_bit}
use Rattle.rules.specs.Bits.{delay_of, line_bit, carrier_at}
use Rattle.rules.specs.Frame.{carrier_value, kept_bit_of, message_bit, sent_byte}
use Rattle.rules.proofs.Kept.{kept_every}
use Rattle.rules.proofs.Shown.{line_late}
use Rattle.coding_state.specs.State.{fresh_coding_state}
use Rattle.coding_answers.specs.Coding.{frame_of, carriers_of_frame}
use Rattle.coding_answers.proofs.CodingAfter.{first_byte, first_line}

-- "branch i delays by 17×i bytes", and "The memory is .. all zero at the start"
unfoldable pub first_stream : List ℕ → ℕ → ℕ
first_stream packets b = cond (ltb (turn_of b) (17 * branch_of b)) 0 (sent_byte packets (b - 204 * branch_of b))

-- "Message bits: highest of a byte first."
unfoldable pub first_message : List ℕ → ℕ → ℕ
first_message packets n = bit_of 8 (first_stream packets (n / 8)) (n % 8)

-- "Register .. zero at the start"; "The lines are empty at the start: bit 0."
unfoldable pub first_carrier : Settings → List ℕ → ℕ → ℕ
first_carrier settings packets k =
    let v = settings.v in
    binary v (λ l.
    cond (ltb k (delay_of v l)) 0
    (kept_bit settings.rate 0 (first_message packets) ((k - delay_of v l) * v + l)))

module _ (settings : Settings) (packets : List ℕ) where
  abbrev kept : ℕ → ℕ
  kept = kept_bit_of (frame_of (fresh_coding_state settings) packets)

  message : (n : ℕ) → message_bit (frame_of (fresh_coding_state settings) packets) n ≡ first_message packets n
  unfolding message_bit frame_of first_message first_stream
  message n = ap (λ (byte : ℕ). bit_of 8 byte (n % 8)) (first_byte settings (sent_byte packets) (n / 8))

  kept_is : (c : ℕ) → kept c ≡ kept_bit settings.rate 0 (first_message packets) c
  unfolding kept_bit_of
  kept_is c =
      unfold frame_of fresh_coding_state in
      kept_every settings.rate 0 (message_bit (frame_of (fresh_coding_state settings) packets))
      (first_message packets) c
      (λ i. ap (λ (x : ℕ). x % 2) (message i))

  line : (k l : ℕ) → line_bit settings.v (fresh_coding_state settings).lines kept k l
      ≡ cond (ltb k (delay_of settings.v l)) 0
      (kept_bit settings.rate 0 (first_message packets) ((k - delay_of settings.v l) * settings.v + l))
  line k l = elim (dec_lt k (delay_of settings.v l)) [
    | yes early ↦ rw (lt-ltb k (delay_of settings.v l) early) (first_line settings kept k l early)
    | no late ↦ rw (le-ltb k (delay_of settings.v l) (omega arith))
        (line_late settings.v (fresh_coding_state settings).lines kept k l (omega arith)
        ∙ kept_is ((k - delay_of settings.v l) * settings.v + l))
  ]

  pub first_frame : (k : ℕ) → k < C settings
      → get_or (carriers_of_frame (fresh_coding_state settings) packets) k 0 ≡ first_carrier settings packets k
  unfolding carriers_of_frame first_carrier carrier_value carrier_at frame_of fresh_coding_state
  first_frame k less =
      get_d_tab (C settings) (carrier_value (frame_of (fresh_coding_state settings) packets)) k less
      ∙ binary_cong settings.v _ _ (λ l lt. line k l)
