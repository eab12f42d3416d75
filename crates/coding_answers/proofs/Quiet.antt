-- The difference frame is zero but in one word, so it is quiet up to that word and from the thirteenth after it on: a
-- replacement need not go through the frame's other words.
--     stream_quiet                      its bytes that come from other words
--     message_before, message_after     its message bits
--     kept_before, kept_after           its kept bits
--     memory_before, memory_after       the memory behind some words
--     register_after                    the register
use mathlib.Core.Path.{◌≡◌, refl, sym, ap, ◌∙◌}
use mathlib.Core.List.{List}
use Prim.Native.Nat.{ℕ, ◌+◌, ◌-◌, ◌*◌, ◌/◌, ◌%◌, ◌^◌, ◌<◌, ◌≤◌}
use native.Mathlib.Nat.{zero-div}
use native.Mathlib.Decide.{dec_lt, dec_le}
use native.Mathlib.Omega.{arith}
use lib.ListN.{length, length-replicate}
use Rattle.settings.specs.declared.Settings.{Settings}
use Rattle.settings.specs.Patterns.{kept_below}
use Rattle.settings.proofs.LegalSettings.{LegalRate}
use Rattle.rules.specs.Bytes.{waits_there, branch_start, memory_at_start, stream_byte}
use Rattle.rules.proofs.Memory.{memory_ext}
use Rattle.rules.proofs.Stream.{start_zero, stream_start, stream_late}
use Rattle.rules.proofs.Ways.{there_fits}
use Rattle.rules.proofs.CodeWindows.{back_message, back_register, register_zero}
use Rattle.rules.proofs.Sources.{source_lt, source_ge}
use Rattle.rules.specs.Frame.{Frame, message_bit, kept_bit_of, memory_behind, register_behind}
use Rattle.coding_answers.specs.Replacement.{difference_byte, difference_frame}
use Rattle.coding_answers.proofs.Difference.{difference_other}
use Rattle.coding_answers.proofs.Outside.{kept_quiet}

start_long : length memory_at_start ≡ 1122
start_long = unfold memory_at_start in length-replicate {A = ℕ} 1122 0

module _ (settings : Settings) (number : ℕ) (old new : List ℕ) where
  abbrev difference : Frame
  difference = difference_frame settings number old new

  -- a byte of the stream comes from the word `b % 12` before its own
  pub stream_quiet : (b : ℕ) → (204 * (b % 12) ≤ b → (b - 204 * (b % 12)) / 204 ≡ number → ⊥)
      → stream_byte waits_there memory_at_start (difference_byte number old new) b ≡ 0
  stream_quiet b far = unfold waits_there in elim (dec_lt (b / 12) (17 * (b % 12))) [
    | yes early ↦ stream_start waits_there (difference_byte number old new) b early
    | no late ↦
        stream_late waits_there memory_at_start (difference_byte number old new) b (b % 12) refl (omega arith)
        ∙ difference_other number old new (b - 204 * (b % 12)) (far (omega arith))
  ]

  message_quiet : (n : ℕ) → stream_byte waits_there memory_at_start (difference_byte number old new) (n / 8) ≡ 0
      → message_bit difference n ≡ 0
  unfolding message_bit difference_frame
  message_quiet n z =
      ap (λ (x : ℕ). x / 2 ^ (7 - n % 8) % 2) z ∙ ap (λ (x : ℕ). x % 2) (zero-div (2 ^ (7 - n % 8)))

  pub message_before : (n : ℕ) → n < 1632 * number → message_bit (difference_frame settings number old new) n ≡ 0
  message_before n h = message_quiet n (stream_quiet (n / 8) (λ le e. omega arith))

  pub message_after : (n : ℕ) → 1632 * (number + 12) ≤ n → message_bit (difference_frame settings number old new) n ≡ 0
  message_after n h = message_quiet n (stream_quiet (n / 8) (λ le e. omega arith))

  module _ (legal : LegalRate settings.rate) where
    pub kept_before : (c : ℕ) → c < kept_below settings.rate (1632 * number)
        → kept_bit_of (difference_frame settings number old new) c ≡ 0
    kept_before c h =
        unfold kept_bit_of difference_frame in let s = source_lt legal c (1632 * number) h in
        kept_quiet legal (message_bit difference) c (λ i lo hi. message_before i (omega arith))

    -- a kept bit looks at six message bits before its own, and the last that isn't zero is before the twelfth word
    pub kept_after : (c : ℕ) → kept_below settings.rate (1632 * (number + 12) + 6) ≤ c
        → kept_bit_of (difference_frame settings number old new) c ≡ 0
    kept_after c h =
        unfold kept_bit_of difference_frame in let s = source_ge legal c (1632 * (number + 12) + 6) h in
        kept_quiet legal (message_bit difference) c (λ i lo hi. message_after i (omega arith))

  -- ---- the memory

  memory_quiet : (words : ℕ) → ((w : ℕ) → w < words → words ≤ w + 11 → w ≡ number → ⊥)
      → memory_at_start ≡ memory_behind (difference_frame settings number old new) words
  unfolding memory_behind difference_frame waits_there
  memory_quiet words far =
      memory_ext waits_there there_fits memory_at_start (difference_byte number old new) words memory_at_start
      start_long (λ i q less lt. start_zero (branch_start waits_there i + q)
      ∙ sym (stream_quiet (204 * words + 12 * q + i) (λ le e.
      let branch : (204 * words + 12 * q + i) % 12 ≡ i = omega arith in
      far ((204 * words + 12 * q + i - 204 * i) / 204) (omega arith) (omega arith)
      (ap (λ (k : ℕ). (204 * words + 12 * q + i - 204 * k) / 204) (sym branch) ∙ e))))

  pub memory_before : (words : ℕ) → words ≤ number
      → memory_at_start ≡ memory_behind (difference_frame settings number old new) words
  memory_before words h = memory_quiet words (λ w lt near e. omega arith)

  pub memory_after : (words : ℕ) → number + 12 ≤ words
      → memory_at_start ≡ memory_behind (difference_frame settings number old new) words
  memory_after words h = memory_quiet words (λ w lt near e. omega arith)

  -- ---- the register

  register_quiet : (words : ℕ)
      → ((i : ℕ) → i < 1632 * words → 1632 * words ≤ i + 6 → message_bit (difference_frame settings number old new) i
      ≡ 0)
      → register_behind (difference_frame settings number old new) words ≡ 0
  register_quiet words none =
      unfold register_behind difference_frame in register_zero 0 (message_bit difference) (1632 * words)
      (λ k some few. elim (dec_le k (1632 * words)) [
        | yes h ↦
            back_message 0 (message_bit difference) (1632 * words) k h
            ∙ ap (λ (b : ℕ). b % 2) (none (1632 * words - k) (omega arith) (omega arith))
        | no h ↦
            back_register 0 (message_bit difference) (1632 * words) k (omega arith)
            ∙ ap (λ (b : ℕ). b % 2) (zero-div (2 ^ (6 - (k - 1632 * words))))
      ])

  pub register_after : (words : ℕ) → number + 13 ≤ words
      → register_behind (difference_frame settings number old new) words ≡ 0
  register_after words h = register_quiet words (λ i lt near. message_after i (omega arith))
