-- Byte interleaving is linear: what comes out of a sum of bytes is the sum of what comes out. So it is for any
-- operation that is done byte by byte.
--     stream_pointwise, memory_pointwise     for any such operation
--     stream_xor, memory_xor                 for the sum
use mathlib.Core.Path.{◌≡◌, refl, sym, ap₂, ◌∙◌}
use mathlib.Core.List.{List}
use Prim.Native.Nat.{ℕ, ◌+◌, ◌*◌, ◌/◌, ◌%◌, ◌<◌, ◌≤◌}
use native.Mathlib.Decide.{dec_lt}
use native.Mathlib.Omega.{arith}
use lib.Bits.{bit_xor}
use lib.ListN.{get_or}
use Rattle.lists.specs.Tab.{tab}
use Rattle.lists.proofs.Tabs.{length_tab, get_d_tab}
use Rattle.rules.specs.Bytes.{branch_size, branch_start, stream_byte, memory_after}
use Rattle.lists.proofs.Pieces.{start_mono}
use Rattle.rules.proofs.Stream.{stream_early, stream_late}
use Rattle.rules.proofs.Memory.{memory_at, memory_ext}
use Rattle.rules.proofs.Ways.{Fits}

module _ (waits : ℕ → ℕ) (fits : Fits waits) where
  inside : (i q : ℕ) → i < 12 → q < 17 * waits i → branch_start waits i + q < 1122
  inside i q h lt = omega (arith, start_mono (branch_size waits) i 12 h, fits.full)

  module _ (op : ℕ → ℕ → ℕ) (one two both : List ℕ) (sent other : ℕ → ℕ)
      (is : (k : ℕ) → k < 1122 → get_or both k 0 ≡ op (get_or one k 0) (get_or two k 0)) where
    pub stream_pointwise : (b : ℕ) → stream_byte waits both (λ k. op (sent k) (other k)) b
        ≡ op (stream_byte waits one sent b) (stream_byte waits two other b)
    stream_pointwise b = elim (dec_lt (b / 12) (17 * waits (b % 12))) [
      | yes p ↦
          stream_early waits both (λ k. op (sent k) (other k)) b (b % 12) refl p
          ∙ is (branch_start waits (b % 12) + b / 12) (inside (b % 12) (b / 12) (omega arith) p)
          ∙ ap₂ op (sym (stream_early waits one sent b (b % 12) refl p))
          (sym (stream_early waits two other b (b % 12) refl p))
      | no p ↦
          let late : 17 * waits (b % 12) ≤ b / 12 = omega arith in
          stream_late waits both (λ k. op (sent k) (other k)) b (b % 12) refl late
          ∙ ap₂ op (sym (stream_late waits one sent b (b % 12) refl late))
          (sym (stream_late waits two other b (b % 12) refl late))
    ]

    pub memory_pointwise : (n : ℕ) → memory_after waits both (λ k. op (sent k) (other k)) n
        ≡ tab 1122 (λ k. op (get_or (memory_after waits one sent n) k 0) (get_or (memory_after waits two other n) k 0))
    memory_pointwise n =
        let rule : ℕ → ℕ
        = λ k. op (get_or (memory_after waits one sent n) k 0) (get_or (memory_after waits two other n) k 0) in
        sym (memory_ext waits fits both (λ k. op (sent k) (other k)) n (tab 1122 rule) (length_tab 1122 rule)
        (λ i q less lt. get_d_tab 1122 rule (branch_start waits i + q) (inside i q less lt)
        ∙ ap₂ op (memory_at waits fits one sent n i q less lt) (memory_at waits fits two other n i q less lt)
        ∙ sym (stream_pointwise (204 * n + 12 * q + i))))

  -- What comes out of a sum is the sum of what comes out.
  pub stream_xor : (one two : List ℕ) (sent other : ℕ → ℕ) (b : ℕ)
      → stream_byte waits (tab 1122 (λ k. bit_xor (get_or one k 0) (get_or two k 0))) (λ k. bit_xor (sent k) (other k))
      b
      ≡ bit_xor (stream_byte waits one sent b) (stream_byte waits two other b)
  stream_xor one two sent other =
      stream_pointwise bit_xor one two (tab 1122 (λ k. bit_xor (get_or one k 0) (get_or two k 0))) sent other
      (get_d_tab 1122 (λ k. bit_xor (get_or one k 0) (get_or two k 0)))

  -- The memory after a sum is the sum of the memories.
  pub memory_xor : (one two : List ℕ) (sent other : ℕ → ℕ) (n : ℕ)
      → memory_after waits (tab 1122 (λ k. bit_xor (get_or one k 0) (get_or two k 0))) (λ k. bit_xor (sent k) (other
      k)) n
      ≡ tab 1122 (λ k. bit_xor (get_or (memory_after waits one sent n) k 0)
      (get_or (memory_after waits two other n) k 0))
  memory_xor one two sent other =
      memory_pointwise bit_xor one two (tab 1122 (λ k. bit_xor (get_or one k 0) (get_or two k 0))) sent other
      (get_d_tab 1122 (λ k. bit_xor (get_or one k 0) (get_or two k 0)))
