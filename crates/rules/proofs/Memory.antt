-- The memory after some words, for waits that fit.
--     length_memory, memory_at       its length, and byte q of branch i
--     memory_ext                     a list that holds those bytes is it
--     memory_none                    before the first word the memory is as it was
--     stream_after, memory_add       some words, and then more
--     word_more, memory_more         a word more
--     memory_cong                    only the bytes that went in count
--     memory_forgets                 after 11 words the memory before counts no more
use mathlib.Core.Path.{◌≡◌, refl, sym, ap, ◌∙◌}
use mathlib.Core.List.{List}
use Prim.Native.Nat.{ℕ, ◌+◌, ◌*◌, ◌/◌, ◌%◌, ◌<◌, ◌≤◌}
use native.Mathlib.Decide.{dec_lt}
use native.Mathlib.Omega.{arith}
use lib.ListN.{length, get_or}
use Rattle.lists.specs.Tab.{tab}
use Rattle.lists.proofs.Tabs.{tab_cong}
use Rattle.rules.specs.Bytes.{branch_size, branch_start, stream_byte, word_out, memory_after}
use Rattle.lists.proofs.Pieces.{length_pieces, pieces_at, pieces_ext}
use Rattle.rules.proofs.Stream.{stream_early, stream_late, stream_same, stream_cong, stream_forgets}
use Rattle.rules.proofs.Ways.{Fits}

module _ (waits : ℕ → ℕ) (fits : Fits waits) where
  pub length_memory : (memory : List ℕ) (sent : ℕ → ℕ) (n : ℕ) → length (memory_after waits memory sent n) ≡ 1122
  unfolding memory_after
  length_memory memory sent n =
      length_pieces (branch_size waits) (λ i q. stream_byte waits memory sent (204 * n + 12 * q + i)) 12 ∙ fits.full

  pub memory_at : (memory : List ℕ) (sent : ℕ → ℕ) (n i q : ℕ) → i < 12 → q < 17 * waits i
      → get_or (memory_after waits memory sent n) (branch_start waits i + q) 0
      ≡ stream_byte waits memory sent (204 * n + 12 * q + i)
  unfolding memory_after
  memory_at memory sent n i q h lt =
      pieces_at (branch_size waits) (λ i q. stream_byte waits memory sent (204 * n + 12 * q + i)) 12 i q h lt

  pub memory_ext : (memory : List ℕ) (sent : ℕ → ℕ) (n : ℕ) (l : List ℕ) → length l ≡ 1122
      → ((i q : ℕ) → i < 12 → q < 17 * waits i
      → get_or l (branch_start waits i + q) 0 ≡ stream_byte waits memory sent (204 * n + 12 * q + i))
      → l ≡ memory_after waits memory sent n
  unfolding memory_after
  memory_ext memory sent n l e h =
      pieces_ext (branch_size waits) (λ i q. stream_byte waits memory sent (204 * n + 12 * q + i)) 12 l
      (e ∙ sym fits.full) h

  pub memory_none : (memory : List ℕ) (sent : ℕ → ℕ) → length memory ≡ 1122 → memory ≡ memory_after waits memory sent 0
  memory_none memory sent e =
      memory_ext memory sent 0 memory e (λ i q h lt.
      let turn : (204 * 0 + 12 * q + i) / 12 ≡ q = omega arith in
      ap (λ (k : ℕ). get_or memory (branch_start waits i + k) 0) (sym turn)
      ∙ sym (stream_early waits memory sent (204 * 0 + 12 * q + i) i (omega arith) (omega arith)))

  -- ---- some words, and then more

  module _ (memory : List ℕ) (sent : ℕ → ℕ) (n : ℕ) where
    -- After n words there comes out what comes out from the memory then.
    pub stream_after : (b : ℕ)
        → stream_byte waits (memory_after waits memory sent n) (λ k. sent (204 * n + k)) b
        ≡ stream_byte waits memory sent (204 * n + b)
    stream_after b = elim (dec_lt (b / 12) (17 * waits (b % 12))) [
      | yes p ↦
          stream_early waits (memory_after waits memory sent n) (λ k. sent (204 * n + k)) b (b % 12) refl p
          ∙ memory_at memory sent n (b % 12) (b / 12) (omega arith) p
          ∙ ap (stream_byte waits memory sent) (omega arith)
      | no p ↦
          stream_late waits (memory_after waits memory sent n) (λ k. sent (204 * n + k)) b (b % 12) refl (omega arith)
          ∙ ap sent (omega arith)
          ∙ sym (stream_late waits memory sent (204 * n + b) (b % 12) (omega arith) (omega arith))
    ]

    pub memory_add : (m : ℕ) → memory_after waits (memory_after waits memory sent n) (λ k. sent (204 * n + k)) m
        ≡ memory_after waits memory sent (n + m)
    memory_add m =
        let then = memory_after waits memory sent n in
        let rest : ℕ → ℕ = λ k. sent (204 * n + k) in
        memory_ext memory sent (n + m) (memory_after waits then rest m) (length_memory then rest m)
        (λ i q h lt. memory_at then rest m i q h lt ∙ stream_after (204 * m + 12 * q + i)
        ∙ ap (stream_byte waits memory sent) (omega arith))

  -- ---- what counts

  -- Only the bytes of the n words count.
  pub memory_cong : (memory : List ℕ) (sent other : ℕ → ℕ) (n : ℕ) → ((k : ℕ) → k < 204 * n → sent k ≡ other k)
      → memory_after waits memory sent n ≡ memory_after waits memory other n
  memory_cong memory sent other n h =
      memory_ext memory other n (memory_after waits memory sent n) (length_memory memory sent n)
      (λ i q less lt. memory_at memory sent n i q less lt
      ∙ stream_same waits memory sent other (204 * n + 12 * q + i)
      (let branch : (204 * n + 12 * q + i) % 12 ≡ i = omega arith in rw branch (λ late. h _ (omega arith))))

  -- After 11 words or more the memory before counts no more.
  pub memory_forgets : (memory before : List ℕ) (sent : ℕ → ℕ) (n : ℕ) → 11 ≤ n
      → memory_after waits memory sent n ≡ memory_after waits before sent n
  memory_forgets memory before sent n h =
      memory_ext before sent n (memory_after waits memory sent n) (length_memory memory sent n)
      (λ i q less lt. memory_at memory sent n i q less lt
      ∙ stream_forgets waits memory before sent (204 * n + 12 * q + i)
      (let branch : (204 * n + 12 * q + i) % 12 ≡ i = omega arith in rw branch (omega (arith, fits.most i less))))

  -- ---- a word more, `word` being word n of those that go in

  module _ (memory : List ℕ) (sent : ℕ → ℕ) (n : ℕ) (word : List ℕ)
      (next : (k : ℕ) → k < 204 → get_or word k 0 ≡ sent (204 * n + k)) where
    pub word_more :
        word_out waits (memory_after waits memory sent n) word ≡ tab 204
        (λ j. stream_byte waits memory sent (204 * n + j))
    unfolding word_out
    word_more = tab_cong 204 _ _ (λ j lt.
        stream_cong waits (memory_after waits memory sent n) (λ b. get_or word b 0) (λ k. sent (204 * n + k)) j
        (λ k le. next k (omega arith)) ∙ stream_after memory sent n j)

    pub memory_more : memory_after waits (memory_after waits memory sent n) (λ b. get_or word b 0) 1
        ≡ memory_after waits memory sent (n + 1)
    memory_more =
        memory_cong (memory_after waits memory sent n) (λ b. get_or word b 0) (λ k. sent (204 * n + k)) 1
        (λ k lt. next k (omega arith)) ∙ memory_add memory sent n 1
