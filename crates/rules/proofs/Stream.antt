-- What comes out, for any waits.
--     stream_early, stream_late     first the bytes of the memory, then what went in before
--     stream_same, stream_cong      only the byte that went in so many words before counts, so no later one
--     stream_forgets                once the wait of its branch is over, the memory before counts no more
--     comes_out                     a byte that goes in comes out at its place
--     stream_start                  from the memory at the start, zero
use mathlib.Core.Path.{◌≡◌, refl, sym, ap, ◌∙◌}
use mathlib.Core.Bool.{cond}
use mathlib.Core.List.{List}
use Prim.Native.Nat.{ℕ, ◌+◌, ◌-◌, ◌*◌, ◌<◌, ◌≤◌}
use native.Mathlib.Decide.{dec_lt}
use native.Mathlib.Omega.{arith}
use lib.Dec.{ltb}
use lib.ListN.{get_or, replicate, length-replicate, get_or-replicate, get_or-eq_default}
use borrow.Author.Tests.{lt-ltb, le-ltb}
use Rattle.rules.specs.Bytes.{branch_of, turn_of, branch_start, memory_at_start, stream_byte, comes_out_at}

-- a choice by a test, where its outcome is known
chosen_first : (x y : ℕ) {a b : ℕ} → a < b → cond (ltb a b) x y ≡ x
chosen_first x y {a} {b} h = rw (lt-ltb a b h) refl

chosen_second : (x y : ℕ) {a b : ℕ} → b ≤ a → cond (ltb a b) x y ≡ y
chosen_second x y {a} {b} h = rw (le-ltb a b h) refl

pub start_zero : (k : ℕ) → get_or memory_at_start k 0 ≡ 0
start_zero k = unfold memory_at_start in elim (dec_lt k 1122) [
  | yes p ↦ get_or-replicate {A = ℕ} 1122 k 0 0 p
  | no p ↦ get_or-eq_default (replicate {A = ℕ} 1122 0) 0 {n = k} (omega (arith, length-replicate {A = ℕ} 1122 0))
]

module _ (waits : ℕ → ℕ) where
  module _ (memory : List ℕ) (sent : ℕ → ℕ) where
    pub stream_early : (b i : ℕ) → branch_of b ≡ i → turn_of b < 17 * waits i
        → stream_byte waits memory sent b ≡ get_or memory (branch_start waits i + turn_of b) 0
    unfolding stream_byte
    stream_early b i e h =
        rw e (chosen_first (get_or memory (branch_start waits i + turn_of b) 0) (sent (b - 204 * waits i)) h)

    pub stream_late : (b i : ℕ) → branch_of b ≡ i → 17 * waits i ≤ turn_of b
        → stream_byte waits memory sent b ≡ sent (b - 204 * waits i)
    unfolding stream_byte
    stream_late b i e h =
        rw e (chosen_second (get_or memory (branch_start waits i + turn_of b) 0) (sent (b - 204 * waits i)) h)

    -- Byte b that goes in comes out at its place.
    pub comes_out : (b : ℕ) → stream_byte waits memory sent (comes_out_at waits b) ≡ sent b
    unfolding comes_out_at
    comes_out b =
        stream_late (b + 204 * waits (branch_of b)) (branch_of b) (omega arith) (omega arith) ∙ ap sent (omega arith)

  -- "all zero at the start"
  pub stream_start : (sent : ℕ → ℕ) (b : ℕ) → turn_of b < 17 * waits (branch_of b)
      → stream_byte waits memory_at_start sent b ≡ 0
  stream_start sent b h =
      stream_early memory_at_start sent b (branch_of b) refl h ∙ start_zero
      (branch_start waits (branch_of b) + turn_of b)

  -- only the byte that went in so many words before counts
  pub stream_same : (memory : List ℕ) (sent other : ℕ → ℕ) (b : ℕ)
      → (204 * waits (branch_of b) ≤ b → sent (b - 204 * waits (branch_of b)) ≡ other (b - 204 * waits (branch_of b)))
      → stream_byte waits memory sent b ≡ stream_byte waits memory other b
  stream_same memory sent other b h = elim (dec_lt (turn_of b) (17 * waits (branch_of b))) [
    | yes p ↦ stream_early memory sent b (branch_of b) refl p ∙ sym (stream_early memory other b (branch_of b) refl p)
    | no p ↦
        let late : 17 * waits (branch_of b) ≤ turn_of b = omega arith in
        stream_late memory sent b (branch_of b) refl late ∙ h (omega arith)
        ∙ sym (stream_late memory other b (branch_of b) refl late)
  ]

  pub stream_cong : (memory : List ℕ) (sent other : ℕ → ℕ) (b : ℕ) → ((k : ℕ) → k ≤ b → sent k ≡ other k)
      → stream_byte waits memory sent b ≡ stream_byte waits memory other b
  stream_cong memory sent other b h =
      stream_same memory sent other b (λ late. h (b - 204 * waits (branch_of b)) (omega arith))

  -- once every branch's wait is over the memory before no longer counts
  pub stream_forgets : (memory before : List ℕ) (sent : ℕ → ℕ) (b : ℕ) → 204 * waits (branch_of b) ≤ b
      → stream_byte waits memory sent b ≡ stream_byte waits before sent b
  stream_forgets memory before sent b h =
      let late : 17 * waits (branch_of b) ≤ turn_of b = omega arith in
      stream_late memory sent b (branch_of b) refl late ∙ sym (stream_late before sent b (branch_of b) refl late)
