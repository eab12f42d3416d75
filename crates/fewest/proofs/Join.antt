-- What is sent bit by bit is rule 4's code of the whole message.
--     bit_of                          a message bit by its number
--     window_seven, register_next     the window of the first bit, and the register after it
--     coded_first_x, coded_first_y    the coded bits of the first bit
--     coded_next_x, coded_next_y      those of the bits behind it, from the register after it
--     register_step                   the register after the whole
--     sent_coded                      the pairs sent are the coded bits
--     after_register                  the register after the message
use mathlib.Core.Path.{◌≡◌, refl, sym, ap, ap₂, ◌∙◌}
use mathlib.Core.Bool.{Bool, true, false}
use mathlib.Core.List.{List, [], ◌∷◌, map}
use Prim.Native.Nat.{ℕ, zero, suc, ◌+◌, ◌*◌, ◌-◌, ◌/◌, ◌%◌, ◌<◌}
use native.Mathlib.Nat.{not-suc-le-zero, le_of_suc-le-suc}
use native.Mathlib.Omega.{arith}
use lib.ListN.{length, get_or}
use Rattle.lists.specs.Binary.{binary}
use Rattle.rules.specs.Code.{window, parity, coded_x, coded_y, register_after}
use Rattle.rules.proofs.CodeWindows.{back_message, window_cong, window_from, register_cong, register_start}
use Rattle.rules.proofs.CodeWindows.{register_more, register_from}
use Rattle.fewest.specs.Best.{bit, seven, next, sent_x, sent_y}

unfoldable pub sent : ℕ → List Bool → List ℕ
sent register [] = []
sent register (b ∷ message) = (3 * sent_x register b + sent_y register b) ∷ sent (next register b) message

unfoldable pub after : ℕ → List Bool → ℕ
after register [] = register
after register (b ∷ message) = after (next register b) message

abbrev pub bit_of : List Bool → ℕ → ℕ
bit_of message n = get_or (map bit message) n 0

bit_mod : (b : Bool) → bit b % 2 ≡ bit b
bit_mod true = refl
bit_mod false = refl

-- a window is the newest bit and the register before it
window_split : (register : ℕ) (message : ℕ → ℕ) (n : ℕ)
    → window register message n ≡ 64 * (message n % 2) + register_after register message n
window_split register message n =
    unfold window register_after binary in let same : n - 0 ≡ n = omega arith in
    let newest = back_message register message n 0 (omega arith) ∙ ap (λ (i : ℕ). message i % 2) same in
    omega arith

-- ---- a message given by its bits, of which b is the first

module _ (register : ℕ) (small : register < 64) (message : ℕ → ℕ) (b : Bool) (first : message 0 % 2 ≡ bit b) where
  pub window_seven : window register message 0 ≡ seven register b
  unfolding seven
  window_seven = let s = register_start register message in let w = window_split register message 0 in omega arith

  pub register_next : register_after register message 1 ≡ next register b
  register_next = unfold next in register_more register message 0 ∙ ap (λ (n : ℕ). n / 2) window_seven

  on : (i : ℕ) → 1 + i ≡ suc i
  on i = omega arith

  window_next : (n : ℕ) → window register message (suc n) ≡ window (next register b) (λ i. message (suc i)) n
  window_next n =
      ap (window register message) (sym (on n)) ∙ sym (window_from register message 1 n)
      ∙ ap (λ (s : ℕ). window s (λ i. message (1 + i)) n) register_next
      ∙ window_cong (next register b) (λ i. message (1 + i)) (λ i. message (suc i)) n
      (λ i le. ap (λ (j : ℕ). message j % 2) (on i))

  pub register_step : (n : ℕ)
      → register_after register message (suc n) ≡ register_after (next register b) (λ i. message (suc i)) n
  register_step n =
      ap (register_after register message) (sym (on n)) ∙ sym (register_from register message 1 n)
      ∙ ap (λ (s : ℕ). register_after s (λ i. message (1 + i)) n) register_next
      ∙ register_cong (next register b) (λ i. message (1 + i)) (λ i. message (suc i)) n
      (λ i lt. ap (λ (j : ℕ). message j % 2) (on i))

  pub coded_first_x : coded_x register message 0 ≡ sent_x register b
  coded_first_x = unfold coded_x sent_x in ap (parity 0o171) window_seven

  pub coded_first_y : coded_y register message 0 ≡ sent_y register b
  coded_first_y = unfold coded_y sent_y in ap (parity 0o133) window_seven

  pub coded_next_x : (n : ℕ) → coded_x register message (suc n) ≡ coded_x (next register b) (λ i. message (suc i)) n
  coded_next_x n = unfold coded_x in ap (parity 0o171) (window_next n)

  pub coded_next_y : (n : ℕ) → coded_y register message (suc n) ≡ coded_y (next register b) (λ i. message (suc i)) n
  coded_next_y n = unfold coded_y in ap (parity 0o133) (window_next n)

pub next_lt : (register : ℕ) (b : Bool) → register < 64 → next register b < 64
unfolding next seven
next_lt register true h = omega arith
next_lt register false h = omega arith

-- ---- a list of bits

pub sent_coded : (message : List Bool) (register n : ℕ) → register < 64 → n < length message
    → get_or (sent register message) n 0 ≡ 3 * coded_x register (bit_of message) n + coded_y register (bit_of message) n
unfolding sent
sent_coded [] register n h lt = absurd (not-suc-le-zero lt)
sent_coded (b ∷ message) register zero h lt =
    let x = coded_first_x register h (bit_of (b ∷ message)) b (bit_mod b) in
    let y = coded_first_y register h (bit_of (b ∷ message)) b (bit_mod b) in
    omega arith
sent_coded (b ∷ message) register (suc n) h lt =
    let x = coded_next_x register h (bit_of (b ∷ message)) b (bit_mod b) n in
    let y = coded_next_y register h (bit_of (b ∷ message)) b (bit_mod b) n in
    let i = sent_coded message (next register b) n (next_lt register b h) (le_of_suc-le-suc lt) in
    i ∙ ap₂ (λ (u v : ℕ). 3 * u + v) (sym x) (sym y)

pub after_register : (message : List Bool) (register : ℕ) → register < 64
    → after register message ≡ register_after register (bit_of message) (length message)
unfolding after
after_register [] register h = let s = register_start register (bit_of []) in omega arith
after_register (b ∷ message) register h =
    after_register message (next register b) (next_lt register b h)
    ∙ sym (register_step register h (bit_of (b ∷ message)) b (bit_mod b) (length message))
