-- What a receiver has heard of a stream, and the words that it finishes.
--     Hears              its memory holds what has been heard, which is what arrives, but for the stream's first bytes
--     words_finished     each byte of a finished word is that of the word sent eleven words before
--     hears_on           what it has heard when these words are taken
--     hears_of           a receiver that follows the stream hears all
--     follows_of         one that hears all follows it
use mathlib.Core.Path.{◌≡◌, refl, sym, ap, ◌∙◌}
use mathlib.Core.Bool.{cond}
use mathlib.Core.List.{List}
use Prim.Native.Nat.{ℕ, ◌+◌, ◌-◌, ◌*◌, ◌%◌, ◌<◌, ◌≤◌}
use native.Mathlib.Decide.{dec_lt}
use native.Mathlib.Omega.{arith}
use lib.Dec.{ltb}
use borrow.Author.Tests.{lt-ltb, le-ltb}
use Rattle.rules.specs.Bytes.{waits_there, waits_back, stream_byte, memory_after}
use Rattle.rules.proofs.Ways.{back_fits, both_waits}
use Rattle.rules.proofs.Stream.{stream_late, stream_cong}
use Rattle.rules.proofs.Memory.{stream_after, memory_add, memory_cong}
use Rattle.rules.specs.Frame.{Frame, register_behind}
use Rattle.receiving_answers.specs.Words.{received_byte, memory_at}
use Rattle.demands.specs.InStep.{arriving, Following}
use Rattle.demands.proofs.Words.{Taken}

-- `wrong` counts the stream's first bytes that may be others; what the memory held before them is of no account
pub record Hears (stream : Frame) (wrong word : ℕ) (memory : List ℕ) : Type 0 where
  pub before : List ℕ
  pub heard : ℕ → ℕ
  pub heard_is : (b : ℕ) → wrong ≤ b → b < 204 * word → heard b ≡ arriving stream b
  pub memory_is : memory ≡ memory_after waits_back before heard word

-- Going back after interleaving: a byte that was heard right comes out eleven words later.
comes_back : (stream : Frame) (before : List ℕ) (heard : ℕ → ℕ) (b : ℕ) → 2244 ≤ b
    → heard (b - 204 * waits_back (b % 12)) ≡ arriving stream (b - 204 * waits_back (b % 12))
    → stream_byte waits_back before heard b ≡ stream.sent (b - 2244) % 256
comes_back stream before heard b h right =
    unfold arriving in let eleven = both_waits (b % 12) (omega arith) in
    let branch : (b - 204 * waits_back (b % 12)) % 12 ≡ b % 12 = omega arith in
    stream_late waits_back before heard b (b % 12) refl (omega arith) ∙ right ∙ ap (λ (x : ℕ). x % 256)
    (stream_late waits_there stream.memory stream.sent (b - 204 * waits_back (b % 12)) (b % 12) branch (omega arith)
    ∙ ap stream.sent (omega arith))

-- The stream's first twelve bytes are of twelve branches, and so of twelve words, of which all but one were sent before
-- the stream's first: wrong ones among them reach byte 0 of that word alone.
heard_late : (b wrong : ℕ) → 2244 ≤ b → wrong ≤ 12 → wrong ≤ 12 * (b - 2244) → wrong ≤ b - 204 * waits_back (b % 12)
heard_late b wrong h few late =
    unfold waits_there in let eleven = both_waits (b % 12) (omega arith) in omega arith

module _ (stream : Frame) (wrong word count : ℕ) (pairs : ℕ → List ℕ) (register : ℕ)
    (taken : Taken stream wrong word count pairs register) (memory : List ℕ) (hears : Hears stream wrong word memory)
  where
    -- what was heard before, and then what is received
    heard_on : ℕ → ℕ
    heard_on b = cond (ltb b (204 * word)) (hears.heard b) (received_byte pairs register (b - 204 * word))

    on_before : (b : ℕ) → b < 204 * word → hears.heard b ≡ heard_on b
    on_before b h = unfold heard_on in rw (lt-ltb b (204 * word) h) refl

    on_received : (b : ℕ) → received_byte pairs register b ≡ heard_on (204 * word + b)
    on_received b =
        unfold heard_on in let place : b ≡ 204 * word + b - 204 * word = omega arith in
        rw (le-ltb (204 * word + b) (204 * word) (omega arith)) (ap (received_byte pairs register) place)

    on_right : (b : ℕ) → wrong ≤ b → b < 204 * (word + count) → heard_on b ≡ arriving stream b
    on_right b late lt = elim (dec_lt b (204 * word)) [
      | yes early ↦ sym (on_before b early) ∙ hears.heard_is b late early
      | no here ↦
          (let place : 204 * word + (b - 204 * word) ≡ b = omega arith in
          ap heard_on (sym place) ∙ sym (on_received (b - 204 * word))
          ∙ taken.bytes_are (b - 204 * word) (omega arith) (omega arith) ∙ ap (arriving stream) place)
    ]

    memory_on : memory ≡ memory_after waits_back hears.before heard_on word
    memory_on = hears.memory_is ∙ memory_cong waits_back back_fits hears.before hears.heard heard_on word on_before

    pub words_finished : wrong ≤ 12 → (n j : ℕ) → n < count → j < 204 → 11 ≤ word + n
        → wrong ≤ 12 * (204 * (word + n - 11) + j)
        → stream_byte waits_back memory (received_byte pairs register) (204 * n + j)
        ≡ stream.sent (204 * (word + n - 11) + j) % 256
    words_finished few n j h lt late right =
        let b = 204 * word + (204 * n + j) in
        let sent : b - 2244 ≡ 204 * (word + n - 11) + j = omega arith in
        ap (λ (m : List ℕ). stream_byte waits_back m (received_byte pairs register) (204 * n + j)) memory_on
        ∙ stream_cong waits_back (memory_after waits_back hears.before heard_on word) (received_byte pairs register)
        (λ k. heard_on (204 * word + k)) (204 * n + j) (λ k le. on_received k)
        ∙ stream_after waits_back back_fits hears.before heard_on word (204 * n + j)
        ∙ comes_back stream hears.before heard_on b (omega arith)
        (on_right (b - 204 * waits_back (b % 12)) (heard_late b wrong (omega arith) few (omega arith)) (omega arith))
        ∙ ap (λ (b : ℕ). stream.sent b % 256) sent

    pub hears_on : Hears stream wrong (word + count) (memory_at pairs memory register count)
    hears_on =
        unfold memory_at in record {
          before = hears.before;
          heard = heard_on;
          heard_is = on_right;
          memory_is =
              ap (λ (m : List ℕ). memory_after waits_back m (received_byte pairs register) count) memory_on
              ∙ memory_cong waits_back back_fits (memory_after waits_back hears.before heard_on word)
              (received_byte pairs register) (λ k. heard_on (204 * word + k)) count (λ k lt. on_received k)
              ∙ memory_add waits_back back_fits hears.before heard_on word count;
        }

module _ (stream : Frame) (word : ℕ) (memory : List ℕ) (register : ℕ) where
  pub hears_of : Following stream word memory register → Hears stream 0 word memory
  hears_of follows =
      record {
        before = follows.before;
        heard = arriving stream;
        heard_is = λ b late lt. refl;
        memory_is = follows.memory_is;
      }

  pub follows_of : Hears stream 0 word memory → register ≡ register_behind stream word
      → Following stream word memory register
  follows_of hears right =
      record {
        register_is = right;
        before = hears.before;
        memory_is = hears.memory_is
            ∙ memory_cong waits_back back_fits hears.before hears.heard (arriving stream) word
            (λ b lt. hears.heard_is b (omega arith) lt);
      }
