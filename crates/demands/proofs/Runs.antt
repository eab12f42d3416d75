-- Receivers that take frames which are coded and received undisturbed.
--     BehindBy                      the state behind a frame, where the stream's first bytes may have been heard wrong
--     behind_of, in_step_of         where none of them is wrong, the receiver is in step
--     first_taken, later_taken      the words that a call takes, in step; of a later call, in any case
--     call_keeps_step               a call keeps a receiver in step
--     fresh_in_step, run_in_step    a fresh receiver is in step with a coder whose register is 0, over all frames
--     joining_taken, fresh_hears    the words that a fresh receiver takes first, whatever the coder's register is
--     wrong_behind, wrong_few       how many bytes it may have heard wrong behind frame f
--     run_joins                     its state behind each frame
use mathlib.Core.Path.{◌≡◌, refl, sym, ap, ◌∙◌, subst, subst⁻¹}
use mathlib.Core.List.{List}
use Prim.Native.Nat.{ℕ, zero, suc, ◌+◌, ◌-◌, ◌%◌, ◌<◌, ◌≤◌}
use native.Mathlib.Omega.{arith}
use lib.ListN.{get_or, replicate, length-replicate}
use Rattle.settings.specs.declared.Settings.{Settings}
use Rattle.settings.specs.Sizes.{P}
use Rattle.settings.proofs.LegalSettings.{Legal, legal_settings}
use Rattle.settings.proofs.Frame.{Frame as Sizes, frame_of_is}
use Rattle.rules.specs.Bytes.{waits_back, memory_after}
use Rattle.rules.proofs.Ways.{back_fits}
use Rattle.rules.proofs.Memory.{memory_none}
use Rattle.rules.proofs.CodeWindows.{register_start}
use Rattle.rules.specs.Bits.{lines_waiting}
use Rattle.rules.specs.Frame.{message_bit, register_behind}
use Rattle.coding_state.specs.declared.State.{State}
use Rattle.coding_state.proofs.Good.{good_legal, given_of_is}
use Rattle.receiving_state.specs.declared.State.{State as Receiving}
use Rattle.receiving_state.specs.State.{fresh_receiving_state}
use Rattle.receiving_answers.specs.Words.{call_pairs, register_before, memory_at}
use Rattle.receiving_answers.specs.Receiving.{words_of, last_carriers, receiving_state_behind}
use Rattle.rules.specs.Back.{held_after}
use Rattle.demands.specs.Frames.{coder_at, carriers_at, receiver_at, stream_from, Sending}
use Rattle.demands.specs.InStep.{arriving, receiving_state_from, Before, Behind, InStep}
use Rattle.demands.proofs.Words.{PairsOf, Taken, taken_on, taken_joining}
use Rattle.demands.proofs.Heard.{Hears, hears_on, hears_of, follows_of}
use Rattle.demands.proofs.Calls.{first_pairs, later_pairs}
use Rattle.demands.proofs.Streams.{carried_first, carried_next, lines_hold, register_on, hears_next}

-- behind frame f all its words but the last are taken, as in `Behind`, and of the stream's first bytes so many may
-- have been heard wrong
pub record BehindBy (wrong : ℕ) (start : State) (packets : ℕ → List ℕ) (f : ℕ) (state : Receiving) : Type 0 where
  pub memory : List ℕ
  pub register : ℕ
  pub state_is : state
      ≡ receiving_state_from start.settings 1 memory
      (lines_waiting start.settings.v (last_carriers (carriers_at start packets f))) register
      (held_after start.settings (carriers_at start packets f))
  pub register_is : register ≡ register_behind (stream_from start packets f) (P start.settings - 1)
  pub hears : Hears (stream_from start packets f) wrong (P start.settings - 1) memory

-- in a run from a fresh receiver on
abbrev pub wrong_behind : ℕ → ℕ
wrong_behind zero = 6
wrong_behind (suc f) = 0

pub wrong_few : (f : ℕ) → wrong_behind f ≤ 12
wrong_few zero = omega arith
wrong_few (suc f) = omega arith

module _ (start : State) (packets : ℕ → List ℕ) (f : ℕ) (state : Receiving) where
  pub behind_of : Behind start packets f state → BehindBy 0 start packets f state
  behind_of b =
      record {
        memory = b.memory;
        register = b.register;
        state_is = b.state_is;
        register_is = b.follows.register_is;
        hears = hears_of (stream_from start packets f) (P start.settings - 1) b.memory b.register b.follows;
      }

  pub in_step_of : BehindBy 0 start packets f state → Behind start packets f state
  in_step_of b =
      record {
        memory = b.memory;
        register = b.register;
        state_is = b.state_is;
        follows = follows_of (stream_from start packets f) (P start.settings - 1) b.memory b.register
            b.hears b.register_is;
      }

module _ (start : State) (sending : Sending start) (packets : ℕ → List ℕ) where
  abbrev settings : Settings
  settings = start.settings

  legal : Legal settings
  legal = legal_settings settings (good_legal start sending.good)

  sizes : Sizes settings
  sizes = frame_of_is settings (good_legal start sending.good)

  entries : (f k : ℕ) → get_or (coder_at start packets f).lines k 0 < 2
  entries = lines_hold start packets legal sizes (given_of_is start sending.good).entries

  abbrev carriers : ℕ → List ℕ
  carriers f = carriers_at start packets f

  -- ---- the pairs of a call

  abbrev fresh : List ℕ → List ℕ → ℕ → List ℕ → Receiving
  fresh memory lines register held = receiving_state_from settings 0 memory lines register held

  abbrev later : ℕ → List ℕ → ℕ → Receiving
  later f memory register =
      receiving_state_from settings 1 memory (lines_waiting settings.v (last_carriers (carriers f))) register
      (held_after settings (carriers f))

  pairs_first : (memory lines : List ℕ) (register : ℕ) (held : List ℕ)
      → PairsOf (stream_from start packets 0) 0 (P settings - 1)
      (call_pairs (fresh memory lines register held) (carriers 0))
  pairs_first memory lines register held =
      first_pairs settings legal sizes (coder_at start packets 0).memory (coder_at start packets 0).register
      (coder_at start packets 0).lines (stream_from start packets 0).sent (entries 0) (carriers 0)
      (carried_first start packets legal sizes 0) memory lines register held

  pairs_later : (f : ℕ) (memory : List ℕ) (register : ℕ)
      → PairsOf (stream_from start packets f) (P settings - 1) (P settings)
      (call_pairs (later f memory register) (carriers (suc f)))
  pairs_later f memory register =
      later_pairs settings legal sizes (coder_at start packets f).memory (coder_at start packets f).register
      (coder_at start packets f).lines (stream_from start packets f).sent (entries f) (carriers f) (carriers (suc f))
      (carried_first start packets legal sizes f) (carried_next start packets legal sizes f) memory register

  -- ---- a call

  some : 0 < P settings - 1
  some = omega (arith, sizes.packets_least)

  -- the state behind a call of so many words
  abbrev state_after : ℕ → Receiving → ℕ → Receiving
  state_after f state words =
      later f (memory_at (call_pairs state (carriers f)) state.memory state.register words)
      (register_before (call_pairs state (carriers f)) state.register words)

  first_behind : (wrong : ℕ) (memory lines : List ℕ) (register : ℕ) (held : List ℕ)
      → Taken (stream_from start packets 0) wrong 0 (P settings - 1)
      (call_pairs (fresh memory lines register held) (carriers 0)) register
      → Hears (stream_from start packets 0) wrong 0 memory
      → BehindBy wrong start packets 0 (receiving_state_behind (fresh memory lines register held) (carriers 0))
  first_behind wrong memory lines register held taken hears =
      unfold receiving_state_behind words_of in let at = fresh memory lines register held in
      let pairs = call_pairs at (carriers 0) in
      let count = P settings - 1 in
      let words : count + 0 ≡ count = omega arith in
      let there : 0 + count ≡ count = omega arith in
      record {
        memory = memory_at pairs memory register count;
        register = register_before pairs register count;
        state_is = ap (state_after 0 at) words;
        register_is = taken.behind_is ∙ ap (register_behind (stream_from start packets 0)) there;
        hears =
            subst (λ (w : ℕ). Hears (stream_from start packets 0) wrong w (memory_at pairs memory register count)) there
            (hears_on (stream_from start packets 0) wrong 0 count pairs register taken memory hears);
      }

  -- the words of a later call are taken from the right register on
  pub later_taken : (wrong f : ℕ) (state : Receiving) (b : BehindBy wrong start packets f state)
      → Taken (stream_from start packets f) wrong (P settings - 1) (P settings)
      (call_pairs (later f b.memory b.register) (carriers (suc f))) b.register
  later_taken wrong f state b =
      taken_on (stream_from start packets f) (P settings - 1) (P settings)
      (call_pairs (later f b.memory b.register) (carriers (suc f))) (pairs_later f b.memory b.register)
      wrong b.register (omega (arith, some)) b.register_is

  later_behind : (wrong f : ℕ) → wrong ≤ 12 → (state : Receiving) → BehindBy wrong start packets f state
      → BehindBy 0 start packets (suc f) (receiving_state_behind state (carriers (suc f)))
  later_behind wrong f few state b =
      unfold receiving_state_behind words_of in let at = later f b.memory b.register in
      let count = P settings in
      let words : count - 1 + 1 ≡ count = omega (arith, some) in
      let pairs = call_pairs at (carriers (suc f)) in
      let taken = later_taken wrong f state b in
      let memory = memory_at pairs b.memory b.register count in
      let there : count - 1 + count ≡ count + (count - 1) = omega arith in
      record {
        memory = memory;
        register = register_before pairs b.register count;
        state_is = ap (λ (s : Receiving). receiving_state_behind s (carriers (suc f))) b.state_is
            ∙ ap (state_after (suc f) at) words;
        register_is = taken.behind_is ∙ ap (register_behind (stream_from start packets f)) there
            ∙ register_on start packets legal sizes f (count - 1);
        hears =
            hears_next start packets legal sizes wrong f (count - 1) memory (omega (arith, some))
            (subst (λ (w : ℕ). Hears (stream_from start packets f) wrong w memory) there
            (hears_on (stream_from start packets f) wrong (count - 1) count pairs b.register taken b.memory
            b.hears));
      }

  -- ---- in step

  -- the words of a first call in step are taken from the right register on
  pub first_taken : (state : Receiving) (b : Before start packets state)
      → Taken (stream_from start packets 0) 0 0 (P settings - 1)
      (call_pairs (fresh b.memory b.lines b.register b.held) (carriers 0)) b.register
  first_taken state b =
      taken_on (stream_from start packets 0) 0 (P settings - 1)
      (call_pairs (fresh b.memory b.lines b.register b.held) (carriers 0))
      (pairs_first b.memory b.lines b.register b.held) 0 b.register some b.follows.register_is

  pub call_keeps_step : (f : ℕ) (state : Receiving) → InStep start packets f state
      → InStep start packets (suc f) (receiving_state_behind state (carriers_at start packets f))
  call_keeps_step zero state b =
      in_step_of start packets 0 (receiving_state_behind state (carriers 0))
      (subst⁻¹ (λ (s : Receiving). BehindBy 0 start packets 0 (receiving_state_behind s (carriers 0))) b.state_is
      (first_behind 0 b.memory b.lines b.register b.held (first_taken state b)
      (hears_of (stream_from start packets 0) 0 b.memory b.register b.follows)))
  call_keeps_step (suc f) state b =
      in_step_of start packets (suc f) (receiving_state_behind state (carriers (suc f)))
      (later_behind 0 f (omega arith) state (behind_of start packets f state b))

  -- ---- a fresh receiver

  abbrev zeros : List ℕ
  zeros = replicate 1122 0

  zeros_held : zeros ≡ memory_after waits_back zeros (arriving (stream_from start packets 0)) 0
  zeros_held = memory_none waits_back back_fits zeros (arriving (stream_from start packets 0))
      (length-replicate {A = ℕ} 1122 0)

  pub fresh_in_step : start.register ≡ 0 → InStep start packets 0 (fresh_receiving_state settings)
  fresh_in_step zero_is =
      unfold fresh_receiving_state register_behind coder_at in record {
        memory = zeros;
        lines = replicate 360 0;
        register = 0;
        held = replicate 3072 0;
        state_is = refl;
        follows = record {
          register_is =
              sym (register_start start.register (message_bit (stream_from start packets 0))
              ∙ ap (λ (r : ℕ). r % 64) zero_is);
          before = zeros;
          memory_is = zeros_held;
        };
      }

  pub run_in_step : start.register ≡ 0 → (f : ℕ) → InStep start packets f (receiver_at start packets f)
  unfolding receiver_at
  run_in_step zero_is zero = fresh_in_step zero_is
  run_in_step zero_is (suc f) = call_keeps_step f (receiver_at start packets f) (run_in_step zero_is f)

  -- ---- a fresh receiver that joins

  pub joining_taken : (memory lines : List ℕ) (held : List ℕ)
      → Taken (stream_from start packets 0) 6 0 (P settings - 1)
      (call_pairs (fresh memory lines 0 held) (carriers 0)) 0
  joining_taken memory lines held =
      taken_joining (stream_from start packets 0) 0 (P settings - 1)
      (call_pairs (fresh memory lines 0 held) (carriers 0))
      (pairs_first memory lines 0 held) legal.rate refl some 0 (omega arith)

  pub fresh_hears : Hears (stream_from start packets 0) 6 0 zeros
  fresh_hears =
      record {
        before = zeros;
        heard = arriving (stream_from start packets 0);
        heard_is = λ b late lt. refl;
        memory_is = zeros_held;
      }

  pub run_joins : (f : ℕ) → BehindBy (wrong_behind f) start packets f (receiver_at start packets (suc f))
  unfolding receiver_at fresh_receiving_state
  run_joins zero =
      first_behind 6 zeros (replicate 360 0) 0 (replicate 3072 0)
      (joining_taken zeros (replicate 360 0) (replicate 3072 0)) fresh_hears
  run_joins (suc f) = later_behind (wrong_behind f) f (wrong_few f) (receiver_at start packets (suc f)) (run_joins f)
