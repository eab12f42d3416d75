-- A frame, word by word: what `code_frame` holds before word p, and what it leaves.
--     Walked, At                        what holds before word p
--     walked_opened, at_opened          before the first word
--     walked_word, walked_more          word p in the stream, and one word more
--     at_more                           one word more
--     written_most                      a word's carriers fit
--     closed_state, closed_carriers     behind the last
use mathlib.Core.Path.{◌≡◌, refl, sym, ap, ap₂, ◌∙◌, subst}
use mathlib.Core.List.{List}
use Prim.Native.Nat.{ℕ, ◌+◌, ◌*◌, ◌/◌, ◌%◌, ◌<◌, ◌≤◌}
use native.Mathlib.Nat.{zero-div, mul-zero, mul-le-mul_left}
use native.Mathlib.Omega.{arith}
use lib.ListN.{length, get_or}
use Rattle.lists.proofs.Tabs.{tab_ext}
use Rattle.settings.specs.Sizes.{packets_by_rate, P, C}
use Rattle.rules.specs.Bytes.{waits_there, word_out, memory_after}
use Rattle.rules.specs.Word.{packet_at, sent_word}
use Rattle.rules.specs.Dispersal.{dispersed}
use Rattle.dispersal.specs.Register.{generator_at, generator_after, sequence_from, added}
use Rattle.dispersal.proofs.Words.{register_behind, dispersed_at}
use Rattle.convolutional_code.specs.CodeTable.{turned}
use Rattle.puncturing.specs.Block.{block_table}
use Rattle.bit_interleaver.specs.Symbols.{symbol_at}
use Rattle.dispersing_interleaver.specs.Stream.{stream_after}
use Rattle.dispersing_interleaver.proofs.Streams.{StreamAt, MessageIn, WordAt, message_in, stream_more}
use Rattle.word_coder.specs.declared.Coded.{Coded}
use Rattle.word_coder.specs.Step.{step_of}
use Rattle.rules.proofs.Counts.{per_block, whole_blocks}
use Rattle.rules.specs.Frame.{Frame, kept_bit_of, carrier_value, sent_byte}
use Rattle.word_coder.proofs.Runs.{RunAt, Stepped, word_stepped}
use Rattle.rules.proofs.Sizes.{blocks_mono, frame_symbols, word_inside}
use Rattle.word_coder.proofs.Whole.{stream_opened, run_opened, CarriersAt, carriers_step, register_closed}
use Rattle.word_coder.proofs.Whole.{lines_closed}
use Rattle.coding_state.specs.declared.State.{State}
use Rattle.coding_state.proofs.Good.{Given}
use Rattle.coder.specs.declared.frame.Progress.{Progress}
use Rattle.coding_answers.specs.Coding.{frame_of, carriers_of_frame, coding_state_behind}
use Rattle.coder.specs.Steps.{opened_progress, Worded, coding_closed}

abbrev size : State → ℕ
size state = packets_by_rate state.settings.rate

-- how many symbols the words before word p have
abbrev pub symbols_before : State → ℕ → ℕ
symbols_before state p = per_block state.settings.v * whole_blocks (size state) p

-- the register of rule 2, and the memory and the stream of rule 3
pub record Walked (state : State) (packets : List ℕ) (p register : ℕ) (memory stream : List ℕ) : Type 0 where
  pub register_is : register ≡ generator_at p
  pub stream_at : StreamAt (frame_of state packets) p memory stream

-- the run of rules 4 to 6, and the carriers
pub record At (state : State) (packets : List ℕ) (p : ℕ) (progress : Progress) (carriers : List ℕ) : Type 0 where
  pub run_at : RunAt (frame_of state packets) p progress.run
  pub written_is : progress.written ≡ symbols_before state p
  pub carriers_at : CarriersAt (frame_of state packets) (C state.settings) progress.written carriers

-- ---- rules 2 and 3

module _ (state : State) (packets : List ℕ) where
  pub walked_opened : length state.memory ≡ 1122 → (register : ℕ) → register ≡ generator_at 0
      → (stream : List ℕ) → get_or stream 207 0 ≡ turned 6 state.register
      → Walked state packets 0 register state.memory stream
  unfolding frame_of
  walked_opened long register r stream e =
      record { register_is = r; stream_at = stream_opened (frame_of state packets) long stream e }

  -- word p, dispersed, is the frame's
  word_at : (p : ℕ) (word : List ℕ) → word ≡ sent_word (packet_at packets p)
      → WordAt (frame_of state packets) p (added word (sequence_from (generator_at p)))
  word_at p word e k lt =
      unfold frame_of sent_byte in let place : (204 * p + k) / 204 ≡ p = omega arith in
      let byte : (204 * p + k) % 204 ≡ k = omega arith in
      ap (λ (l : List ℕ). get_or l k 0) (dispersed_at p word) ∙ ap (λ (l : List ℕ). get_or (dispersed p l) k 0) e
      ∙ sym (ap₂ (λ (q j : ℕ). get_or (dispersed q (sent_word (packet_at packets q))) j 0) place byte)

  module _ (p register : ℕ) (memory stream : List ℕ) (at : Walked state packets p register memory stream)
      (word : List ℕ) (sent : word ≡ sent_word (packet_at packets p))
      (sequence : List ℕ) (from : sequence ≡ sequence_from register)
      (stream' : List ℕ) (walked : stream'
      ≡ stream_after stream (word_out waits_there memory (added word sequence))) where
    sequence_is : sequence ≡ sequence_from (generator_at p)
    sequence_is = from ∙ ap sequence_from at.register_is

    goes_in : WordAt (frame_of state packets) p (added word sequence)
    goes_in = subst (λ (s : List ℕ). WordAt (frame_of state packets) p (added word s)) (sym sequence_is)
        (word_at p word sent)

    pub walked_word : MessageIn (frame_of state packets) p stream'
    walked_word =
        message_in (frame_of state packets) p memory stream at.stream_at (added word sequence) goes_in stream' walked

    pub walked_more : (register' : ℕ) → register' ≡ generator_after sequence
        → (memory' : List ℕ) → memory' ≡ memory_after waits_there memory (λ b. get_or (added word sequence) b 0) 1
        → Walked state packets (p + 1) register' memory' stream'
    walked_more register' r memory' m =
        record {
          register_is = r ∙ ap generator_after sequence_is ∙ register_behind p;
          stream_at =
              stream_more (frame_of state packets) p memory stream at.stream_at (added word sequence) goes_in memory'
              stream' m walked;
        }

-- ---- rules 4 to 6

module _ (state : State) (packets : List ℕ) (given : Given state) where
  abbrev frame : Frame
  frame = frame_of state packets

  pub at_opened : (progress : Progress) → progress ≡ opened_progress state
      → (carriers : List ℕ) → length carriers ≡ C state.settings → At state packets 0 progress carriers
  at_opened progress e carriers room =
      unfold opened_progress frame_of in subst (λ (made : Progress). At state packets 0 made carriers) (sym e)
      (record {
        run_at =
            run_opened frame given.legal.bits given.entries _ (record { left_is = refl; history_is = refl });
        written_is =
            sym (ap (λ (n : ℕ). per_block state.settings.v * n) (zero-div (size state))
            ∙ mul-zero (per_block state.settings.v));
        carriers_at = record { long = room; done = λ k lt. absurd (omega arith) };
      })

  module _ (p : ℕ) (lt : p < P state.settings) (progress : Progress) (carriers : List ℕ)
      (at : At state packets p progress carriers)
      (stream : List ℕ) (holds : MessageIn (frame_of state packets) p stream) where
    abbrev coded : Coded
    coded =
        step_of (block_table state.settings.rate) state.settings.rate state.settings.v progress.run stream

    stepped : Stepped frame p coded
    unfolding frame_of
    stepped =
        word_stepped frame given.legal.rate given.legal.bits given.entries p progress.run at.run_at
        stream holds coded refl

    inside : progress.written + coded.count ≤ C state.settings
    inside =
        unfold frame_of in rw (ap (λ (n : ℕ). n + coded.count) at.written_is ∙ stepped.next)
        (word_inside state.settings given.legal p lt)

    more : (after : Progress) (carriers' : List ℕ)
        → Worded (block_table state.settings.rate) state.settings.rate state.settings.v progress stream
        carriers after carriers' → At state packets (p + 1) after carriers'
    more after carriers' done =
        unfold frame_of in record {
          run_at = subst (RunAt frame (p + 1)) (sym done.run_is) stepped.run_at;
          written_is = done.written_is ∙ ap (λ (n : ℕ). n + coded.count) at.written_is ∙ stepped.next;
          carriers_at =
              subst (λ (n : ℕ). CarriersAt frame (C state.settings) n carriers') (sym done.written_is)
              (carriers_step frame given.legal.bits given.entries at.carriers_at coded.symbols
              coded.count (λ i less. stepped.symbols_at i less
              ∙ ap (λ (n : ℕ). symbol_at state.settings.v state.lines (kept_bit_of frame) (n + i))
              (sym at.written_is)) (omega (arith, stepped.few)) inside carriers' done.carriers_are);
        }

    pub at_more : (table : List ℕ) → table ≡ block_table state.settings.rate
        → (after : Progress) (carriers' : List ℕ)
        → Worded table state.settings.rate state.settings.v progress stream carriers after carriers'
        → At state packets (p + 1) after carriers'
    at_more table e after carriers' done =
        more after carriers'
        (subst (λ (l : List ℕ). Worded l state.settings.rate state.settings.v progress stream carriers after
        carriers') e done)

  pub written_most : (p : ℕ) → p < P state.settings → (progress : Progress) (carriers : List ℕ)
      → At state packets p progress carriers → progress.written ≤ 1018368
  written_most p lt progress carriers at =
      let before = mul-le-mul_left (per_block state.settings.v)
      (blocks_mono given.legal.rate p (p + 1) (omega arith)) in
      omega (arith, at.written_is, before, word_inside state.settings given.legal p lt, given.most)

  -- ---- behind the last word

  module _ (progress : Progress) (carriers : List ℕ)
      (at : At state packets (P state.settings) progress carriers) where
    pub closed_state : (register : ℕ) (memory stream : List ℕ)
        → Walked state packets (P state.settings) register memory stream
        → coding_closed state progress memory (get_or stream 207 0) ≡ coding_state_behind state packets
    unfolding coding_closed coding_state_behind frame_of
    closed_state register memory stream walked =
        let all = frame_symbols state.settings given.legal in
        let held = walked.stream_at.memory_is in
        let last = register_closed frame (P state.settings) memory stream walked.stream_at in
        let lines = lines_closed frame given.legal.bits given.entries (P state.settings) progress.run
        at.run_at (C state.settings) all in
        rw (held, last, lines) refl

    pub closed_carriers : carriers ≡ carriers_of_frame state packets
    closed_carriers =
        unfold carriers_of_frame in let all = at.written_is ∙ frame_symbols state.settings given.legal in
        tab_ext (C state.settings) (carrier_value frame) carriers at.carriers_at.long
        (λ k lt. at.carriers_at.done k (omega (arith, all)))
