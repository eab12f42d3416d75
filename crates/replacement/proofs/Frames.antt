-- The difference frame, word by word: what `add_difference` holds before word p, and what it leaves.
--     At                                         what holds before word p
--     at_opened                                  before the packet's word
--     inside, at_more                            one word more, which the stream holds
--     Ended, closed_carriers                     behind the last word that is gone through
--     memory_same, register_same, lines_same     there the state holds what it holds behind the frame's last
use mathlib.Core.Path.{◌≡◌, refl, sym, ap, ap₂, ◌∙◌, subst}
use mathlib.Core.List.{List}
use mathlib.Core.Logic.{◌⊎◌, inl, inr}
use Prim.Native.Nat.{ℕ, ◌+◌, ◌-◌, ◌<◌, ◌≤◌}
use native.Mathlib.Nat.{mul-le-mul_left}
use native.Mathlib.Decide.{dec_lt}
use native.Mathlib.Omega.{arith}
use lib.Bits.{bit_xor, xor_zero_r}
use lib.ListN.{length, get_or, get_or-eq_default}
use Rattle.bit_interleaver.proofs.WidthsMade.{v_legal}
use Rattle.lists.proofs.FillOver.{Over, over_start, over_end}
use Rattle.settings.specs.declared.Settings.{Settings}
use Rattle.settings.specs.Sizes.{P, C}
use Rattle.settings.proofs.LegalSettings.{Legal}
use Rattle.puncturing.specs.Block.{block_table}
use Rattle.bit_interleaver.specs.Symbols.{carrier_from, written, add_placed, symbol_at}
use Rattle.bit_interleaver.proofs.Joining.{carrier_joined}
use Rattle.bit_interleaver.proofs.Writing.{add_writes, written_carrier, written_stays, length_written}
use Rattle.word_coder.specs.declared.Run.{Run}
use Rattle.word_coder.specs.declared.Coded.{Coded}
use Rattle.rules.proofs.Counts.{per_block}
use Rattle.word_coder.specs.Step.{step_of}
use Rattle.rules.specs.Frame.{Frame, kept_bit_of, carrier_value, memory_behind, register_behind, lines_behind}
use Rattle.rules.proofs.Added.{kept_bits}
use Rattle.dispersing_interleaver.proofs.Streams.{MessageIn}
use Rattle.word_coder.proofs.Runs.{RunAt, Stepped, word_stepped}
use Rattle.rules.proofs.Sizes.{blocks_mono, frame_symbols, word_inside}
use Rattle.coding_answers.specs.Replacement.{difference_frame, replaced_carriers}
use Rattle.replacement.specs.Steps.{quiet_run}
use Rattle.coding_answers.proofs.Again.{difference_entries}
use Rattle.coding_answers.proofs.Quiet.{memory_after, register_after}
use Rattle.replacement.proofs.Silent.{symbols_before, run_quiet, carrier_before, carrier_after, lines_still}

-- the carriers with the difference frame's added
abbrev replaced_at : Settings → ℕ → List ℕ → List ℕ → List ℕ → ℕ → ℕ
replaced_at settings number old new carriers k =
    bit_xor (get_or carriers k 0) (carrier_value (difference_frame settings number old new) k)

-- the run of rules 4 to 6, and the carriers
pub record At (settings : Settings) (number : ℕ) (old new carriers : List ℕ) (p place : ℕ) (run : Run) (now : List ℕ)
    : Type 0 where
  pub run_at : RunAt (difference_frame settings number old new) p run
  pub place_is : place ≡ symbols_before settings p
  pub carriers_at : Over (length carriers) (replaced_at settings number old new carriers) carriers place now

-- behind the frame's last word, or the thirteenth from the packet's on
abbrev pub Ended : Settings → ℕ → ℕ → Type 0
Ended settings number last = (last ≡ P settings) ⊎ (last ≡ number + 13)

module _ (settings : Settings) (legal : Legal settings) (number : ℕ) (old new carriers : List ℕ) where
  abbrev difference : Frame
  difference = difference_frame settings number old new

  entries : (k : ℕ) → get_or difference.lines k 0 < 2
  entries = difference_entries settings number old new

  -- ---- before the packet's word

  -- nothing is added to a carrier on which the difference frame has no bit
  stays : (k : ℕ) → carrier_value (difference_frame settings number old new) k ≡ 0
      → get_or carriers k 0 ≡ replaced_at settings number old new carriers k
  stays k none = sym (ap (bit_xor (get_or carriers k 0)) none ∙ xor_zero_r (get_or carriers k 0))

  pub at_opened : (run : Run) → run ≡ quiet_run settings.rate number → (place : ℕ)
      → place ≡ symbols_before settings number → At settings number old new carriers number place run carriers
  at_opened run quiet place first =
      record {
        run_at = subst (RunAt difference number) (sym quiet)
            (run_quiet settings legal.rate legal.bits number old new);
        place_is = first;
        carriers_at =
            over_start (length carriers) (replaced_at settings number old new carriers) carriers place refl
            (λ k lt. stays k (carrier_before settings legal.rate legal.bits number old new k (omega arith)));
      }

  -- ---- a word more

  module _ (p place : ℕ) (lt : p < P settings) (room : length carriers ≡ C settings) (run : Run) (now : List ℕ)
      (at : At settings number old new carriers p place run now)
      (stream : List ℕ) (holds : MessageIn (difference_frame settings number old new) p stream)
      (table : List ℕ) (known : table ≡ block_table settings.rate) (coded : Coded)
      (step : coded ≡ step_of table settings.rate settings.v run stream) where
    stepped : Stepped (difference_frame settings number old new) p coded
    unfolding difference_frame
    stepped =
        word_stepped difference legal.rate legal.bits entries p run at.run_at stream holds coded
        (step ∙ ap (λ (l : List ℕ). step_of l settings.rate settings.v run stream) known)

    place_next : place + coded.count ≡ symbols_before settings (p + 1)
    place_next = unfold difference_frame in ap (λ (n : ℕ). n + coded.count) at.place_is ∙ stepped.next

    pub inside : place + coded.count ≤ C settings
    inside = rw place_next (word_inside settings legal p lt)

    symbols_are : (i : ℕ) → i < 120 + coded.count
        → get_or coded.symbols i 0 ≡ symbol_at difference.v difference.lines (kept_bit_of difference) (place + i)
    symbols_are i less =
        unfold difference_frame in stepped.symbols_at i less
        ∙ ap (λ (n : ℕ). symbol_at difference.v difference.lines (kept_bit_of difference) (n + i))
        (sym at.place_is)

    carrier_is : (j : ℕ) → j < coded.count → carrier_from settings.v coded.symbols j
        ≡ carrier_value (difference_frame settings number old new) (place + j)
    unfolding carrier_value difference_frame
    carrier_is j less =
        carrier_joined settings.v difference.lines (kept_bit_of difference) entries (kept_bits difference)
        coded.symbols place coded.count symbols_are j less

    -- the carriers after the word's are added
    abbrev more : List ℕ
    more = written bit_xor settings.v coded.symbols place coded.count now

    long : length now ≡ C settings
    long = at.carriers_at.len ∙ room

    more_done : (k : ℕ) → k < place + coded.count → get_or more k 0 ≡ replaced_at settings number old new carriers k
    more_done k less = elim (dec_lt k place) [
      | yes h ↦
          written_stays bit_xor settings.v coded.symbols place coded.count now k
          (omega (arith, long, inside)) (inl h) ∙ at.carriers_at.done k h
      | no h ↦
          let here : place + (k - place) ≡ k = omega arith in
          ap (λ (j : ℕ). get_or more j 0) (sym here)
          ∙ written_carrier bit_xor settings.v coded.symbols place coded.count now (omega (arith, long, inside))
          (k - place) (omega arith) ∙ ap₂ bit_xor (at.carriers_at.rest (place + (k - place)) (omega arith))
          (carrier_is (k - place) (omega arith)) ∙ ap (replaced_at settings number old new carriers) here
    ]

    more_rest : (k : ℕ) → place + coded.count ≤ k → get_or more k 0 ≡ get_or carriers k 0
    more_rest k le = elim (dec_lt k (length now)) [
      | yes h ↦
          written_stays bit_xor settings.v coded.symbols place coded.count now k h (inr le)
          ∙ at.carriers_at.rest k (omega arith)
      | no h ↦
          get_or-eq_default more 0 {n = k}
          (rw (length_written bit_xor settings.v coded.symbols place coded.count now) (omega arith))
          ∙ sym (get_or-eq_default carriers 0 {n = k} (omega (arith, at.carriers_at.len)))
    ]

    pub at_more : (after : List ℕ) → after ≡ add_placed settings.v coded.symbols place coded.count now
        → At settings number old new carriers (p + 1) (place + coded.count) coded.run after
    at_more after e =
        record {
          run_at = stepped.run_at;
          place_is = place_next;
          carriers_at =
              subst (Over (length carriers) (replaced_at settings number old new carriers) carriers
              (place + coded.count))
              (add_writes settings.v place coded.count now coded.symbols settings.v refl
              (v_legal legal.bits) (omega (arith, stepped.few)) (omega (arith, long, inside)) ∙ sym e)
              (record {
                len = length_written bit_xor settings.v coded.symbols place coded.count now
                    ∙ at.carriers_at.len;
                done = more_done;
                rest = more_rest;
              });
        }

  -- ---- behind the last word that is gone through

  module _ (last place : ℕ) (most : last ≤ P settings) (room : length carriers ≡ C settings) (run : Run)
      (now : List ℕ) (at : At settings number old new carriers last place run now) where
    pub closed_carriers : Ended settings number last → now ≡ replaced_carriers settings number old new carriers
    unfolding replaced_carriers
    closed_carriers (inl all) =
        let whole : place ≡ C settings
        = at.place_is ∙ ap (symbols_before settings) all ∙ frame_symbols settings legal in
        over_end (length carriers) (replaced_at settings number old new carriers) carriers at.carriers_at
        (λ k le lt. absurd (omega arith))
    closed_carriers (inr done) =
        let first : place ≡ symbols_before settings (number + 13) = at.place_is ∙ ap (symbols_before settings) done in
        over_end (length carriers) (replaced_at settings number old new carriers) carriers at.carriers_at
        (λ k le lt. stays k (carrier_after settings legal.rate legal.bits number old new k (omega arith)))

    pub memory_same : Ended settings number last → memory_behind (difference_frame settings number old new) last
        ≡ memory_behind (difference_frame settings number old new) (P settings)
    memory_same (inl all) = ap (memory_behind difference) all
    memory_same (inr done) =
        sym (memory_after settings number old new last (omega arith))
        ∙ memory_after settings number old new (P settings) (omega arith)

    pub register_same : Ended settings number last
        → register_behind (difference_frame settings number old new) last
        ≡ register_behind (difference_frame settings number old new) (P settings)
    register_same (inl all) = ap (register_behind difference) all
    register_same (inr done) =
        register_after settings number old new last (omega arith)
        ∙ sym (register_after settings number old new (P settings) (omega arith))

    pub lines_same : Ended settings number last
        → lines_behind (difference_frame settings number old new) (symbols_before settings last)
        ≡ lines_behind (difference_frame settings number old new) (C settings)
    lines_same (inl all) =
        ap (lines_behind difference) (ap (symbols_before settings) all ∙ frame_symbols settings legal)
    lines_same (inr done) =
        let far : symbols_before settings (number + 13) ≤ symbols_before settings (P settings)
        = mul-le-mul_left (per_block settings.v)
        (blocks_mono legal.rate (number + 13) (P settings) (omega arith)) in
        ap (lines_behind difference) (ap (symbols_before settings) done)
        ∙ lines_still settings legal.rate legal.bits number old new (symbols_before settings (number + 13))
        (C settings) (omega arith) (omega (arith, frame_symbols settings legal))
