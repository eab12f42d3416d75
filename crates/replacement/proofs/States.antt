-- The state that `add_difference` gives.
--     packets_few, carriers_few     the sizes of a good state's frame
--     ended_of, ended_behind        where the loop ends
--     closed_state                  what is held behind the last word, added, is the replaced state
--     state_put                     the same from the parts that `added` makes
use mathlib.Core.Path.{◌≡◌, refl, ◌∙◌}
use mathlib.Core.Bool.{true}
use mathlib.Core.List.{List}
use mathlib.Core.Logic.{◌⊎◌, inl, inr}
use Prim.Native.Nat.{ℕ, ◌+◌, ◌<◌, ◌≤◌}
use native.Mathlib.Omega.{arith}
use lib.Bits.{bit_xor}
use lib.ListN.{length, get_or}
use Rattle.settings.specs.Sizes.{P, C}
use Rattle.settings.proofs.Frame.{frame_of_is}
use Rattle.settings.proofs.LegalSettings.{Legal}
use Rattle.convolutional_code.specs.CodeTable.{turned}
use Rattle.bit_interleaver.specs.Symbols.{entries_of}
use Rattle.word_coder.specs.declared.Run.{Run}
use Rattle.rules.specs.Frame.{Frame, memory_behind, register_behind, lines_behind}
use Rattle.word_coder.proofs.Whole.{register_closed, lines_closed}
use Rattle.coding_state.specs.declared.State.{State}
use Rattle.coding_state.specs.State.{good_coding_state}
use Rattle.coding_state.proofs.Good.{good_legal}
use Rattle.coding_answers.specs.Replacement.{added_to, difference_frame, replaced_state}
use Rattle.replacement.specs.Steps.{state_added}
use Rattle.coding_answers.proofs.Again.{difference_entries}
use Rattle.replacement.proofs.Silent.{symbols_before}
use Rattle.replacement.proofs.Frames.{At, Ended, memory_same, register_same, lines_same}
use Rattle.replacement.proofs.Walks.{Walked}

pub packets_few : (state : State) → good_coding_state state ≡ true → P state.settings ≤ 3276
packets_few state good = (frame_of_is state.settings (good_legal state good)).packets_most

pub carriers_few : (state : State) → good_coding_state state ≡ true → C state.settings ≤ 1018368
carriers_few state good = (frame_of_is state.settings (good_legal state good)).carriers_most

pub ended_of : (state : State) (number count last : ℕ) → count ≡ P state.settings
    → (last ≡ count) ⊎ (last ≡ number + 13) → Ended state.settings number last
ended_of state number count last all (inl e) = inl (e ∙ all)
ended_of state number count last all (inr e) = inr e

pub ended_behind : (state : State) (number last : ℕ) → number < P state.settings
    → Ended state.settings number last → number ≤ last
ended_behind state number last lt (inl all) = omega arith
ended_behind state number last lt (inr done) = omega arith

module _ (state : State) (legal : Legal state.settings) (number : ℕ) (old new carriers : List ℕ) (last place : ℕ)
    (most : last ≤ P state.settings) (room : length carriers ≡ C state.settings) (run : Run) (now : List ℕ)
    (at : At state.settings number old new carriers last place run now) (memory stream word : List ℕ)
    (walked : Walked state.settings number old new last memory stream word)
    (ended : Ended state.settings number last) where
  abbrev difference : Frame
  difference = difference_frame state.settings number old new

  entries : (k : ℕ) → get_or difference.lines k 0 < 2
  entries = difference_entries state.settings number old new

  memory_is : memory ≡ memory_behind (difference_frame state.settings number old new) (P state.settings)
  memory_is =
      walked.stream_at.memory_is
      ∙ memory_same state.settings legal number old new carriers last place most room run now at ended

  register_is : turned 6 (get_or stream 207 0)
      ≡ register_behind (difference_frame state.settings number old new) (P state.settings)
  register_is =
      register_closed difference last memory stream walked.stream_at
      ∙ register_same state.settings legal number old new carriers last place most room run now at ended

  lines_are : entries_of state.settings.v run.history
      ≡ lines_behind (difference_frame state.settings number old new) (C state.settings)
  unfolding difference_frame
  lines_are =
      lines_closed difference legal.bits entries last run at.run_at (symbols_before state.settings last) refl
      ∙ lines_same state.settings legal number old new carriers last place most room run now at ended

  pub closed_state : state_added state run memory (get_or stream 207 0) ≡ replaced_state state number old new
  closed_state = unfold state_added replaced_state in rw (memory_is, register_is, lines_are) refl

pub state_put : (state : State) (run : Run) (waiting memory delayed lines : List ℕ) (last register : ℕ)
    → length state.memory ≡ 1122 → length state.lines ≡ 360
    → memory ≡ added_to (length state.memory) state.memory waiting
    → delayed ≡ entries_of state.settings.v run.history
    → lines ≡ added_to (length state.lines) state.lines delayed
    → register ≡ turned 6 last → ◌≡◌ {A = State}
    (record {
      settings = state.settings;
      memory = memory;
      register = bit_xor state.register register;
      lines = lines;
    }) (state_added state run waiting last)
state_put state run waiting memory delayed lines last register memory_long lines_long m d l r =
    unfold state_added in rw (m, l, d, r, memory_long, lines_long) refl
