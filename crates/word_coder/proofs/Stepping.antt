-- The step of a word, put together.
--     StepSizes, sizes_of, count_fits     a rate's block is 12 to 21 message bits, fewer are left, and the symbols fit
--     step_idle, step_done                with a number that is no rate, and with a rate
use mathlib.Core.Path.{◌≡◌, refl, sym, ◌∙◌}
use mathlib.Core.List.{List}
use Prim.Native.Nat.{ℕ, ◌+◌, ◌*◌, ◌/◌, ◌%◌, ◌<◌, ◌≤◌}
use native.Mathlib.Nat.{mod-lt}
use native.Mathlib.Omega.{arith}
use lib.ListN.{get_or}
use Rattle.lists.specs.Tab.{tab}
use Rattle.settings.specs.Sizes.{packets_by_rate}
use Rattle.word_coder.specs.declared.Run.{Run}
use Rattle.word_coder.specs.declared.Coded.{Coded}
use Rattle.word_coder.specs.Step.{kept_of_block, only_history, symbols_behind, stepped_by, stepped, idle, step_of}
use Rattle.rules.proofs.Counts.{per_block, blocks_in}
use Rattle.word_coder.proofs.Numbers.{count_few, size_none, size_some}

-- what holds of the block's length and of the message bits that are left
pub record StepSizes (size left : ℕ) : Type 0 where
  pub least : 12 ≤ size
  pub most : size ≤ 21
  pub less : left % size < size

pub sizes_of : (rate size left : ℕ) → size ≡ packets_by_rate rate → (size ≡ 0 → ⊥) → StepSizes size left
sizes_of rate size left e some =
    let sized = size_some rate (λ none. some (e ∙ none)) in
    record { least = omega arith; most = omega arith; less = mod-lt left (omega arith) }

pub count_fits : {size left : ℕ} → StepSizes size left → (v each : ℕ) → each ≡ per_block v
    → (left % size + 1632) / size * each ≤ 1632
count_fits {size} {left} sizes = count_few size (left % size) sizes.least sizes.less

module _ (table : List ℕ) (rate v : ℕ) (run : Run) (stream : List ℕ) where
  pub step_idle : (size : ℕ) (symbols : List ℕ) → size ≡ packets_by_rate rate → size ≡ 0
      → symbols ≡ only_history run.history
      → ◌≡◌ {A = Coded} (record { run = run; symbols = symbols; count = 0 }) (step_of table rate v run stream)
  step_idle size symbols is none e = unfold step_of idle in rw (size_none rate (sym is ∙ none), e) refl

  pub step_done : (size each blocks : ℕ) (symbols history : List ℕ) → size ≡ packets_by_rate rate
      → (size ≡ 0 → ⊥) → each ≡ per_block v → blocks ≡ (run.left % size + 1632) / size
      → symbols
      ≡ symbols_behind (kept_of_block table size (run.left % size) stream) (blocks_in size (run.left % size)) v
      run.history
      → history ≡ tab 120 (λ i. get_or symbols (blocks * each + i) 0)
      → ◌≡◌ {A = Coded}
      (record {
        run = record { left = (run.left % size + 1632) % size; history = history };
        symbols = symbols;
        count = blocks * each;
      }) (step_of table rate v run stream)
  step_done size each blocks symbols history is some per many all kept =
      unfold step_of stepped stepped_by blocks_in in let sized = size_some rate (λ none. some (is ∙ none)) in
      rw (sized.legal, kept, many, all, per, is) refl
