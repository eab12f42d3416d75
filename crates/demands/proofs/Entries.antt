-- The lines behind a frame hold bits.
--     entries_behind     each entry is 0 or 1
use mathlib.Core.List.{List}
use Prim.Native.Nat.{ℕ, ◌+◌, ◌<◌}
use native.Mathlib.Decide.{dec_lt}
use native.Mathlib.Omega.{arith}
use lib.ListN.{get_or, get_or-eq_default}
use Rattle.coding_answers.proofs.Again.{lines_fit}
use Rattle.lists.proofs.Pieces.{place_in}
use Rattle.settings.proofs.LegalSettings.{LegalBits}
use Rattle.rules.specs.Bits.{delay_of, first_entry, lines_after}
use Rattle.rules.proofs.Shown.{line_bit_lt}
use Rattle.rules.proofs.BitsAfter.{length_lines_after, lines_after_at, lines_after_rest}

pub entries_behind : {v : ℕ} → LegalBits v → (lines : List ℕ) (kept : ℕ → ℕ) (n : ℕ)
    → ((k : ℕ) → get_or lines k 0 < 2) → ((c : ℕ) → kept c < 2) → (k : ℕ) → get_or (lines_after v lines kept n) k 0 < 2
entries_behind {v} legal lines kept n entries bits k = elim (dec_lt k (first_entry v v)) [
  | yes h ↦
      place_in (delay_of v) (λ (k : ℕ). get_or (lines_after v lines kept n) k 0 < 2) v
      (λ l e less lt. rw (lines_after_at v lines kept n l e less lt)
      (line_bit_lt v lines kept entries bits (n + e) l)) k h
  | no h ↦ elim (dec_lt k 360) [
    | yes g ↦ rw (lines_after_rest v lines kept n k (omega arith) g) (omega arith)
    | no g ↦
        rw (get_or-eq_default (lines_after v lines kept n) 0 {n = k}
        (omega (arith, length_lines_after v lines kept n (lines_fit legal)))) (omega arith)
  ]
]
