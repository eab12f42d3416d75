-- The entries after a frame.
--     length_lines_after, lines_after_at, lines_after_rest    360 of them; entry e of line l; the rest zero
--     line_after, carriers_after, lines_after_add             a frame, and then another: as one long frame
--     lines_after_cong                                        only the frame's kept bits count
use mathlib.Core.Path.{◌≡◌, sym, ap, ◌∙◌}
use mathlib.Core.List.{List}
use Prim.Native.Nat.{ℕ, ◌+◌, ◌-◌, ◌*◌, ◌<◌, ◌≤◌}
use native.Mathlib.Nat.{add-mul, add_assoc}
use native.Mathlib.Decide.{dec_lt}
use native.Mathlib.Omega.{arith}
use lib.ListN.{length, get_or}
use Rattle.lists.proofs.Binaries.{binary_cong}
use Rattle.rules.specs.Bits.{delay_of, first_entry, line_bit, carrier_at, lines_after}
use Rattle.rules.proofs.Entries.{length_in_lines, in_lines_at, in_lines_rest, in_lines_cong}
use Rattle.rules.proofs.Shown.{line_early, line_late, line_cong}

module _ (v : ℕ) (lines : List ℕ) (kept : ℕ → ℕ) (n : ℕ) where
  pub length_lines_after : first_entry v v ≤ 360 → length (lines_after v lines kept n) ≡ 360
  length_lines_after h = unfold lines_after in length_in_lines v (λ l e. line_bit v lines kept (n + e) l) h

  pub lines_after_at : (l e : ℕ) → l < v → e < delay_of v l
      → get_or (lines_after v lines kept n) (first_entry v l + e) 0 ≡ line_bit v lines kept (n + e) l
  unfolding lines_after
  lines_after_at l e h lt = in_lines_at v (λ l e. line_bit v lines kept (n + e) l) l e h lt

  pub lines_after_rest : (k : ℕ) → first_entry v v ≤ k → k < 360 → get_or (lines_after v lines kept n) k 0 ≡ 0
  unfolding lines_after
  lines_after_rest k h lt = in_lines_rest v (λ l e. line_bit v lines kept (n + e) l) k h lt

-- ---- a frame of n carriers, and then another

module _ (v : ℕ) (lines : List ℕ) (kept : ℕ → ℕ) (n : ℕ) where
  pub line_after : (k l : ℕ) → l < v
      → line_bit v (lines_after v lines kept n) (λ c. kept (n * v + c)) k l ≡ line_bit v lines kept (n + k) l
  line_after k l h = elim (dec_lt k (delay_of v l)) [
    | yes p ↦
        line_early v (lines_after v lines kept n) (λ c. kept (n * v + c)) k l p
        ∙ lines_after_at v lines kept n l k h p
    | no p ↦
        let late : delay_of v l ≤ k = omega arith in
        let along : n + (k - delay_of v l) ≡ n + k - delay_of v l = omega arith in
        line_late v (lines_after v lines kept n) (λ c. kept (n * v + c)) k l late
        ∙ ap kept (sym (add_assoc (n * v) ((k - delay_of v l) * v) l))
        ∙ ap (λ (c : ℕ). kept (c + l)) (sym (add-mul n (k - delay_of v l) v))
        ∙ ap (λ (s : ℕ). kept (s * v + l)) along ∙ sym (line_late v lines kept (n + k) l (omega arith))
  ]

  -- The carriers of the second frame are those of one long frame.
  pub carriers_after : (k : ℕ)
      → carrier_at v (lines_after v lines kept n) (λ c. kept (n * v + c)) k ≡ carrier_at v lines kept (n + k)
  unfolding carrier_at
  carriers_after k =
      binary_cong v (line_bit v (lines_after v lines kept n) (λ c. kept (n * v + c)) k) (line_bit v lines kept (n + k))
      (λ l h. line_after k l h)

  -- The entries after the second frame are those after one long frame.
  pub lines_after_add : (m : ℕ)
      → lines_after v (lines_after v lines kept n) (λ c. kept (n * v + c)) m ≡ lines_after v lines kept (n + m)
  unfolding lines_after
  lines_after_add m =
      in_lines_cong v (λ l e. line_bit v (lines_after v lines kept n) (λ c. kept (n * v + c)) (m + e) l)
      (λ l e. line_bit v lines kept (n + m + e) l)
      (λ l e h lt. line_after (m + e) l h ∙ ap (λ (k : ℕ). line_bit v lines kept k l) (sym (add_assoc n m e)))

-- ---- what counts

-- Only the kept bits of the frame count.
pub lines_after_cong : (v : ℕ) (lines : List ℕ) (kept other : ℕ → ℕ) (n : ℕ) → ((c : ℕ) → c < n * v → kept c ≡ other c)
    → lines_after v lines kept n ≡ lines_after v lines other n
unfolding lines_after
lines_after_cong v lines kept other n h =
    in_lines_cong v (λ l e. line_bit v lines kept (n + e) l) (λ l e. line_bit v lines other (n + e) l)
    (λ l e less lt. line_cong v lines kept other n h (n + e) l less (omega arith))
