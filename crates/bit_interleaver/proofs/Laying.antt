-- A loop that lays the entries line by line over zeros.
--     entries_at                        the entry at a place, from the last 120 symbols
--     laid_none, laid_more, laid_all    before the first, after one more, after the last
use mathlib.Core.Path.{◌≡◌, refl, sym, ap, ◌∙◌}
use mathlib.Core.List.{List}
use Prim.Native.Nat.{ℕ, ◌+◌, ◌-◌, ◌<◌, ◌≤◌}
use native.Mathlib.Omega.{arith}
use lib.ListN.{get_or, set, replicate, length-replicate, get_or-replicate}
use Rattle.lists.specs.Binary.{bit_of}
use Rattle.lists.specs.Tab.{piece_start}
use Rattle.lists.proofs.Tabs.{tab_ext}
use Rattle.lists.proofs.FillOver.{Over, over_start, over_step, over_at, over_end}
use Rattle.rules.specs.Bits.{in_sizes, entry_after}
use Rattle.rules.proofs.Entries.{length_in_sizes, in_sizes_at, in_sizes_rest}

unfoldable pub entries_at : (ℕ → ℕ) → ℕ → List ℕ → ℕ → ℕ
entries_at sizes v history k = get_or (in_sizes sizes v (entry_after sizes v history)) k 0

module _ (sizes : ℕ → ℕ) (v : ℕ) (history : List ℕ) where
  pub laid_none : Over 360 (entries_at sizes v history) (replicate 360 0) 0 (replicate 360 0)
  laid_none = over_start 360 _ (replicate 360 0) 0 (length-replicate {A = ℕ} 360 0) (λ k lt. absurd (omega arith))

  pub laid_more : {list : List ℕ} {at e : ℕ} (l size : ℕ)
      → Over 360 (entries_at sizes v history) (replicate 360 0) (at + e) list
      → l < v → at ≡ piece_start sizes l → size ≡ sizes l → e < size → at + size ≤ 360 → (bit : ℕ)
      → bit ≡ bit_of v (get_or history (120 - size + e) 0) l
      → Over 360 (entries_at sizes v history) (replicate 360 0) (at + (e + 1)) (set list (at + e) bit)
  unfolding entries_at entry_after
  laid_more {list} {at} {e} l size over h begins is lt fits bit same =
      over_at 360 _ (replicate 360 0) (over_step 360 _ (replicate 360 0) over (at + e) bit refl (omega arith)
      (same ∙ ap (λ (d : ℕ). bit_of v (get_or history (120 - d + e) 0) l) is
      ∙ sym (in_sizes_at sizes v (entry_after sizes v history) l e h (omega arith))
      ∙ ap (λ (k : ℕ). get_or (in_sizes sizes v (entry_after sizes v history)) (k + e) 0) (sym begins)))
      (at + (e + 1)) (omega arith)

  pub laid_all : {list : List ℕ} {at : ℕ} (l : ℕ) → Over 360 (entries_at sizes v history) (replicate 360 0) at list
      → at ≡ piece_start sizes l → l ≡ v → piece_start sizes v ≤ 360 → list
      ≡ in_sizes sizes v (entry_after sizes v history)
  unfolding entries_at
  laid_all {list} {at} l over start last fits =
      let begins : at ≡ piece_start sizes v = start ∙ ap (piece_start sizes) last in
      over_end 360 _ (replicate 360 0) over (λ k le lt. get_or-replicate {A = ℕ} 360 k 0 0 lt
      ∙ sym (in_sizes_rest sizes v (entry_after sizes v history) k (omega arith) lt))
      ∙ sym (tab_ext 360 _ (in_sizes sizes v (entry_after sizes v history))
      (length_in_sizes sizes v (entry_after sizes v history) fits) (λ k lt. refl))
