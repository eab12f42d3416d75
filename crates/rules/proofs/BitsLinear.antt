-- Bit interleaving is linear: sums without carries of entries and of kept bits give the sums of what comes out.
--     line_xor, carrier_xor     of what a line shows, and of a carrier
--     lines_after_xor           of the entries after a frame
use mathlib.Core.Path.{◌≡◌, sym, ap₂, ◌∙◌}
use mathlib.Core.List.{List}
use Prim.Native.Nat.{ℕ, ◌+◌, ◌<◌, ◌≤◌}
use native.Mathlib.Decide.{dec_lt}
use native.Mathlib.Omega.{arith}
use lib.Bits.{bit_xor}
use lib.ListN.{get_or}
use Rattle.lists.specs.Tab.{tab}
use Rattle.lists.proofs.Tabs.{length_tab, get_d_tab}
use Rattle.lists.proofs.Binaries.{binary_cong, binary_xor}
use Rattle.lists.proofs.Pieces.{start_mono}
use Rattle.rules.specs.Bits.{delay_of, first_entry, line_bit, carrier_at, lines_after}
use Rattle.rules.proofs.Entries.{in_lines_ext}
use Rattle.rules.proofs.Shown.{line_early, line_late, line_bit_lt}
use Rattle.rules.proofs.BitsAfter.{lines_after_at, lines_after_rest}

-- the sum of two lists of 360
abbrev pub sum_of : List ℕ → List ℕ → List ℕ
sum_of one two = tab 360 (λ k. bit_xor (get_or one k 0) (get_or two k 0))

module _ (v : ℕ) (fits : first_entry v v ≤ 360) (one two : List ℕ) (kept other : ℕ → ℕ) where
  pub line_xor : (k l : ℕ) → l < v → line_bit v (sum_of one two) (λ c. bit_xor (kept c) (other c)) k l
      ≡ bit_xor (line_bit v one kept k l) (line_bit v two other k l)
  line_xor k l h = elim (dec_lt k (delay_of v l)) [
    | yes p ↦
        line_early v (sum_of one two) (λ c. bit_xor (kept c) (other c)) k l p
        ∙ get_d_tab 360 (λ k. bit_xor (get_or one k 0) (get_or two k 0)) (first_entry v l + k)
        (omega (arith, start_mono (delay_of v) l v h))
        ∙ ap₂ bit_xor (sym (line_early v one kept k l p)) (sym (line_early v two other k l p))
    | no p ↦
        let late : delay_of v l ≤ k = omega arith in
        line_late v (sum_of one two) (λ c. bit_xor (kept c) (other c)) k l late
        ∙ ap₂ bit_xor (sym (line_late v one kept k l late)) (sym (line_late v two other k l late))
  ]

  -- The carrier of a sum is the sum of the carriers.
  pub carrier_xor : ((k : ℕ) → get_or one k 0 < 2) → ((k : ℕ) → get_or two k 0 < 2)
      → ((c : ℕ) → kept c < 2) → ((c : ℕ) → other c < 2) → (k : ℕ)
      → carrier_at v (sum_of one two) (λ c. bit_xor (kept c) (other c)) k
      ≡ bit_xor (carrier_at v one kept k) (carrier_at v two other k)
  carrier_xor bits-one bits-two bits-kept bits-other k =
      unfold carrier_at in binary_cong v (line_bit v (sum_of one two) (λ c. bit_xor (kept c) (other c)) k)
      (λ l. bit_xor (line_bit v one kept k l) (line_bit v two other k l)) (line_xor k)
      ∙ sym (binary_xor v (line_bit v one kept k) (line_bit v two other k)
      (line_bit_lt v one kept bits-one bits-kept k) (line_bit_lt v two other bits-two bits-other k))

  -- The entries after a sum are the sum of the entries.
  pub lines_after_xor : (n : ℕ) → lines_after v (sum_of one two) (λ c. bit_xor (kept c) (other c)) n
      ≡ sum_of (lines_after v one kept n) (lines_after v two other n)
  lines_after_xor n =
      unfold lines_after in let after = lines_after v one kept n in
      let behind = lines_after v two other n in
      let rule : ℕ → ℕ = λ k. bit_xor (get_or after k 0) (get_or behind k 0) in
      sym (in_lines_ext v (λ l e. line_bit v (sum_of one two) (λ c. bit_xor (kept c) (other c)) (n + e) l) fits
      (tab 360 rule) (length_tab 360 rule) (λ l e h lt.
      get_d_tab 360 rule (first_entry v l + e) (omega (arith, start_mono (delay_of v) l v h))
      ∙ ap₂ bit_xor (lines_after_at v one kept n l e h lt) (lines_after_at v two other n l e h lt)
      ∙ sym (line_xor (n + e) l h)) (λ k le lt. get_d_tab 360 rule k lt
      ∙ ap₂ bit_xor (lines_after_rest v one kept n k le lt) (lines_after_rest v two other n k le lt)))
