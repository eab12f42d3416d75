-- Where the pieces of a list given piece by piece lie.
--     start_more                   a piece begins where the one before it ends
--     start_mono                   a higher piece begins further on
--     place_in                     what holds at each place of each piece holds everywhere below the end
--     length_pieces, pieces_at     the length, and the entry at a place
--     pieces_ext, pieces_cong      lists, and rules, that agree at each place
use mathlib.Core.Path.{◌≡◌, refl, sym, ap, ap₂, ◌∙◌}
use mathlib.Core.List.{List}
use Prim.Native.Nat.{ℕ, zero, suc, ◌+◌, ◌-◌, ◌<◌, ◌≤◌}
use native.Mathlib.Nat.{not-suc-le-zero}
use native.Mathlib.Decide.{ℕ_discrete, dec_lt}
use native.Mathlib.Omega.{arith}
use lib.ListN.{length, get_or, length-append}
use lib.Seq.{ext_get_or}
use Rattle.lists.specs.Tab.{tab, piece_start, pieces}
use Rattle.lists.proofs.Tabs.{length_tab, get_d_tab}
use Rattle.lists.proofs.Join.{get_d_first, get_d_second}

module _ (sizes : ℕ → ℕ) where
  pub start_more : (i : ℕ) → piece_start sizes (suc i) ≡ piece_start sizes i + sizes i
  start_more i = unfold piece_start in refl

  -- piece i ends before a higher one begins
  pub start_mono : (i n : ℕ) → i < n → piece_start sizes i + sizes i ≤ piece_start sizes n
  start_mono i zero h = absurd (not-suc-le-zero h)
  start_mono i (suc n) h = elim (ℕ_discrete i n) [
    | yes e ↦ rw e (omega (arith, start_more n))
    | no ne ↦ omega (arith, start_more n, start_mono i n (omega arith))
  ]

  -- each place below the beginning of piece n lies in a lower piece
  pub place_in : (P : ℕ → Type 0) (n : ℕ) → ((i q : ℕ) → i < n → q < sizes i → P (piece_start sizes i + q))
      → (k : ℕ) → k < piece_start sizes n → P k
  unfolding piece_start
  place_in P zero h k lt = absurd (not-suc-le-zero lt)
  place_in P (suc n) h k lt = elim (dec_lt k (piece_start sizes n)) [
    | yes p ↦ place_in P n (λ i q l. h i q (omega arith)) k p
    | no p ↦
        let e : piece_start sizes n + (k - piece_start sizes n) ≡ k = omega arith in
        rw e at (h n (k - piece_start sizes n) (omega arith) (omega arith))
  ]

  module _ (entry : ℕ → ℕ → ℕ) where
    pub length_pieces : (n : ℕ) → length (pieces sizes entry n) ≡ piece_start sizes n
    unfolding pieces piece_start
    length_pieces zero = refl
    length_pieces (suc n) =
        length-append (pieces sizes entry n) (tab (sizes n) (entry n))
        ∙ ap₂ (λ (a b : ℕ). a + b) (length_pieces n) (length_tab (sizes n) (entry n))

    pub pieces_at : (n i q : ℕ) → i < n → q < sizes i
        → get_or (pieces sizes entry n) (piece_start sizes i + q) 0 ≡ entry i q
    unfolding pieces
    pieces_at zero i q h lt = absurd (not-suc-le-zero h)
    pieces_at (suc n) i q h lt =
        let long = length_pieces n in
        let front = pieces sizes entry n in
        let back = tab (sizes n) (entry n) in
        elim (ℕ_discrete i n) [
          | yes e ↦
              get_d_second front back (piece_start sizes i + q) (rw e (omega arith))
              ∙ ap (λ (k : ℕ). get_or back k 0) {x = piece_start sizes i + q - length front} {y = q}
              (rw e (omega arith))
              ∙ get_d_tab (sizes n) (entry n) q (rw e at lt) ∙ ap (λ (k : ℕ). entry k q) (sym e)
          | no ne ↦
              get_d_first front back (piece_start sizes i + q) (omega (arith, start_mono i n (omega arith)))
              ∙ pieces_at n i q (omega arith) lt
        ]

    -- a list that holds entry q of each piece i at its place
    pub pieces_ext : (n : ℕ) (l : List ℕ) → length l ≡ piece_start sizes n
        → ((i q : ℕ) → i < n → q < sizes i → get_or l (piece_start sizes i + q) 0 ≡ entry i q) → l
        ≡ pieces sizes entry n
    pieces_ext n l e h =
        ext_get_or 0 l (pieces sizes entry n) (e ∙ sym (length_pieces n))
        (λ k lt. place_in (λ k. get_or l k 0 ≡ get_or (pieces sizes entry n) k 0) n
        (λ i q less small. h i q less small ∙ sym (pieces_at n i q less small)) k (omega arith))

  pub pieces_cong : (f g : ℕ → ℕ → ℕ) (n : ℕ) → ((i q : ℕ) → i < n → q < sizes i → f i q ≡ g i q)
      → pieces sizes f n ≡ pieces sizes g n
  pieces_cong f g n h =
      pieces_ext g n (pieces sizes f n) (length_pieces f n)
      (λ i q less small. pieces_at f n i q less small ∙ h i q less small)
