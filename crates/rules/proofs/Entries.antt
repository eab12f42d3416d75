-- The entries line by line.
--     length_in_sizes, in_sizes_at, in_sizes_rest     360 of them; entry e of line l; the rest zero
--     in_sizes_ext, in_sizes_cong                     lists, and rules, that agree at each place
--     length_in_lines, .. in_lines_cong               the same of coding's lines
--     size_fits                                       a line's entries lie within the 360
use mathlib.Core.Bool.{Bool, true, false}
use Prim.Native.Nat.{ℕ, ◌<◌, ◌≤◌, suc, ◌+◌, ◌-◌, ◌*◌}
use Rattle.lists.specs.Tab.{piece_start, pieces}
use Rattle.rules.specs.Bits.{delay_of, wait_of, line_delay, first_entry, in_sizes, in_lines}
use mathlib.Core.Path.{◌≡◌, refl, sym, ap, ◌∙◌}
use mathlib.Core.List.{List}
use native.Mathlib.Decide.{dec_lt}
use native.Mathlib.Omega.{arith}
use lib.ListN.{length, get_or, length-append, replicate, length-replicate, get_or-replicate}
use lib.Seq.{ext_get_or}
use Rattle.lists.proofs.Join.{get_d_first, get_d_second}
use Rattle.lists.proofs.Pieces.{start_more, start_mono, place_in, length_pieces, pieces_at, pieces_cong}

abbrev pub sizes_of : Bool → ℕ → ℕ → ℕ
sizes_of false v = delay_of v
sizes_of true v = wait_of v

pub record Fits (back : Bool) (v : ℕ) : Type 0 where
  pub few : v ≤ 6
  pub short : (l : ℕ) → l < v → sizes_of back v l ≤ 120
  pub room : piece_start (sizes_of back v) v ≤ 360

module _ (sizes : ℕ → ℕ) (v : ℕ) (entry : ℕ → ℕ → ℕ) where
  pub length_in_sizes : piece_start sizes v ≤ 360 → length (in_sizes sizes v entry) ≡ 360
  length_in_sizes h =
      unfold in_sizes in length-append (pieces sizes entry v) (replicate (360 - piece_start sizes v) 0)
      ∙ omega (arith, length_pieces sizes entry v, length-replicate {A = ℕ} (360 - piece_start sizes v) 0)

  pub in_sizes_at : (l e : ℕ) → l < v → e < sizes l
      → get_or (in_sizes sizes v entry) (piece_start sizes l + e) 0 ≡ entry l e
  unfolding in_sizes
  in_sizes_at l e h lt =
      get_d_first (pieces sizes entry v) (replicate (360 - piece_start sizes v) 0) (piece_start sizes l + e)
      (omega (arith, length_pieces sizes entry v, start_mono sizes l v h)) ∙ pieces_at sizes entry v l e h lt

  pub in_sizes_rest : (k : ℕ) → piece_start sizes v ≤ k → k < 360 → get_or (in_sizes sizes v entry) k 0 ≡ 0
  in_sizes_rest k h lt =
      unfold in_sizes in let long = length_pieces sizes entry v in
      get_d_second (pieces sizes entry v) (replicate (360 - piece_start sizes v) 0) k (omega arith)
      ∙ get_or-replicate {A = ℕ} (360 - piece_start sizes v) (k - length (pieces sizes entry v)) 0 0 (omega arith)

  -- a list that holds entry e of each line l at its place, and zero behind them
  pub in_sizes_ext : piece_start sizes v ≤ 360 → (list : List ℕ) → length list ≡ 360
      → ((l e : ℕ) → l < v → e < sizes l → get_or list (piece_start sizes l + e) 0 ≡ entry l e)
      → ((k : ℕ) → piece_start sizes v ≤ k → k < 360 → get_or list k 0 ≡ 0) → list ≡ in_sizes sizes v entry
  in_sizes_ext h list long at rest =
      let full = length_in_sizes h in
      ext_get_or 0 list (in_sizes sizes v entry) (long ∙ sym full)
      (λ k lt. elim (dec_lt k (piece_start sizes v)) [
        | yes p ↦ place_in sizes (λ k. get_or list k 0 ≡ get_or (in_sizes sizes v entry) k 0) v
            (λ l e less small. at l e less small ∙ sym (in_sizes_at l e less small)) k p
        | no p ↦ rest k (omega arith) (omega arith) ∙ sym (in_sizes_rest k (omega arith) (omega arith))
      ])

pub in_sizes_cong : (sizes : ℕ → ℕ) (v : ℕ) (f g : ℕ → ℕ → ℕ) → ((l e : ℕ) → l < v → e < sizes l → f l e ≡ g l e)
    → in_sizes sizes v f ≡ in_sizes sizes v g
in_sizes_cong sizes v f g h = unfold in_sizes in rw (pieces_cong sizes f g v h) refl

module _ (v : ℕ) (entry : ℕ → ℕ → ℕ) where
  pub length_in_lines : first_entry v v ≤ 360 → length (in_lines v entry) ≡ 360
  length_in_lines h = unfold in_lines in length_in_sizes (delay_of v) v entry h

  pub in_lines_at : (l e : ℕ) → l < v → e < delay_of v l → get_or (in_lines v entry) (first_entry v l + e) 0 ≡ entry l e
  in_lines_at l e h lt = unfold in_lines in in_sizes_at (delay_of v) v entry l e h lt

  pub in_lines_rest : (k : ℕ) → first_entry v v ≤ k → k < 360 → get_or (in_lines v entry) k 0 ≡ 0
  in_lines_rest k h lt = unfold in_lines in in_sizes_rest (delay_of v) v entry k h lt

  pub in_lines_ext : first_entry v v ≤ 360 → (list : List ℕ) → length list ≡ 360
      → ((l e : ℕ) → l < v → e < delay_of v l → get_or list (first_entry v l + e) 0 ≡ entry l e)
      → ((k : ℕ) → first_entry v v ≤ k → k < 360 → get_or list k 0 ≡ 0) → list ≡ in_lines v entry
  in_lines_ext h list long at rest = unfold in_lines in in_sizes_ext (delay_of v) v entry h list long at rest

pub in_lines_cong : (v : ℕ) (f g : ℕ → ℕ → ℕ) → ((l e : ℕ) → l < v → e < delay_of v l → f l e ≡ g l e)
    → in_lines v f ≡ in_lines v g
in_lines_cong v f g h = unfold in_lines in in_sizes_cong (delay_of v) v f g h

pub record SizeFits (sizes : ℕ → ℕ) (l size : ℕ) : Type 0 where
  pub is : size ≡ sizes l
  pub most : size ≤ 120
  pub inside : piece_start sizes l + size ≤ 360
  pub next : piece_start sizes (l + 1) ≡ piece_start sizes l + size

pub size_fits : (back : Bool) (v size l : ℕ) → Fits back v → size ≡ sizes_of back v l → l < v
    → SizeFits (sizes_of back v) l size
size_fits back v size l fits same h =
    let short = fits.short l h in
    let mono = start_mono (sizes_of back v) l v h in
    let room = fits.room in
    let more = start_more (sizes_of back v) l in
    let step : piece_start (sizes_of back v) (l + 1) ≡ piece_start (sizes_of back v) (suc l) =
    ap (piece_start (sizes_of back v)) {x = l + 1} {y = suc l} (omega arith) in
    record { is = same; most = omega arith; inside = omega arith; next = omega arith }

pub same_size : (v delay l : ℕ) → delay ≡ line_delay v → l * delay ≡ delay_of v l
same_size v delay l e = ap (λ (d : ℕ). l * d) e
