-- Bytes put into an area from a place on.
--     Put                                      some bytes stand in an area from a place on, and what stood before that
--                                          place stays
--     with_inside, with_before, with_behind    byte k of an area with a part: of the part, before it, behind it
--     Putting, put_none, put_more, put_all     while the bytes are put, one by one, and then
--     length_with                              it is as long as before
--     part_put                                 an area with a part that has room there
--     put_fill                                 an area that is filled up to the place is filled that much further
use mathlib.Core.Path.{◌≡◌, refl, sym, ap, ◌∙◌, subst}
use mathlib.Core.Bool.{cond, ◌&&◌}
use mathlib.Core.List.{List}
use mathlib.Core.Logic.{◌⊎◌, inl, inr}
use Prim.Native.Nat.{ℕ, ◌+◌, ◌-◌, ◌<◌, ◌≤◌}
use native.Mathlib.Omega.{arith}
use native.Mathlib.Decide.{dec_le}
use lib.Dec.{leb, ltb}
use lib.ListN.{length, get_or, set}
use borrow.Author.Tests.{le-leb, lt-leb, lt-ltb, le-ltb}
use Rattle.lists.proofs.Fill.{Fill}
use Rattle.lists.proofs.FillOver.{Over, over_start, over_step, over_at, over_end}
use Rattle.lists.proofs.Tabs.{length_tab, get_d_tab}
use Rattle.lists.proofs.Parts.{with_part}

pub record Put (place count : ℕ) (bytes area area' : List ℕ) : Type 0 where
  pub len : length area' ≡ length area
  pub here : (k : ℕ) → k < count → get_or area' (place + k) 0 ≡ get_or bytes k 0
  pub below : (k : ℕ) → k < place → get_or area' k 0 ≡ get_or area k 0

module _ (bytes : List ℕ) (place : ℕ) (area : List ℕ) where
  -- byte k of an area with the part
  abbrev pub byte_with : ℕ → ℕ
  byte_with k = cond (leb place k && ltb k (place + length bytes)) (get_or bytes (k - place) 0) (get_or area k 0)

  pub with_before : (k : ℕ) → k < place → byte_with k ≡ get_or area k 0
  with_before k h = rw (lt-leb place k h) refl

  pub with_inside : (k : ℕ) → k < length bytes → byte_with (place + k) ≡ get_or bytes k 0
  with_inside k h =
      rw (le-leb place (place + k) (omega arith), lt-ltb (place + k) (place + length bytes) (omega arith))
      (ap (λ (i : ℕ). get_or bytes i 0) (omega arith))

  pub with_behind : (k : ℕ) → place ≤ k → place + length bytes ≤ k → byte_with k ≡ get_or area k 0
  with_behind k h g = rw (le-leb place k h, le-ltb k (place + length bytes) g) refl

  -- what holds while the bytes are put, one by one, and then
  abbrev pub Putting : ℕ → List ℕ → Type 0
  Putting k area' = Over (length area) byte_with area (place + k) area'

  pub put_none : Putting 0 area
  put_none = over_at (length area) byte_with area
      (over_start (length area) byte_with area place refl (λ k lt. sym (with_before k lt))) (place + 0) (omega arith)

  pub put_more : (k : ℕ) (area' : List ℕ) → k < length bytes → place + k < length area → Putting k area'
      → Putting (k + 1) (set area' (place + k) (get_or bytes k 0))
  put_more k area' h room b =
      over_at (length area) byte_with area
      (over_step (length area) byte_with area b (place + k) (get_or bytes k 0) refl room (sym (with_inside k h)))
      (place + (k + 1)) (omega arith)

  pub put_all : (k : ℕ) (area' : List ℕ) → Putting k area' → (end : ℕ) → k ≡ end
      → (end ≡ length bytes) ⊎ (end ≡ length area - place) → area' ≡ with_part bytes place area
  unfolding with_part
  put_all k area' b end same (inl e) =
      over_end (length area) byte_with area b (λ i le lt. sym (with_behind i (omega arith) (omega arith)))
  put_all k area' b end same (inr e) = over_end (length area) byte_with area b (λ i le lt. absurd (omega arith))

  pub length_with : (area' : List ℕ) → area' ≡ with_part bytes place area → length area' ≡ length area
  length_with area' e = unfold with_part in ap length e ∙ length_tab (length area) byte_with

  -- where there is room, the bytes stand there
  pub part_put : place + length bytes ≤ length area → (area' : List ℕ) → area' ≡ with_part bytes place area
      → (count : ℕ)
      → count ≡ length bytes → Put place count bytes area area'
  part_put room area' e count c =
      unfold with_part in record {
        len = length_with area' e;
        here = λ k lt.
            ap (λ (l : List ℕ). get_or l (place + k) 0) e
            ∙ get_d_tab (length area) byte_with (place + k) (omega arith) ∙ with_inside k (omega arith);
        below = λ k lt.
            ap (λ (l : List ℕ). get_or l k 0) e ∙ get_d_tab (length area) byte_with k (omega arith) ∙ with_before k lt;
      }

pub put_fill : (size : ℕ) (f : ℕ → ℕ) (place n : ℕ) (bytes area area' : List ℕ) → Fill size f place area
    → Put place n bytes area area' → ((k : ℕ) → k < n → f (place + k) ≡ get_or bytes k 0)
    → Fill size f (place + n) area'
put_fill size f place n bytes area area' a b h =
    record { len = b.len ∙ a.len; done = λ k lt. go k lt (dec_le place k) }
  where
    go : (k : ℕ) → k < place + n → Dec (place ≤ k) → get_or area' k 0 ≡ f k
    go k lt (yes le) =
        subst (λ (i : ℕ). get_or area' i 0 ≡ f i) {x = place + (k - place)} {y = k} (omega arith)
        (b.here (k - place) (omega arith) ∙ sym (h (k - place) (omega arith)))
    go k lt (no gt) = b.below k (omega arith) ∙ a.done k (omega arith)
