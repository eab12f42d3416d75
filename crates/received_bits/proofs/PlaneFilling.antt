-- The planes while they are filled in, row by row and line by line; `digit c` is the digit of kept bit c.
--     planes_none, planes_more     before the first, after one more
--     planes_next                  after a line of which the rest is not there
--     planes_all                   after the last
--     stretch_rest                 of a stretch of carriers the rest of a line is not there
use mathlib.Core.Path.{◌≡◌, sym, ap, ◌∙◌}
use mathlib.Core.List.{List}
use mathlib.Core.Logic.{◌⊎◌, inl, inr}
use Prim.Native.Nat.{ℕ, ◌+◌, ◌-◌, ◌*◌, ◌/◌, ◌<◌, ◌≤◌}
use native.Mathlib.Omega.{arith}
use native.Mathlib.Decide.{dec_lt}
use lib.ListN.{length, get_or, set, replicate, length-replicate, get_or-replicate}
use Rattle.lists.specs.Tab.{tab}
use Rattle.lists.proofs.FillOver.{Over, over_start, over_step, over_at, over_end}
use Rattle.settings.proofs.LegalSettings.{LegalBits, qpsk, qam16, qam64}
use Rattle.rules.specs.Back.{received_digit}
use Rattle.received_bits.specs.Steps.{plane_at}
use Rattle.received_bits.proofs.Places.{plane_inside, plane_kept, plane_short, plane_none}

over_skip : (n : ℕ) (f : ℕ → ℕ) (old list : List ℕ) (i j : ℕ) → Over n f old i list → i ≤ j
    → ((k : ℕ) → i ≤ k → k < j → get_or old k 0 ≡ f k) → Over n f old j list
over_skip n f old list i j o le right =
    record {
      len = o.len;
      done = λ k lt. elim (dec_lt k i) [
        | yes h ↦ o.done k h
        | no h ↦ o.rest k (omega arith) ∙ right k (omega arith) lt
      ];
      rest = λ k h. o.rest k (omega arith);
    }

abbrev pub Planes : ℕ → (ℕ → ℕ) → ℕ → List ℕ → Type 0
Planes v digit place planes = Over 5040 (plane_at v digit) (replicate 5040 2) place planes

pub planes_none : (v : ℕ) (digit : ℕ → ℕ) (place : ℕ) → place ≡ 0 → Planes v digit place (replicate 5040 2)
planes_none v digit place e = over_start 5040 _ _ place (length-replicate {A = ℕ} 5040 2) (λ k h. absurd (omega arith))

plane_all : {v : ℕ} → LegalBits v → (rows l : ℕ) → l < v → rows ≡ 3360 / v → rows * l + rows ≤ 3360
plane_all qpsk rows l h e = rw e (omega arith)
plane_all qam16 rows l h e = rw e (omega arith)
plane_all qam64 rows l h e = rw e (omega arith)

module _ {v : ℕ} (legal : LegalBits v) (digit : ℕ → ℕ) (l : ℕ) (h : l < v) where
  pub planes_more : {planes : List ℕ} (rows k place value : ℕ) → rows ≡ 3360 / v → k < rows → place ≡ rows * l + k
      → value ≡ digit (k * v + l) → Planes v digit (rows * l + k) planes
      → Planes v digit (rows * l + (k + 1)) (set planes place value)
  planes_more rows k place value e few at is o =
      let inside = plane_inside legal l k h (rw (sym e) few) in
      over_at 5040 _ _ (over_step 5040 _ _ o place value at (rw e (omega (arith, inside)))
      (is ∙ rw (at, e) (sym (plane_kept legal digit l k h (rw (sym e) few)))))
      (rows * l + (k + 1)) (omega arith)

  pub planes_next : {planes : List ℕ} (rows k : ℕ) → rows ≡ 3360 / v → k ≤ rows
      → ((i : ℕ) → k ≤ i → i < rows → 2 ≡ digit (i * v + l))
      → Planes v digit (rows * l + k) planes → Planes v digit (rows * (l + 1)) planes
  planes_next rows k e few rest o =
      let up : rows * (l + 1) ≡ rows * l + rows = omega arith in
      let all = plane_all legal rows l h e in
      over_skip 5040 _ _ _ _ _ o (omega arith)
      (λ place low high. get_or-replicate {A = ℕ} 5040 place 2 0 (omega arith)
      ∙ rest (place - rows * l) (omega arith) (omega arith)
      ∙ sym (plane_kept legal digit l (place - rows * l) h (rw (sym e) (omega arith)))
      ∙ ap (plane_at v digit) (rw (sym e) (omega arith)))

pub planes_all : {v : ℕ} (legal : LegalBits v) (digit : ℕ → ℕ) {planes : List ℕ} (rows l : ℕ) → rows ≡ 3360 / v → l ≡ v
    → Planes v digit (rows * l) planes → planes ≡ tab 5040 (plane_at v digit)
planes_all {v} legal digit rows l e f o =
    over_end 5040 _ _ o
    (λ k low high. get_or-replicate {A = ℕ} 5040 k 2 0 high ∙ plane_none v digit k (whole legal e f low))
  where
    whole : {v rows l k : ℕ} → LegalBits v → rows ≡ 3360 / v → l ≡ v → rows * l ≤ k → 3360 ≤ k
    whole qpsk e f low = rw (e, f) at low
    whole qam16 e f low = rw (e, f) at low
    whole qam64 e f low = rw (e, f) at low

pub stretch_rest : {v : ℕ} → LegalBits v → (carriers : List ℕ) (l rows k : ℕ) → l < v
    → (k ≡ rows) ⊎ (k ≡ length carriers - l * (120 / (v - 1)))
    → (i : ℕ) → k ≤ i → i < rows → 2 ≡ received_digit v carriers (i * v + l)
stretch_rest legal carriers l rows k h (inl full) i low high = absurd (omega arith)
stretch_rest legal carriers l rows k h (inr short) i low high = plane_short legal carriers l i h (omega arith)
