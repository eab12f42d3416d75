-- A loop that writes, or adds, carriers one after the other.
--     written_carrier, written_stays, length_written    what stands there then
--     Writing                                           the first j of them are written, and the others are as they
--                                                   were
--     writing_none, writing_more, writing_all           before the first, after one more, after the last
--     RoomIn, room_for_is, room_run, room_end           when there is room_for
--     room_known, room_yes                              what there is then
--     put_stays, put_writes                             what comes of it where there is none, and where there is
--     put_is_placed, put_is_added                       it is what the two functions promise
--     place_writes, add_writes                          which is this, where there is room
use mathlib.Core.Path.{◌≡◌, refl, ap, sym, ap₂, ◌∙◌, subst}
use mathlib.Core.Bool.{Bool, true, false, false≢true, ◌&&◌}
use mathlib.Core.List.{List}
use mathlib.Core.Logic.{◌⊎◌, inl, inr}
use Prim.Native.Nat.{ℕ, ◌+◌, ◌-◌, ◌<◌, ◌≤◌}
use native.Mathlib.Omega.{arith}
use lib.Bits.{bit_xor}
use lib.Dec.{T, leb, leb→le}
use lib.ListN.{length, get_or, set}
use borrow.Author.Tests.{lt-ltb, le-ltb, le-leb, lt-leb}
use Rattle.lists.proofs.Tabs.{length_tab, get_d_tab}
use Rattle.lists.proofs.FillOver.{Over, over_start, over_step, over_at, over_end}
use Rattle.bit_interleaver.specs.Symbols.{legal}
use Rattle.bit_interleaver.specs.Symbols.{carrier_from, written_at, written, room_for, placed, add_placed, made, put_by}

and_false : (a b : Bool) → (a && false && b) ≡ false
and_false true b = refl
and_false false b = refl

all_three : (a b c : Bool) → (a && b && c) ≡ true → (a ≡ true) × (b ≡ true) × (c ≡ true)
all_three true true c e = (refl, refl, e)
all_three true false c e = absurd (false≢true e)
all_three false b c e = absurd (false≢true e)

module _ (make : ℕ → ℕ → ℕ) (v : ℕ) (symbols : List ℕ) (first count : ℕ) (old : List ℕ) where
  pub written_inside : (j : ℕ) → j < count
      → written_at make v symbols first count old (first + j)
      ≡ make (get_or old (first + j) 0) (carrier_from v symbols j)
  written_inside j h =
      unfold written_at in let e : first + j - first ≡ j = omega arith in
      simp (le-leb first (first + j) (omega arith), lt-ltb (first + j) (first + count) (omega arith), e)

  pub written_before : (k : ℕ) → k < first → get_or old k 0 ≡ written_at make v symbols first count old k
  written_before k h = unfold written_at in simp (lt-leb first k h)

  pub written_behind : (k : ℕ) → first + count ≤ k → get_or old k 0 ≡ written_at make v symbols first count old k
  written_behind k h = unfold written_at in simp (le-leb first k (omega arith), le-ltb k (first + count) h)

  -- the carriers that are written, and those that stay
  pub written_carrier : first + count ≤ length old → (j : ℕ) → j < count
      → get_or (written make v symbols first count old) (first + j) 0
      ≡ make (get_or old (first + j) 0) (carrier_from v symbols j)
  unfolding written
  written_carrier fits j h =
      get_d_tab (length old) (written_at make v symbols first count old) (first + j) (omega arith) ∙ written_inside j h

  pub written_stays : (k : ℕ) → k < length old → (k < first) ⊎ (first + count ≤ k)
      → get_or (written make v symbols first count old) k 0 ≡ get_or old k 0
  unfolding written
  written_stays k h (inl before) =
      get_d_tab (length old) (written_at make v symbols first count old) k h ∙ sym (written_before k before)
  written_stays k h (inr behind) =
      get_d_tab (length old) (written_at make v symbols first count old) k h ∙ sym (written_behind k behind)

  pub length_written : length (written make v symbols first count old) ≡ length old
  length_written = unfold written in length_tab (length old) (written_at make v symbols first count old)

  abbrev pub Writing : ℕ → List ℕ → Type 0
  Writing j l = Over (length old) (written_at make v symbols first count old) old (first + j) l

  pub writing_none : Writing 0 old
  writing_none = over_start (length old) _ old (first + 0) refl (λ k lt. written_before k (omega arith))

  pub writing_more : {l : List ℕ} {j : ℕ} → Writing j l → j < count → first + count ≤ length old → (new : ℕ)
      → new ≡ carrier_from v symbols j → Writing (j + 1) (set l (first + j) (make (get_or l (first + j) 0) new))
  writing_more {l} {j} w h fits new e =
      over_at (length old) _ old
      (over_step (length old) _ old w (first + j) (make (get_or l (first + j) 0) new) refl (omega arith)
      (ap₂ make (w.rest (first + j) (omega arith)) e ∙ sym (written_inside j h)))
      (first + (j + 1)) (omega arith)

  pub writing_all : {l : List ℕ} {j : ℕ} → Writing j l → count ≤ j → l ≡ written make v symbols first count old
  unfolding written
  writing_all {l} {j} w h = over_end (length old) _ old w (λ k le lt. written_behind k (omega arith))

-- ---- room_for

leb_true : (m n : ℕ) → leb m n ≡ true → m ≤ n
leb_true m n e = leb→le m n (subst T (sym e) tt)

-- of n carriers
module _ (v first count n : ℕ) where
  abbrev pub RoomIn : Bool
  RoomIn = leb (120 + count) 1760 && leb (first + count) n && legal v

  pub room_for_is : (b : Bool) → b ≡ legal v → count ≤ 1640 → first + count ≤ n → b ≡ RoomIn
  room_for_is b e h k = rw (le-leb (120 + count) 1760 (omega arith), le-leb (first + count) n k) e

  pub room_run : 1640 < count → false ≡ RoomIn
  room_run h = simp (lt-leb (120 + count) 1760 (omega arith))

  pub room_end : n < first + count → false ≡ RoomIn
  room_end h = sym (rw (lt-leb (first + count) n h) (and_false (leb (120 + count) 1760) (legal v)))

  pub room_known : true ≡ RoomIn → (count ≤ 1640) × (first + count ≤ n) × (legal v ≡ true)
  room_known e =
      let parts = all_three (leb (120 + count) 1760) (leb (first + count) n) (legal v) (sym e) in
      (omega (arith, leb_true (120 + count) 1760 parts.0), leb_true (first + count) n parts.1, parts.2)

module _ (v first count : ℕ) (carriers : List ℕ) where
  pub room_yes : count ≤ 1640 → first + count ≤ length carriers → legal v ≡ true → room_for v first count carriers
      ≡ true
  room_yes h k e = unfold room_for in sym (room_for_is v first count (length carriers) true (sym e) h k)

  module _ (symbols : List ℕ) where
    pub put_stays : (add : Bool) → false ≡ RoomIn v first count (length carriers) → carriers
        ≡ put_by add v symbols first count carriers
    put_stays add e = unfold put_by room_for in rw (← e) refl

    pub put_writes : (add : Bool) → legal v ≡ true → count ≤ 1640 → first + count ≤ length carriers
        → written (made add) v symbols first count carriers ≡ put_by add v symbols first count carriers
    put_writes add good fits inside = unfold put_by in rw (room_yes fits inside good) refl

    pub put_is_placed : put_by false v symbols first count carriers ≡ placed v symbols first count carriers
    put_is_placed = unfold put_by placed in refl

    pub put_is_added : put_by true v symbols first count carriers ≡ add_placed v symbols first count carriers
    put_is_added = unfold put_by add_placed in refl

    module _ (w : ℕ) (same : v ≡ w) (good : legal w ≡ true) (fits : count ≤ 1640)
        (inside : first + count ≤ length carriers) where
      pub place_writes : written (λ old new. new) w symbols first count carriers ≡ placed v symbols first count carriers
      place_writes = unfold placed in rw (room_yes fits inside (ap legal same ∙ good), same) refl

      pub add_writes : written bit_xor w symbols first count carriers ≡ add_placed v symbols first count carriers
      add_writes = unfold add_placed in rw (room_yes fits inside (ap legal same ∙ good), same) refl
