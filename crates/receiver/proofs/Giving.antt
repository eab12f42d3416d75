-- The slots of the words.
--     given_slot, front_is        what the slot holds
--     handed_over, handed_slot    a word that is passed over, and one that fills its slot
use mathlib.Core.Path.{◌≡◌, refl, sym, ap, ◌∙◌, subst}
use mathlib.Core.List.{List, ◌++◌}
use mathlib.Core.Logic.{inl, inr}
use Prim.Native.Nat.{ℕ, ◌+◌, ◌-◌, ◌*◌, ◌<◌, ◌≤◌}
use native.Mathlib.Omega.{arith}
use lib.ListN.{length, get_or, take, drop, length-drop}
use lib.Seq.{length-take-le, get_or-take, get_or-drop}
use borrow.Rule.Slice.PartMut.{put_mid, same_len_mid}
use Rattle.lists.proofs.Tabs.{tab_ext}
use Rattle.lists.proofs.Join.{get_d_first, get_d_second}
use Rattle.nearest.specs.Slot.{Slot}
use Rattle.nearest.specs.SlotEntry.{Given, given, refused}
use Rattle.receiving_answers.specs.Receiving.{slot_of}
use Rattle.receiver.specs.Steps.{Handed}

pub given_slot : {received slot slot' : List ℕ} {r : ℕ} → Given received slot slot' r → length received ≡ 203
    → length slot ≡ 189 → Slot received slot'
given_slot (given _ a b is) e f = is
given_slot (refused (inl n)) e f = absurd (n e)
given_slot (refused (inr n)) e f = absurd (n f)

-- the first 203 bytes of the word, as they are lent
pub front_is : (word opened : List ℕ) → opened ≡ word → take (203 - 0) opened ≡ take 203 word
front_is word opened e = ap (take 203) e

-- ---- a part put back

module _ (xs ys : List ℕ) (a w : ℕ) (fits : a + w ≤ length xs) where
  short : length (take a xs) ≡ a
  short = length-take-le a xs (omega arith)

  put_before : (b : ℕ) → b < a → get_or (put_mid a w xs ys) b 0 ≡ get_or xs b 0
  put_before b h = get_d_first (take a xs) _ b (omega (arith, short)) ∙ get_or-take a xs b 0 h

  put_in : (b : ℕ) → length ys ≡ w → b < w → get_or (put_mid a w xs ys) (a + b) 0 ≡ get_or ys b 0
  put_in b l h =
      let e : a + b - length (take a xs) ≡ b = omega (arith, short) in
      get_d_second (take a xs) _ (a + b) (omega (arith, short))
      ∙ ap (λ (k : ℕ). get_or (ys ++ drop w (drop a xs)) k 0) e ∙ get_d_first ys _ b (omega arith)

  put_after : (b : ℕ) → length ys ≡ w → a + w ≤ b → get_or (put_mid a w xs ys) b 0 ≡ get_or xs b 0
  put_after b l h =
      let e : b - length (take a xs) ≡ b - a = omega (arith, short) in
      get_d_second (take a xs) _ b (omega (arith, short))
      ∙ ap (λ (k : ℕ). get_or (ys ++ drop w (drop a xs)) k 0) e ∙ get_d_second ys _ (b - a) (omega arith)
      ∙ get_or-drop w (drop a xs) (b - a - length ys) 0 ∙ get_or-drop a xs (w + (b - a - length ys)) 0
      ∙ ap (λ (k : ℕ). get_or xs k 0) (omega arith)

  put_long : length ys ≡ w → length (put_mid a w xs ys) ≡ length xs
  put_long l = same_len_mid a w xs ys (l ∙ sym mid)
    where
      mid : length (take w (drop a xs)) ≡ w
      mid = length-take-le w (drop a xs) (omega (arith, length-drop a xs))

-- ---- the slots

module _ (passed n : ℕ) (received slots : List ℕ) where
  pub handed_over : n < passed → Handed passed n received slots slots
  handed_over h =
      record {
        long = refl;
        over = λ g. refl;
        slot = λ g. absurd (omega arith);
        front = λ b g. refl;
        behind = λ b g. refl;
      }

  pub handed_slot : (width : ℕ) (part : List ℕ) → passed ≤ n → width ≡ 189 → 189 * (n - passed) + 189 ≤ length slots
      → Slot received part → length part ≡ 189
      → Handed passed n received slots (put_mid (189 * (n - passed)) width slots part)
  handed_slot width part h e room is whole =
      unfold slot_of in let a : ℕ = 189 * (n - passed) in
      let fits : a + width ≤ length slots = omega arith in
      let long : length part ≡ width = whole ∙ sym e in
      record {
        long = put_long slots part a width fits long;
        over = λ g. absurd (omega arith);
        slot = λ g.
            subst (Slot received)
            (tab_ext 189 _ part (whole) (λ b lt. sym (put_in slots part a width fits b long (omega arith))))
            is;
        front = λ b g. put_before slots part a width fits b g;
        behind = λ b g. put_after slots part a width fits b long (omega arith);
      }
