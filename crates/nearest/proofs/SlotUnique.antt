-- Any two slots that a received word allows are equal.
use mathlib.Core.Path.{◌≡◌, refl, ap, ◌∙◌}
use mathlib.Core.Logic.{⊎_elim}
use mathlib.Core.List.{List, ◌∷◌}
use Prim.Native.Nat.{ℕ}
use native.Mathlib.Omega.{arith}
use lib.ListN.{length, get_or, take}
use Rattle.nearest.specs.Codeword.{distance}
use Rattle.nearest.proofs.Unique.{near_codewords_equal}
use Rattle.nearest.specs.Slot.{restored, Slot, corrected, other_start, none}
use Rattle.nearest.specs.SlotEntry.{Given, given, refused}

-- Any two slots that a received word allows are equal.
pub slot_unique : (received s t : List ℕ) → length received ≡ 203 → Slot received s → Slot received t → s ≡ t
slot_unique w s t l (corrected c k n e) (corrected d k' n' e') =
    ap (λ (x : List ℕ). distance x (restored w) ∷ take 188 x)
    (near_codewords_equal c d (restored w) k k' (omega arith) n n')
slot_unique w s t l (corrected c k n e) (other_start d k' n' e') =
    absurd (e' (ap (λ (x : List ℕ). get_or x 0 0) (near_codewords_equal d c (restored w) k' k (omega arith) n' n) ∙ e))
slot_unique w s t l (corrected c k n e) (none h) = absurd (h c k n)
slot_unique w s t l (other_start c k n e) (corrected d k' n' e') =
    absurd (e (ap (λ (x : List ℕ). get_or x 0 0) (near_codewords_equal c d (restored w) k k' (omega arith) n n') ∙ e'))
slot_unique w s t l (other_start c k n e) (other_start d k' n' e') = refl
slot_unique w s t l (other_start c k n e) (none h) = absurd (h c k n)
slot_unique w s t l (none h) (corrected d k' n' e') = absurd (h d k' n')
slot_unique w s t l (none h) (other_start d k' n' e') = absurd (h d k' n')
slot_unique w s t l (none h) (none h') = refl

-- Any two results that `give` may have are equal: the slot's area, and the number of the answer.
pub given_unique : (received slot x y : List ℕ) (r s : ℕ) → Given received slot x r → Given received slot y s
    → (x ≡ y) × (r ≡ s)
given_unique w slot x y r s (given a l m h) (given b l' m' h') = (slot_unique w a b l h h', refl)
given_unique w slot x y r s (given a l m h) (refused ne) = absurd (⊎_elim (λ n. n l) (λ n. n m) ne)
given_unique w slot x y r s (refused ne) (given b l m h) = absurd (⊎_elim (λ n. n l) (λ n. n m) ne)
given_unique w slot x y r s (refused ne) (refused ne') = (refl, refl)
