-- The best message by its door: the number of each outcome.
--     answering_done, answering_refused     where the call is accepted, and where it is not
--     stages_best_message_unique            any two results that the door allows are equal
use mathlib.Core.Path.{◌≡◌, refl, sym, ◌∙◌}
use mathlib.Core.Bool.{Bool, true, false, false≢true, not, ◌&&◌}
use mathlib.Core.List.{List, [], ◌∷◌}
use Prim.Native.Nat.{ℕ}
use lib.Dec.{ltb}
use lib.ListN.{length}
use Rattle.lists.specs.Tests.{all_below}
use Rattle.settings.specs.Answers.{◌when◌, first_of}
use Rattle.best_message.specs.Entry.{is_pair, accepted}
use Rattle.stages.specs.BestMessage.{fitting, refusing, answering, BestMessage}

-- by the outcomes of the tests: the register, the lengths, the pairs
abbrev Number : Bool → Bool → Bool → ℕ
Number register lengths pairs = first_of ((7 when not register) ∷ (5 when not lengths) ∷ (10 when not pairs) ∷ [])

all_passed : (register lengths pairs : Bool) → (lengths && register && pairs) ≡ true → 0 ≡ Number register lengths pairs
all_passed true true true e = refl
all_passed true true false e = absurd (false≢true e)
all_passed true false pairs e = absurd (false≢true e)
all_passed false true pairs e = absurd (false≢true e)
all_passed false false pairs e = absurd (false≢true e)

one_failed : (register lengths pairs : Bool) → (lengths && register && pairs) ≡ false
    → Number register lengths false ≡ Number register lengths pairs
one_failed true true true e = absurd (false≢true (sym e))
one_failed true true false e = refl
one_failed true false pairs e = refl
one_failed false lengths pairs e = refl

module _ (pairs : List ℕ) (register room bits : ℕ) where
  pub answering_done : accepted pairs register room bits ≡ true → 0 ≡ answering pairs register room bits
  unfolding accepted answering fitting
  answering_done e =
      all_passed (ltb register 64) (fitting (length pairs) room bits) (all_below (length pairs) (is_pair pairs)) e

  pub answering_refused : accepted pairs register room bits ≡ false
      → refusing (length pairs) register room bits ≡ answering pairs register room bits
  unfolding accepted answering refusing fitting
  answering_refused e =
      one_failed (ltb register 64) (fitting (length pairs) room bits) (all_below (length pairs) (is_pair pairs)) e

pub stages_best_message_unique : (pairs : List ℕ) (register : ℕ) (table message t u m n : List ℕ) (r s : ℕ)
    → BestMessage pairs register table message t m r → BestMessage pairs register table message u n s
    → (t ≡ u) × (m ≡ n) × (r ≡ s)
stages_best_message_unique pairs register table message t u m n r s a b =
    (a.table_left ∙ sym b.table_left, a.message_left ∙ sym b.message_left, a.number ∙ sym b.number)
